-- Two pairs both ways, else one.
use Rattle.model.specs.Calls.{pairs_of}
use Rattle.questions.proofs.pairs_of.Goals as goal

pub returns-then-q : goal.returns-then-q
unfolding pairs_of
returns-then-q c = rw c.if-q.true

pub returns-else-q : goal.returns-else-q
unfolding pairs_of
returns-else-q c = rw c.if-q.false
