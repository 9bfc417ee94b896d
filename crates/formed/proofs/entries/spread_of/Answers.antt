-- `formed::entries::spread_of` meets its contract. Assumes nothing.
use borrow.Author.Tests.{le-leb, lt-leb}
use Rattle.model.specs.Making.{spread_of}
use Rattle.formed.proofs.entries.spread_of.Goals as goal

pub returns-then-kind-le-ATTRSET : goal.returns-then-kind-le-ATTRSET
unfolding spread_of
returns-then-kind-le-ATTRSET c = rw (le-leb _ _ c.if-kind-le-ATTRSET.true)

pub returns-then-kind-le-NEG : goal.returns-then-kind-le-NEG
unfolding spread_of
returns-then-kind-le-NEG c = rw (lt-leb _ _ c.if-kind-le-ATTRSET.false, le-leb _ _ c.if-kind-le-NEG.true, c.spread_at.ensures.0)

pub returns-else-kind-le-NEG : goal.returns-else-kind-le-NEG
unfolding spread_of
returns-else-kind-le-NEG c = rw (lt-leb _ _ c.if-kind-le-ATTRSET.false, lt-leb _ _ c.if-kind-le-NEG.false, c.spread_at-else-kind-le-NEG.ensures.0, c.spread_at-else-kind-le-NEG-2.ensures.0)
