-- `skip`: the last pair taken off, and the question ended where it was the last of all.
use Rattle.image.proofs.Laying.{shown_as, shown_laid}
use Rattle.writes.proofs.Pending.{while_asked, stated}
use Rattle.step.proofs.skip.Goals as goal

pub pop-requires-clause-laid : goal.pop-requires-clause-laid
pop-requires-clause-laid c = shown_laid c.requires.shown

pub end_if_done-requires : goal.end_if_done-requires
end_if_done-requires c = shown_as (c.pop.ensures _ (while_asked c.requires.shown c.requires.nonzero))

pub returns : goal.returns
returns c = stated (c.pop.ensures _ (while_asked c.requires.shown c.requires.nonzero)) c.end_if_done.ensures
