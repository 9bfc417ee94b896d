-- A pair visited and the last one taken off: the table after both.
use Rattle.image.proofs.Laying.{shown_laid}
use Rattle.step.proofs.Chains.{visited_pending, advanced}
use Rattle.step.proofs.advance.Goals as goal

pub push-requires-clause-laid : goal.push-requires-clause-laid
push-requires-clause-laid c = shown_laid c.requires.shown

pub pop-requires-clause-laid : goal.pop-requires-clause-laid
pop-requires-clause-laid c = shown_laid (c.push.ensures _ c.requires.shown)

pub pop-requires-clause-nonzero : goal.pop-requires-clause-nonzero
pop-requires-clause-nonzero c = (visited_pending _ _ _ (c.push.ensures _ c.requires.shown) c.requires.nonzero).1

pub returns : goal.returns
returns c = advanced _ _ _ (c.push.ensures _ c.requires.shown) _ (c.pop.ensures _ (visited_pending _ _ _ (c.push.ensures _ c.requires.shown) c.requires.nonzero).0)
