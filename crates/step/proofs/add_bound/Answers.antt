-- The bound pushed, or one that repeats it.
use Rattle.image.proofs.Laying.{shown_laid}
use Rattle.step.proofs.Chains.{bound_push, bound_put, bound_kept}
use Rattle.step.proofs.add_bound.Goals as goal

pub push-requires-clause-laid : goal.push-requires-clause-laid
push-requires-clause-laid c = shown_laid c.requires.shown

pub push-requires-clause-room : goal.push-requires-clause-room
push-requires-clause-room c = bound_push _ _ _ _ _ c.requires.repeated_value c.if-not-repeated.true c.requires.image_len_bound

pub returns-then-not-repeated : goal.returns-then-not-repeated
returns-then-not-repeated c = bound_put _ _ _ _ _ c.requires.repeated_value c.if-not-repeated.true _ (c.push.ensures _ c.requires.shown)

pub returns-else-not-repeated : goal.returns-else-not-repeated
returns-else-not-repeated c = bound_kept _ _ _ _ _ c.requires.repeated_value c.if-not-repeated.false c.requires.shown
