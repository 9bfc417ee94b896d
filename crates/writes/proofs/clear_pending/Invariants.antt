-- What the loops of `clear_pending` keep, and why they end.
use Rattle.writes.proofs.Pending.{Emptying}
use Rattle.model.specs.Format.{pending_region}
use Rattle.model.specs.Image.{count}
use Rattle.writes.proofs.clear_pending.Given as goal

abbrev pub invariant-loop-image : goal.invariant-loop-image
invariant-loop-image l = Emptying l.initial.image l.image

abbrev pub decreases-loop-image : goal.decreases-loop-image
decreases-loop-image l = count l.image pending_region
