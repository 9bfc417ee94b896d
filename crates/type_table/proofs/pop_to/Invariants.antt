-- What the loops of `pop_to` keep, and why they end.
use lib.ListN.{length}
use Rattle.image.specs.Shown.{entries_of}
use Rattle.type_table.proofs.Undoing.{Popped}
use Rattle.type_table.proofs.pop_to.Given as goal

abbrev pub invariant-loop-image : goal.invariant-loop-image
invariant-loop-image l = Popped l.initial.image l.old l.image

abbrev pub decreases-loop-image : goal.decreases-loop-image
decreases-loop-image l = length (entries_of l.image)
