-- What the loops of `is_deep` keep.
use Prim.Native.Nat.{◌≤◌}
use lib.ListN.{length}
use Rattle.image.specs.Shown.{entries_of}
use Rattle.step.proofs.Settling.{ShallowTo}
use Rattle.step.proofs.is_deep.Given as goal

abbrev pub invariant-loop-i : goal.invariant-loop-i
invariant-loop-i l = (l.i ≤ length (entries_of l.image)) × ShallowTo l.i (entries_of l.image)
