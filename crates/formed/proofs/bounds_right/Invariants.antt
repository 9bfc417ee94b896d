-- What the loops of `bounds_right` keep.
use Prim.Native.Nat.{◌≤◌}
use mathlib.Core.Path.{◌≡◌}
use mathlib.Core.Bool.{true}
use lib.ListN.{take}
use Rattle.model.specs.Lists.{all}
use Rattle.model.specs.Formed.{bound_right}
use Rattle.image.specs.Shown.{entries_of, bounds_all}
use Rattle.formed.proofs.bounds_right.Given as goal

abbrev pub invariant-loop-i : goal.invariant-loop-i
invariant-loop-i l = (l.i ≤ l.n) × (all (bound_right (entries_of l.image)) (take l.i (bounds_all l.image)) ≡ true)
