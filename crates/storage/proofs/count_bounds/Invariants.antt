-- What the loops of `count_bounds` keep.
use Prim.Native.Nat.{◌≤◌}
use Rattle.image.specs.Shown.{bounds_all}
use Rattle.storage.proofs.Scan.{Counted}
use Rattle.storage.proofs.count_bounds.Given as goal

abbrev pub invariant-loop-i : goal.invariant-loop-i
invariant-loop-i l = (l.i ≤ l.n) × (l.found ≤ l.i) × Counted l.v l.side (bounds_all l.image) l.i l.found
