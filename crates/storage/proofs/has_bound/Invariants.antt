-- What the loops of `has_bound` keep.
use Prim.Native.Nat.{◌≤◌}
use Rattle.image.specs.Shown.{bounds_all}
use Rattle.storage.proofs.Scan.{Sought}
use Rattle.storage.proofs.has_bound.Given as goal

abbrev pub invariant-loop-i : goal.invariant-loop-i
invariant-loop-i l = (l.i ≤ l.n) × Sought l.v l.side l.b (bounds_all l.image) l.i
