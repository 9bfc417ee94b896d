-- What the loops of `own_right` keep.
use Prim.Native.Nat.{◌≤◌}
use Rattle.image.specs.Shown.{fields_in}
use Rattle.formed.proofs.Owned.{Walked}
use Rattle.formed.proofs.entries.own_right.Given as goal

abbrev pub invariant-loop-k : goal.invariant-loop-k
invariant-loop-k l = (l.k ≤ l.fields) × Walked l.names l.i (fields_in l.image) l.first l.fields l.ok l.least l.k
