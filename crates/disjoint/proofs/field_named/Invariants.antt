-- What the loops of `field_named` keep.
use Prim.Native.Nat.{◌≤◌}
use mathlib.Core.Path.{◌≡◌}
use lib.ListN.{length}
use Rattle.image.specs.Shown.{fields_in}
use Rattle.disjoint.specs.Fields.{found_from, number_named}
use Rattle.disjoint.proofs.Fields.{rest}
use Rattle.disjoint.proofs.field_named.Given as goal

abbrev pub invariant-loop-i : goal.invariant-loop-i
invariant-loop-i l = (l.i ≤ l.end) × (l.end ≤ length (fields_in l.image)) × (number_named (fields_in l.image) l.first l.count l.name ≡ found_from l.i (rest (fields_in l.image) l.i l.end) l.name)
