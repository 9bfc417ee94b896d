-- What the loops of `fields_right` keep.
use Prim.Native.Nat.{◌≤◌}
use mathlib.Core.Path.{◌≡◌}
use lib.ListN.{take}
use Rattle.model.specs.Lists.{all}
use Rattle.model.specs.Formed.{field_right}
use Rattle.image.specs.Shown.{entries_of, fields_in}
use Rattle.formed.proofs.fields_right.Given as goal

abbrev pub invariant-loop-i : goal.invariant-loop-i
invariant-loop-i l = (l.i ≤ l.n) × (l.ok ≡ all (field_right (entries_of l.image)) (take l.i (fields_in l.image)))
