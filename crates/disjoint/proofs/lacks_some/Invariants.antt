-- What the loops of `lacks_some` keep.
use Prim.Native.Nat.{◌≤◌}
use mathlib.Core.Path.{◌≡◌}
use lib.ListN.{length}
use Rattle.model.specs.Lists.{any}
use Rattle.model.specs.Shapes.{lacks_field}
use Rattle.image.specs.Shown.{fields_in}
use Rattle.disjoint.specs.Fields.{fields_held}
use Rattle.disjoint.proofs.Fields.{rest}
use Rattle.disjoint.proofs.lacks_some.Given as goal

abbrev pub invariant-loop-j : goal.invariant-loop-j
invariant-loop-j l = (l.j ≤ l.end)
    × (l.end ≤ length (fields_in l.image))
    × (any (lacks_field (fields_held (fields_in l.image) l.a)) (rest (fields_in l.image) l.initial.j l.end) ≡ any (lacks_field (fields_held (fields_in l.image) l.a)) (rest (fields_in l.image) l.j l.end))
