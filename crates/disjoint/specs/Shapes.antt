-- Disjointness by shape, as disjoint.rs has it: an entry read out is projected to its shape. Assumes nothing.
use Rattle.std.specs.Prelude.{List, Bool, true, false, not, ◌&&◌, ◌||◌, is_some}
use Rattle.model.specs.Lists.{any}
use Rattle.model.specs.Table.{Field, Graph}
use Rattle.model.specs.Shapes.{primitives_disjoint, lacks_field}
use Rattle.model.specs.declared.Attrset.{Attrset}
use Rattle.model.specs.declared.Entry.{Entry as EntryOut}
use Rattle.model.specs.declared.Entry.TheVariants as E
use Rattle.disjoint.specs.declared.Shape.{Shape}
use Rattle.disjoint.specs.declared.Shape.TheVariants as S
use Rattle.disjoint.specs.Fields.{Inside, fields_held, functor_number}

abbrev pub shape_of : EntryOut → Shape
shape_of (E.Variable l) = S.Opaque
shape_of (E.Primitive p) = S.Primitive p
shape_of (E.List x) = S.List
shape_of (E.Lambda p b) = S.Lambda
shape_of (E.AttrSet a) = S.AttrSet a
shape_of (E.Named x l) = S.Opaque
shape_of (E.Neg x) = S.Opaque
shape_of (E.Inter x y) = S.Opaque
shape_of (E.Union x y) = S.Opaque

-- an attrset's field records are there
abbrev pub ShapeInside : List Field → Shape → Type 0
ShapeInside fs (S.Primitive p) = Unit {0}
ShapeInside fs (S.AttrSet a) = Inside fs a
ShapeInside fs S.List = Unit {0}
ShapeInside fs S.Lambda = Unit {0}
ShapeInside fs S.Opaque = Unit {0}

-- some field of b is not optional and no field of a
unfoldable pub lacks_some : List Field → Attrset → Attrset → Bool
lacks_some fs a b = any (lacks_field (fields_held fs a)) (fields_held fs b)

-- the model's closed_lacks and attrsets_disjoint, on attrsets by value
unfoldable pub closed_lacks_in : List Field → Attrset → Attrset → Bool
closed_lacks_in fs a b = not a.is_open && lacks_some fs a b

unfoldable pub attrsets_disjoint_in : List Field → Attrset → Attrset → Bool
attrsets_disjoint_in fs a b = closed_lacks_in fs a b || closed_lacks_in fs b a

-- the attrset has a field `__functor`
unfoldable pub callable : Graph → Attrset → Bool
callable g a = is_some (functor_number g.fields a.first a.count g.functor)

abbrev pub shapes_disjoint : Graph → Shape → Shape → Bool
shapes_disjoint g (S.Primitive p) (S.Primitive q) = primitives_disjoint p q
shapes_disjoint g (S.Primitive p) (S.AttrSet b) = true
shapes_disjoint g (S.Primitive p) S.List = true
shapes_disjoint g (S.Primitive p) S.Lambda = true
shapes_disjoint g (S.Primitive p) S.Opaque = false
shapes_disjoint g (S.AttrSet a) (S.Primitive q) = true
shapes_disjoint g (S.AttrSet a) (S.AttrSet b) = attrsets_disjoint_in g.fields a b
shapes_disjoint g (S.AttrSet a) S.List = true
shapes_disjoint g (S.AttrSet a) S.Lambda = not (callable g a)
shapes_disjoint g (S.AttrSet a) S.Opaque = false
shapes_disjoint g S.List (S.Primitive q) = true
shapes_disjoint g S.List (S.AttrSet b) = true
shapes_disjoint g S.List S.List = false
shapes_disjoint g S.List S.Lambda = true
shapes_disjoint g S.List S.Opaque = false
shapes_disjoint g S.Lambda (S.Primitive q) = true
shapes_disjoint g S.Lambda (S.AttrSet b) = not (callable g b)
shapes_disjoint g S.Lambda S.List = true
shapes_disjoint g S.Lambda S.Lambda = false
shapes_disjoint g S.Lambda S.Opaque = false
shapes_disjoint g S.Opaque b = false

-- opens all that stands above
unfoldable pub by_shape : Unit {0}
unfolding lacks_some closed_lacks_in attrsets_disjoint_in callable
by_shape = tt
