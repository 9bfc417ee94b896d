-- A field by its name, as the number of its record. Assumes nothing.
use Rattle.std.specs.Prelude.{ℕ, zero, suc, ◌+◌, ◌<◌, ◌≤◌, List, [], ◌∷◌, cond, length, take, drop, eqb, None, Some, Option}
use Rattle.model.specs.Format.{attrset}
use Rattle.model.specs.Table.{Entry, Field, Graph, is}
use Rattle.model.specs.declared.Attrset.{Attrset}
use Rattle.image.specs.Records.{field_at}

-- the records of an attrset's fields are there
abbrev pub Inside : List Field → Attrset → Type 0
Inside fs a = a.first + a.count ≤ length fs

abbrev pub fields_held : List Field → Attrset → List Field
fields_held fs a = take a.count (drop a.first fs)

-- where the first field with a name stands, the records counted from i
unfoldable pub found_from : ℕ → List Field → ℕ → Option ℕ
found_from i [] name = None
found_from i (f ∷ fs) name = let rest = found_from (suc i) fs name in cond (eqb f.name name) (Some i) rest

-- the same, among the records first to first + count - 1
unfoldable pub number_named : List Field → (first count : ℕ) → ℕ → Option ℕ
number_named fs first count name = found_from first (take count (drop first fs)) name

-- the record of `__functor`, by word 8: "number of `__functor` plus 1, or 0"
unfoldable pub functor_number : List Field → (first count : ℕ) → ℕ → Option ℕ
functor_number fs first count zero = None
functor_number fs first count (suc name) = number_named fs first count name

unfoldable pub functor_record : Graph → Entry → Option ℕ
functor_record g e = cond (is attrset e) (functor_number g.fields e.x e.y g.functor) None

-- the field that was found
abbrev pub field_found : List Field → Option ℕ → Option Field
field_found fs (Some i) = Some (field_at fs i)
field_found fs None = None

-- its record is there
abbrev pub FoundInside : List Field → Option ℕ → Type 0
FoundInside fs (Some i) = i < length fs
FoundInside fs None = Unit {0}

-- opens all that stands above
unfoldable pub named_fields : Unit {0}
unfolding found_from number_named functor_number functor_record
named_fields = tt
