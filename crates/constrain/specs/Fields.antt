-- The attrset rule in two passes: what each of sup's fields asks, the first that is missing, and the pairs. Assumes nothing.
use Rattle.std.specs.Prelude.{ℕ, List, [], ◌∷◌, ◌++◌, Bool, not, cond, ◌&&◌, length, None, Some, Option}
use Rattle.model.specs.Lists.{is_zero}
use Rattle.model.specs.Table.{Field, Pair, ◌⊑◌}
use Rattle.model.specs.Shapes.{field_named}
use Rattle.model.specs.declared.Attrset.{Attrset}
use Rattle.disjoint.specs.Fields.{fields_held}
use Rattle.constrain.specs.declared.FieldAsk.{FieldAsk}
use Rattle.constrain.specs.declared.FieldAsk.TheVariants as A
use Rattle.constrain.specs.declared.Next.{Next}
use Rattle.constrain.specs.declared.Next.TheVariants.{Missing, Follow}
use Rattle.constrain.specs.declared.Pairs.TheVariants.{Fields}

-- "same field, a pair; else sub's dynamic type, a pair; else missing field if sub is closed and sup's field is not optional"
abbrev pub ask_dynamic : Option ℕ → Bool → Field → FieldAsk
ask_dynamic (Some n) is_open f = A.Under n
ask_dynamic None is_open f = cond (not is_open && is_zero f.optional) A.Missing A.Nothing

abbrev pub ask_by : Attrset → Field → Option Field → FieldAsk
ask_by a f (Some g) = A.Under g.entry
ask_by a f None = ask_dynamic a.dynamic a.is_open f

unfoldable pub ask_of : Attrset → List Field → Field → FieldAsk
ask_of a have f = ask_by a f (field_named have f.name)

-- the pairs of some of sup's fields, whatever is missing
abbrev pub add_asked : FieldAsk → Field → List Pair → List Pair
add_asked (A.Under x) f ps = (x ⊑ f.entry) ∷ ps
add_asked A.Nothing f ps = ps
add_asked A.Missing f ps = ps

unfoldable pub pairs_asked : Attrset → List Field → List Field → List Pair
pairs_asked a have [] = []
pairs_asked a have (f ∷ fs) = add_asked (ask_of a have f) f (pairs_asked a have fs)

-- "Then the pair of dynamic types if both have one."
abbrev pub dynamic_pairs : Option ℕ → Option ℕ → List Pair
dynamic_pairs None e = []
dynamic_pairs (Some m) None = []
dynamic_pairs (Some m) (Some n) = (m ⊑ n) ∷ []

abbrev pub both_dynamic : Option ℕ → Option ℕ → ℕ
both_dynamic d e = length (dynamic_pairs d e)

unfoldable pub field_pairs : List Field → Attrset → Attrset → List Pair
field_pairs fs a b = pairs_asked a (fields_held fs a) (fields_held fs b) ++ dynamic_pairs a.dynamic b.dynamic

-- the first that is missing
abbrev pub missing_or : FieldAsk → Field → Option ℕ → Option ℕ
missing_or (A.Under x) f rest = rest
missing_or A.Nothing f rest = rest
missing_or A.Missing f rest = Some f.name

unfoldable pub first_missing : Attrset → List Field → List Field → Option ℕ
first_missing a have [] = None
first_missing a have (f ∷ fs) = missing_or (ask_of a have f) f (first_missing a have fs)

abbrev pub gathered_by : List Field → Attrset → Attrset → Option ℕ → Next
gathered_by fs a b (Some name) = Missing name
gathered_by fs a b None = Follow (Fields a b (length (field_pairs fs a b)))

unfoldable pub gathered_in : List Field → Attrset → Attrset → Next
gathered_in fs a b = gathered_by fs a b (first_missing a (fields_held fs a) (fields_held fs b))

-- opens all that stands above
unfoldable pub gathering : Unit {0}
unfolding ask_of pairs_asked field_pairs first_missing gathered_in
gathering = tt
