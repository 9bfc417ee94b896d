-- Consequences as they are put on pending. Assumes nothing.
use Rattle.std.specs.Prelude.{ℕ, List, []}
use Rattle.model.specs.Table.{Field, Pair}
use Rattle.model.specs.declared.Attrset.{Attrset}
use Rattle.image.specs.Records.{field_at}
use Rattle.disjoint.specs.Fields.{fields_held}
use Rattle.constrain.specs.Fields.{ask_of, add_asked}
use Rattle.constrain.specs.declared.Pairs.{Pairs}
use Rattle.constrain.specs.declared.Pairs.TheVariants.{Nothing, One, Two, Fields}

-- what field record j asks of a, as a pair or none
abbrev pub field_pair : List Field → Attrset → ℕ → List Pair
field_pair fs a j = add_asked (ask_of a (fields_held fs a) (field_at fs j)) (field_at fs j) []

-- how many, as it is told
abbrev pub count_in : Pairs → ℕ
count_in Nothing = 0
count_in (One a b) = 1
count_in (Two a b c d) = 2
count_in (Fields a b n) = n
