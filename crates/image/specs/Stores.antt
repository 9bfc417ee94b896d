-- What the stores of a push or a pop need, and leave, in words, one definition for every region; and those of a start. Assumes nothing.
use Rattle.std.specs.Prelude.{ℕ, suc, ◌+◌, ◌-◌, ◌*◌, List, [], ◌∷◌, set, replicate}
use Rattle.std.proofs.lemmas.List.Edits.{sets}
use Rattle.model.specs.Format.{Region, regions, newest, header_words, format_word, format_at, names_at, functor_at, offset_at, count_at}
use Rattle.model.specs.Table.{Capacities}
use Rattle.model.specs.Parts.{offset, count}
use Rattle.model.specs.Image.{in_order}
use Rattle.image.specs.declared.Capacities.{Capacities as CapacitiesIn}

-- a record's words behind the last of region k, and one more counted
abbrev pub appended : List ℕ → (k width : ℕ) → List ℕ → List ℕ
appended w k width r = set (sets w (offset w k + width * count w k) r) (count_at k) (count w k + 1)

-- the last record's words zero, and one less counted
abbrev pub removed : List ℕ → (k width : ℕ) → List ℕ
removed w k width = set (sets w (offset w k + width * (count w k - 1)) (replicate width 0)) (count_at k) (count w k - 1)

-- capacities as they are handed over
abbrev pub capacities_of : CapacitiesIn → Capacities
capacities_of c = record { entries = c.entries; fields = c.fields; bounds = c.bounds; visited = c.visited; pending = c.pending; equals = c.equals }

-- region k's words of the header of an empty image, and those of the regions behind it, the first of which starts at a word
unfoldable pub headed_from : (k at : ℕ) → List Region → List ℕ → List ℕ → List ℕ
headed_from k at (r ∷ rs) (c ∷ cs) w = headed_from (suc k) (at + r.width * c) rs cs (sets w (offset_at k) (at ∷ c ∷ 0 ∷ []))
headed_from k at (r ∷ rs) [] w = w
headed_from k at [] cs w = w

-- the header of an empty image, written over zeroes
unfoldable pub headed : List ℕ → ℕ → ℕ → Capacities → List ℕ
headed w names functor c =
    let front = set (set (set w format_at format_word) names_at names) functor_at functor in
    headed_from 1 header_words (regions newest) (in_order c) front
