-- The model's tests of an image, grouped as the functions take them: what the header says is tested before a region is read.
-- Assumes nothing.
use Rattle.std.specs.Prelude.{ℕ, ◌+◌, ◌*◌, ◌≤◌, List, [], ◌∷◌, Bool, ◌&&◌, length, ltb}
use Rattle.model.specs.Lists.{all_of, all}
use Rattle.model.specs.Format.{regions, newest, header_words, entry_width}
use Rattle.model.specs.Table.{Entry, Field, Pair, ◌⊑◌}
use Rattle.model.specs.Image.{word, offset, capacity, count}
use Rattle.model.specs.Formed.{header_whole, format_known, state_known, pending_when_asked, names_few, functor_known, names_ascend, entry_right}
use Rattle.image.specs.Shown.{store_of, entries_of, fields_in}
use Rattle.formed.specs.declared.entries.EntryWords.{EntryWords}

unfoldable pub header_right : List ℕ → Bool
header_right ws = all_of (header_whole ws ∷ format_known ws ∷ state_known ws ∷ pending_when_asked ws ∷ names_few ws ∷ functor_known ws ∷ [])

-- region k lies inside the words
pub record RegionInside (ws : List ℕ) (k width : ℕ) : Type 0 where
  pub head : header_words ≤ length ws
  pub number : k ≤ length (regions newest)
  pub narrow : width ≤ entry_width
  pub held : count ws k ≤ capacity ws k
  pub inside : offset ws k + width * capacity ws k ≤ length ws

-- an entry from its words
abbrev pub entry_told : EntryWords → Entry
entry_told e = record { kind = e.kind; x = e.x; y = e.y; z = e.z; flags = e.flags; spread = e.spread; negation = e.negation }

-- a record of two words, visited, pending or equals: all three are tested alike
abbrev pub pair_of : List ℕ → Pair
pair_of ws = word ws 0 ⊑ word ws 1

-- an attrset's own fields, where they lie inside the field count
unfoldable pub own_right : ℕ → ℕ → List Field → Bool
own_right names i fs = names_ascend names fs && all (λ f. ltb f.entry i) fs

-- the model's test of an entry, in the table that is read off words
abbrev pub entry_right_in : List ℕ → ℕ → Entry → Bool
entry_right_in ws = entry_right (entries_of ws) (fields_in ws) (store_of ws).names
