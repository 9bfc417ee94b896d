-- A word of a record, as it stands in a table's words; how many words a table has. Assumes nothing.
use Rattle.std.specs.Prelude.{ℕ, ◌+◌, ◌*◌, List, slice_index_or}
use Rattle.model.specs.Format.{header_words, entry_width, field_width, bound_width, visited_width, pending_width, equals_width}
use Rattle.image.specs.declared.Capacities.{Capacities}

-- the word `which` of record `n`, by where the header has its region's offset and by the record's width; 0 past the last
abbrev pub record_word : List ℕ → ℕ → ℕ → ℕ → ℕ → ℕ
record_word words offset_at width n which = slice_index_or words (slice_index_or words offset_at 0 + width * n + which) 0

-- how many words a table of these capacities has: the header's and each region's
abbrev pub size_of : Capacities → ℕ
size_of c =
    header_words + entry_width * c.entries + field_width * c.fields + bound_width * c.bounds + visited_width * c.visited + pending_width * c.pending + equals_width * c.equals
