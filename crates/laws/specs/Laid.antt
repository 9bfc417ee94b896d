-- Words laid out as an image, as plain arithmetic: what a function needs to know to read them. Assumes nothing.
use Rattle.std.specs.Prelude.{ℕ, ◌+◌, ◌*◌, ◌≤◌, ◌≡◌, List, length}
use Rattle.model.specs.Format.{header_words, entries_region, fields_region, bounds_region, visited_region, pending_region, equals_region}
use Rattle.model.specs.Format.{entry_width, field_width, bound_width, visited_width, pending_width, equals_width}
use Rattle.model.specs.Format.{entries_most, fields_most, bounds_most, visited_most, pending_most, equals_most}
use Rattle.model.specs.Parts.{offset, capacity, count}

-- region k, of at most so many records, starts at a word
pub record RegionLaid (w : List ℕ) (k most at : ℕ) : Type 0 where
  pub starts : offset w k ≡ at
  pub small : capacity w k ≤ most
  pub held : count w k ≤ capacity w k

-- "a header, then six regions without gaps, ending at the slice's end"; "no count passes its capacity"
pub record Laid (w : List ℕ) : Type 0 where
  pub head : header_words ≤ length w
  pub entries : RegionLaid w entries_region entries_most header_words
  pub fields : RegionLaid w fields_region fields_most (header_words + entry_width * capacity w entries_region)
  pub bounds : RegionLaid w bounds_region bounds_most (offset w fields_region + field_width * capacity w fields_region)
  pub visited : RegionLaid w visited_region visited_most (offset w bounds_region + bound_width * capacity w bounds_region)
  pub pending : RegionLaid w pending_region pending_most (offset w visited_region + visited_width * capacity w visited_region)
  pub equals : RegionLaid w equals_region equals_most (offset w pending_region + pending_width * capacity w pending_region)
  pub end : length w ≡ offset w equals_region + equals_width * capacity w equals_region
