-- How words are laid out: the laws' `Laid`, and where one region lies by itself. Assumes nothing.
use Rattle.std.specs.Prelude.{ℕ, ◌+◌, ◌*◌, ◌≤◌, ◌<◌, List, length}
use Rattle.model.specs.Format.{count_at}
use Rattle.model.specs.Parts.{offset, capacity, count}
pub use Rattle.laws.specs.Laid.{RegionLaid, Laid}

-- region k, of records so wide, lies behind its header words and inside the words; no other region is named
pub record At (w : List ℕ) (k width : ℕ) : Type 0 where
  pub head : count_at k < length w
  pub behind : count_at k < offset w k
  pub held : count w k ≤ capacity w k
  pub inside : offset w k + width * capacity w k ≤ length w
