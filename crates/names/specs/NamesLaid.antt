-- What the calls know of a list's layout once its header and offsets are right: names lie inside the list. The private
-- type `Names` holds it, and no public promise speaks of it. Assumes nothing.
use Rattle.std.specs.Prelude.{ℕ, ◌+◌, ◌≤◌, ◌<◌, List, length}
use Rattle.names.specs.Names.{name_count, bytes_at, name_at}

pub record NamesLaid (bs : List ℕ) : Type 0 where
  pub whole : bytes_at bs ≤ length bs
  pub inside : (i : ℕ) → i < name_count bs → (name_at bs i ≤ name_at bs (i + 1)) × (name_at bs (i + 1) ≤ length bs)
