-- A bound record of a variable on a side. Assumes nothing.
use Rattle.std.specs.Prelude.{ℕ, Bool, ◌&&◌, eqb}
use Rattle.model.specs.Table.{Bound}

abbrev pub belongs_to : ℕ → ℕ → Bound → Bool
belongs_to v side b = eqb b.variable v && eqb b.side side

abbrev pub is_bound : ℕ → ℕ → ℕ → Bound → Bool
is_bound v side b r = belongs_to v side r && eqb b r.bound
