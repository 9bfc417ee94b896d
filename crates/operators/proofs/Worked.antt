-- Every answer of the calls for the 4 operators and 8 primitives is the Rust's: one statement over a table of 256
-- results, 32 known from the left and 4 bound at once. Assumes nothing.
use Prim.Native.Nat.{ℕ}
use mathlib.Core.Path.{◌≡◌, refl}
use mathlib.Core.List.{List, [], ◌∷◌, map}
use Rattle.operators.specs.Operators.{operating, null, bool, int, float, string, path, uri, number, add, sub, mul, div, resolved, from_left, at_once}
use Rattle.operators.proofs.Oracle.{Row, Operator, answers}

abbrev primitives : List ℕ
primitives = null ∷ bool ∷ int ∷ float ∷ string ∷ path ∷ uri ∷ number ∷ []

abbrev operators : List ℕ
operators = add ∷ sub ∷ mul ∷ div ∷ []

abbrev row_of : ℕ → ℕ → Row
row_of op l = record { known = from_left op l; results = map (resolved op l) primitives }

abbrev operator_of : ℕ → Operator
operator_of op = record { once = at_once op; rows = map (row_of op) primitives }

pub worked : map operator_of operators ≡ answers
unfolding operating answers
worked = refl
