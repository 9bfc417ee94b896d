-- The operators on primitives, as document 01's table has them, and the three calls. Assumes nothing.
use Rattle.std.specs.Prelude.{ℕ, [], ◌∷◌, Bool, cond, ◌&&◌, ◌||◌, eqb, leb, Option, None, Some, Result, Ok, Err}
use Rattle.model.specs.Told.{Told, done, told_refusal}
use Rattle.model.specs.declared.Refusal.{Refusal}
use Rattle.model.specs.declared.Refusal.TheVariants as F

-- what a call answers: a primitive's number, none, or a refusal
abbrev pub Resolved : Type 0
Resolved = Result (Option ℕ) Refusal

-- "Null, Bool, Int, Float, String, Path, Uri, Number (0 to 7)"
abbrev pub null : ℕ
null = 0

abbrev pub bool : ℕ
bool = 1

abbrev pub int : ℕ
int = 2

abbrev pub float : ℕ
float = 3

abbrev pub string : ℕ
string = 4

abbrev pub path : ℕ
path = 5

abbrev pub uri : ℕ
uri = 6

abbrev pub number : ℕ
number = 7

abbrev pub is_primitive : ℕ → Bool
is_primitive p = leb p number

-- "Sub, Mul, Div (1 to 3)", "Add (0)"
abbrev pub add : ℕ
add = 0

abbrev pub sub : ℕ
sub = 1

abbrev pub mul : ℕ
mul = 2

abbrev pub div : ℕ
div = 3

abbrev pub is_operator : ℕ → Bool
is_operator op = leb op div

-- "two of Int, Float, Number"
unfoldable pub is_numeric : ℕ → Bool
is_numeric p = eqb p int || eqb p float || eqb p number

-- "Float if either is, else Number if either is, else Int"
unfoldable pub numeric_result : ℕ → ℕ → ℕ
numeric_result l r = cond (eqb l float || eqb r float) float (cond (eqb l number || eqb r number) number int)

-- "two of String, Path"
unfoldable pub is_text : ℕ → Bool
is_text p = eqb p string || eqb p path

-- two numeric ones: their result; "Add of two of String, Path: the left; else none"
unfoldable pub result_of : ℕ → ℕ → ℕ → Option ℕ
result_of op l r =
    cond (is_numeric l && is_numeric r) (Some (numeric_result l r))
    (cond (eqb op add && is_text l && is_text r) (Some l) None)

-- "Known from the left alone: Add on String or Path, that one"
unfoldable pub known_from_left : ℕ → ℕ → Option ℕ
known_from_left op l = cond (eqb op add && is_text l) (Some l) None

-- "Bound at once: Number for Sub, Mul, Div (1 to 3), none for Add (0)"
unfoldable pub bound_at_once : ℕ → Option ℕ
bound_at_once op = cond (eqb op add) None (Some number)

-- refusal 2: "a primitive .. or operator number outside its list"
abbrev pub bad_number : Resolved
bad_number = Err F.BadNumber

-- the calls
unfoldable pub resolved : ℕ → ℕ → ℕ → Resolved
resolved op l r = cond (is_operator op && is_primitive l && is_primitive r) (Ok (result_of op l r)) bad_number

unfoldable pub from_left : ℕ → ℕ → Resolved
from_left op l = cond (is_operator op && is_primitive l) (Ok (known_from_left op l)) bad_number

unfoldable pub at_once : ℕ → Resolved
at_once op = cond (is_operator op) (Ok (bound_at_once op)) bad_number

-- what an answer tells: a primitive's number, nothing, or the refusal
abbrev pub told_resolved : Resolved → Told
told_resolved (Ok (Some p)) = done (p ∷ [])
told_resolved (Ok None) = done []
told_resolved (Err r) = told_refusal r

-- to compute: unfolds all of this file
unfoldable pub operating : Unit {0}
unfolding is_numeric numeric_result is_text result_of known_from_left bound_at_once resolved from_left at_once
operating = tt
