-- The number of each operator and primitive, and what the reads of a number answer. Assumes nothing.
use Rattle.std.specs.Prelude.{ℕ, ◌≡◌, ◌<◌, Option, None, Some, Result, MatchResult}
use Rattle.model.specs.declared.Refusal.{Refusal}
use Rattle.model.specs.declared.Refusal.TheVariants.{BadNumber}
use Rattle.operators.specs.Operators.{null, bool, int, float, string, path, uri, number, add, sub, mul, div}
use Rattle.operators.specs.declared.Operator.{Operator}
use Rattle.operators.specs.declared.Operator.TheVariants as O
use Rattle.operators.specs.declared.Primitive.{Primitive}
use Rattle.operators.specs.declared.Primitive.TheVariants as P

abbrev pub operator_number : Operator → ℕ
operator_number O.Add = add
operator_number O.Sub = sub
operator_number O.Mul = mul
operator_number O.Div = div

abbrev pub primitive_number : Primitive → ℕ
primitive_number P.Null = null
primitive_number P.Bool = bool
primitive_number P.Int = int
primitive_number P.Float = float
primitive_number P.String = string
primitive_number P.Path = path
primitive_number P.Uri = uri
primitive_number P.Number = number

-- the one with the number, or a refusal of a number outside the list
abbrev pub OperatorRead : ℕ → Result Operator Refusal → Type 0
OperatorRead n r = MatchResult r (λ op. operator_number op ≡ n) (λ e. (e ≡ BadNumber) × (div < n))

abbrev pub PrimitiveRead : ℕ → Result Primitive Refusal → Type 0
PrimitiveRead n r = MatchResult r (λ p. primitive_number p ≡ n) (λ e. (e ≡ BadNumber) × (number < n))

-- a primitive's number, where there is one
abbrev pub numbered : Option Primitive → Option ℕ
numbered None = None
numbered (Some p) = Some (primitive_number p)
