-- Each operator and primitive has a number of its list. Assumes nothing.
use mathlib.Core.Path.{◌≡◌, refl}
use mathlib.Core.Bool.{true}
use Rattle.operators.specs.Operators.{is_operator, is_primitive}
use Rattle.operators.specs.Numbers.{operator_number, primitive_number}
use Rattle.operators.specs.declared.Operator.{Operator}
use Rattle.operators.specs.declared.Operator.TheVariants as O
use Rattle.operators.specs.declared.Primitive.{Primitive}
use Rattle.operators.specs.declared.Primitive.TheVariants as P

pub operator_listed : (op : Operator) → is_operator (operator_number op) ≡ true
operator_listed O.Add = refl
operator_listed O.Sub = refl
operator_listed O.Mul = refl
operator_listed O.Div = refl

pub primitive_listed : (p : Primitive) → is_primitive (primitive_number p) ≡ true
primitive_listed P.Null = refl
primitive_listed P.Bool = refl
primitive_listed P.Int = refl
primitive_listed P.Float = refl
primitive_listed P.String = refl
primitive_listed P.Path = refl
primitive_listed P.Uri = refl
primitive_listed P.Number = refl
