-- `dynamic_bit`: the flag that says that there is a dynamic type.
use native.Mathlib.Omega.{arith}
use mathlib.Core.Path.{refl}
use Rattle.model.specs.Calls.{dynamic_bit}
use Rattle.type_table.proofs.dynamic_bit.Goals as goal

pub returns-in-None : goal.returns-in-None
unfolding dynamic_bit
returns-in-None c = rw c.in-None.is (refl, omega arith)

pub returns-in-Some : goal.returns-in-Some
unfolding dynamic_bit
returns-in-Some c = rw c.in-Some.is (refl, omega arith)
