-- `dynamic_type`: the dynamic type, or 0.
use Rattle.model.specs.Calls.{dynamic_type}
use Rattle.type_table.proofs.dynamic_type.Goals as goal

pub returns-in-None : goal.returns-in-None
unfolding dynamic_type
returns-in-None c = rw c.in-None.is

pub returns-in-Some : goal.returns-in-Some
unfolding dynamic_type
returns-in-Some c = rw c.in-Some.is
