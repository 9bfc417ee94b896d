-- `formed::entries::has_dynamic_type` meets its contract. Assumes nothing.
use Rattle.model.specs.Table.{is, has_dynamic}
use Rattle.model.specs.Formed.{has_dynamic_type}
use Rattle.formed.proofs.entries.has_dynamic_type.Goals as goal

pub returns : goal.returns
unfolding has_dynamic_type is has_dynamic
returns c = rw c.says_dynamic.ensures
