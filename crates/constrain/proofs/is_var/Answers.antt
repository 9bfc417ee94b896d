-- `is_var`: whether entry n is a variable.
use Rattle.model.specs.Table.{is, is_at}
use Rattle.constrain.proofs.is_var.Goals as goal

pub returns : goal.returns
unfolding is is_at
returns c = rw c.word.ensures
