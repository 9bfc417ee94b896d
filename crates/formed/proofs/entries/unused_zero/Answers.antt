-- `formed::entries::unused_zero` meets its contract. Assumes nothing.
use Rattle.model.specs.Table.{is}
use Rattle.model.specs.Formed.{unused_zero}
use Rattle.formed.proofs.Tested.{joined_is, when_is}
use Rattle.formed.proofs.entries.unused_zero.Goals as goal

pub returns : goal.returns
unfolding unused_zero is
returns c = rw (c.two_components.ensures, c.has_dynamic_type.ensures) (simp when_is (joined_is _ _))
