-- `formed::entries::one_component` meets its contract. Assumes nothing.
use mathlib.Core.Path.{refl}
use Rattle.model.specs.Table.{is}
use Rattle.model.specs.Formed.{one_component}
use Rattle.formed.proofs.entries.one_component.Goals as goal

pub returns : goal.returns
unfolding one_component is
returns c = refl
