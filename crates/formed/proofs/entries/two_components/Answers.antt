-- `formed::entries::two_components` meets its contract. Assumes nothing.
use mathlib.Core.Path.{refl}
use Rattle.model.specs.Table.{is}
use Rattle.model.specs.Formed.{two_components}
use Rattle.formed.proofs.entries.two_components.Goals as goal

pub returns : goal.returns
unfolding two_components is
returns c = refl
