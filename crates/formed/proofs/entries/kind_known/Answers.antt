-- `formed::entries::kind_known` meets its contract. Assumes nothing.
use mathlib.Core.Path.{refl}
use Rattle.model.specs.Formed.{kind_known}
use Rattle.formed.proofs.entries.kind_known.Goals as goal

pub returns : goal.returns
unfolding kind_known
returns c = refl
