-- `break_name`: the break's name: the word that the header has.
use mathlib.Core.Path.{refl}
use Rattle.model.specs.Image.{table}
use Rattle.image.proofs.break_name.Goals as goal

pub returns : goal.returns
unfolding table
returns c = refl
