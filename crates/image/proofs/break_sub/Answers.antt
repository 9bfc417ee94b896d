-- `break_sub`: the break's sub: the word that the header has.
use mathlib.Core.Path.{refl}
use Rattle.model.specs.Image.{table}
use Rattle.image.proofs.break_sub.Goals as goal

pub returns : goal.returns
unfolding table
returns c = refl
