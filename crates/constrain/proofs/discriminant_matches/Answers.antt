-- `discriminant_matches`: whether entries a and b have the same kind.
use Rattle.model.specs.Table.{is, is_at}
use Rattle.constrain.proofs.discriminant_matches.Goals as goal

pub returns : goal.returns
unfolding is is_at
returns c = rw (c.word.ensures, c.word-2.ensures)
