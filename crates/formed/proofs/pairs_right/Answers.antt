-- `formed::pairs_right` meets its contract. Assumes nothing.
use mathlib.Core.Path.{◌∙◌}
use Rattle.formed.proofs.Whole.{pairs_part}
use Rattle.formed.proofs.pairs_right.Goals as goal

pub returns : goal.returns
returns c =
    let a = c.args in
    c.below.ensures ∙ pairs_part a.image.now a.k c.requires _ _ c.offset-start.ensures.0 c.count.ensures.0
