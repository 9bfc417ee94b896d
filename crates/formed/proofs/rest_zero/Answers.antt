-- `formed::rest_zero` meets its contract. Assumes nothing.
use mathlib.Core.Path.{◌∙◌}
use Rattle.formed.proofs.Whole.{rest_is}
use Rattle.formed.proofs.rest_zero.Goals as goal

pub returns : goal.returns
returns c =
    let a = c.args in
    c.zeros.ensures ∙ rest_is a.image.now a.k a.width c.requires _ _ _ c.offset-at.ensures.0 c.count.ensures.0 c.capacity.ensures.0
