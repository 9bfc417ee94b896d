-- `visited_has`: whether a pair was visited.
use Rattle.image.proofs.Searching.{visited_by}
use Rattle.model.specs.Table.{◌⊑◌}
use mathlib.Core.Path.{◌∙◌}
use Rattle.image.proofs.visited_has.Goals as goal

pub returns : goal.returns
returns c =
    let a = c.args in
    c.has_pair.ensures ∙ visited_by a.image.now (a.sub ⊑ a.sup) _ _ c.wide-at.ensures c.wide-n.ensures
