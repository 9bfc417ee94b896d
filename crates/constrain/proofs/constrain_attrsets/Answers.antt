-- Both read out as attrsets, or one does not; the two passes are the model's attrset rule.
use borrow.Author.Rules.{rules}
use mathlib.Core.Path.{sym, ◌∙◌}
use Rattle.constrain.proofs.Gathering.{attrset_inside, first_other, second_other, both_told}
use Rattle.constrain.proofs.constrain_attrsets.Goals as goal

pub returns-in_default : goal.returns-in_default
returns-in_default c = first_other _ c.requires.good _ _ c.requires.sub_in_bounds c.requires.sup_in_bounds c.entry-d.ensures (search rules)

pub returns-in_default-e : goal.returns-in_default-e
returns-in_default-e c =
    second_other _ c.requires.good _ _ c.requires.sub_in_bounds c.requires.sup_in_bounds
    (sym c.in-AttrSet.is ∙ c.entry-d.ensures)
    c.entry-e.ensures (search rules)

pub gather-requires-clause-inside : goal.gather-requires-clause-inside
gather-requires-clause-inside c = attrset_inside _ c.requires.good _ c.requires.sub_in_bounds (sym c.in-AttrSet.is ∙ c.entry-d.ensures)

pub gather-requires-clause-inside_2 : goal.gather-requires-clause-inside_2
gather-requires-clause-inside_2 c = attrset_inside _ c.requires.good _ c.requires.sup_in_bounds (sym c.in-AttrSet-e.is ∙ c.entry-e.ensures)

pub returns : goal.returns
returns c =
    both_told _ c.requires.good _ _ c.requires.sub_in_bounds c.requires.sup_in_bounds
    (sym c.in-AttrSet.is ∙ c.entry-d.ensures)
    (sym c.in-AttrSet-e.is ∙ c.entry-e.ensures)
    c.gather.ensures
