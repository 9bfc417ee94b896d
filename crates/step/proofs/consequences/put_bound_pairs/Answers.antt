-- The loop goes down over the bound records.
use mathlib.Core.Path.{sym, ◌∙◌}
use Rattle.image.proofs.Laying.{shown_laid}
use Rattle.step.proofs.BoundPairs.{paired_start, paired_shown, paired_inside, paired_room, paired_more, paired_skip, paired_end}
use Rattle.step.proofs.consequences.put_bound_pairs.Goals as goal

pub records-n-requires : goal.records-n-requires
records-n-requires c = shown_laid c.requires.midway

pub loop-i-init : goal.loop-i-init
loop-i-init c = paired_start _ _ _ _ _ c.requires.midway c.requires.side_len_bound c.records-n.ensures

pub belongs-requires-clause-laid : goal.belongs-requires-clause-laid
belongs-requires-clause-laid c = shown_laid c.loop-i.invariant.shows

pub belongs-requires-clause-i_in_bounds : goal.belongs-requires-clause-i_in_bounds
belongs-requires-clause-i_in_bounds c = paired_inside _ _ _ _ _ _ c.loop-i.invariant c.loop-i-test.true

pub word-x-requires-clause-laid : goal.word-x-requires-clause-laid
word-x-requires-clause-laid c = shown_laid c.loop-i.invariant.shows

pub word-x-requires-clause-i_in_bounds : goal.word-x-requires-clause-i_in_bounds
word-x-requires-clause-i_in_bounds c = paired_inside _ _ _ _ _ _ c.loop-i.invariant c.loop-i-test.true

pub put_bound_pair-requires-clause-midway : goal.put_bound_pair-requires-clause-midway
put_bound_pair-requires-clause-midway c = paired_shown _ _ _ _ _ _ c.loop-i.invariant

pub put_bound_pair-requires-clause-image_len_bound : goal.put_bound_pair-requires-clause-image_len_bound
put_bound_pair-requires-clause-image_len_bound c = paired_room _ _ _ _ _ _ c.loop-i.invariant c.loop-i-test.true (sym c.belongs.ensures ∙ c.if-belongs.true)

pub loop-i-preserved-then-belongs : goal.loop-i-preserved-then-belongs
loop-i-preserved-then-belongs c = paired_more _ _ _ _ _ _ c.loop-i.invariant c.loop-i-test.true (sym c.belongs.ensures ∙ c.if-belongs.true) _ _ c.word-x.ensures c.put_bound_pair.ensures

pub loop-i-preserved : goal.loop-i-preserved
loop-i-preserved c = paired_skip _ _ _ _ _ _ c.loop-i.invariant c.loop-i-test.true (sym c.belongs.ensures ∙ c.if-belongs.false)

pub returns : goal.returns
returns c = paired_end _ _ _ _ _ _ c.loop-i.invariant c.loop-i-test.false
