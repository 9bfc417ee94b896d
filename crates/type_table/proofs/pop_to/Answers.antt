-- `pop_to`: takes off every entry from number old on.
use native.Mathlib.Omega.{arith}
use Rattle.image.proofs.Laying.{shown_laid}
use Rattle.type_table.proofs.Undoing.{popped_start, popped_shows, popped_more}
use Rattle.type_table.proofs.pop_to.Goals as goal

pub loop-image-init : goal.loop-image-init
loop-image-init c = popped_start _ _ c.requires.shown c.requires.in_bounds

pub records-requires : goal.records-requires
records-requires c = shown_laid (popped_shows _ _ _ c.loop-image.invariant)

pub pop-requires-clause-laid : goal.pop-requires-clause-laid
pop-requires-clause-laid c = shown_laid (popped_shows _ _ _ c.loop-image.invariant)

pub loop-image-smaller : goal.loop-image-smaller
loop-image-smaller c = (popped_more _ _ _ c.loop-image.invariant _ (omega (arith, c.records.ensures, c.loop-image-test.true)) (c.pop.ensures _ (popped_shows _ _ _ c.loop-image.invariant))).1

pub loop-image-preserved : goal.loop-image-preserved
loop-image-preserved c = (popped_more _ _ _ c.loop-image.invariant _ (omega (arith, c.records.ensures, c.loop-image-test.true)) (c.pop.ensures _ (popped_shows _ _ _ c.loop-image.invariant))).0
