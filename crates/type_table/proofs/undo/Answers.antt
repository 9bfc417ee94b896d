-- `undo`: undoes what making did to an image that had old entries.
use native.Mathlib.Omega.{arith}
use Rattle.image.proofs.Laying.{shown, shown_laid}
use Rattle.type_table.proofs.Undoing.{put_start, put_shows, put_skip, put_set, put_at, undo_end, popped_size}
use Rattle.type_table.proofs.undo.Goals.{then-old-word, else-old-word}
use Rattle.type_table.proofs.undo.Goals as goal

pub loop-i-init : goal.loop-i-init
loop-i-init c = put_start _ _ (shown c.pop_to.ensures) (popped_size _ _ _ c.pop_to.ensures c.requires.in_bounds)

pub word-requires-clause-laid : goal.word-requires-clause-laid
word-requires-clause-laid c = shown_laid (put_shows _ _ _ _ c.loop-i.invariant)

pub put_negation-requires-clause-shown : goal.put_negation-requires-clause-shown
put_negation-requires-clause-shown c = put_shows _ _ _ _ c.loop-i.invariant

pub loop-i-preserved : goal.loop-i-preserved
loop-i-preserved c =
    elim c.if-old-word.branch [
      | then-old-word w ↦ put_at _ _ _ _ _ w.image-is (put_set _ _ _ _ c.loop-i.invariant _ c.loop-i-test.true (omega (arith, c.word.ensures, w.if-old-word.true)) w.put_negation.ensures)
      | else-old-word w ↦ put_at _ _ _ _ _ w.image-is (put_skip _ _ _ _ c.loop-i.invariant c.loop-i-test.true (omega (arith, c.word.ensures, w.if-old-word.false)))
    ]

pub returns : goal.returns
returns c = undo_end _ _ _ c.pop_to.ensures c.requires.in_bounds _ _ c.loop-i.invariant c.loop-i-test.false
