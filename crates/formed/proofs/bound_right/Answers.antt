-- `formed::bound_right` meets its contract. Assumes nothing.
use Prim.Native.Nat.{ℕ}
use mathlib.Core.Path.{◌≡◌, sym, ap, ◌∙◌}
use mathlib.Core.List.{List}
use mathlib.Core.Bool.{◌&&◌}
use lib.Dec.{leb}
use borrow.Author.Tests.{le-leb, lt-leb}
use Rattle.model.specs.Format.{variable, upper}
use Rattle.model.specs.Table.{is_at}
use Rattle.model.specs.Formed.{is_entry, bound_right}
use Rattle.image.specs.Shown.{entries_of}
use Rattle.image.specs.Reading.{entries_count}
use Rattle.formed.proofs.Tested.{two_fail, third_fails, fourth_decides}
use Rattle.formed.proofs.bound_right.Goals as goal

-- whether a word that is v's is a variable
of-variable : (w : List ℕ) {v n : ℕ} → v ≡ n → (is_entry (entries_of w) v && is_at (entries_of w) variable v) ≡ (is_entry (entries_of w) n && is_at (entries_of w) variable n)
of-variable w e = ap (λ v. is_entry (entries_of w) v && is_at (entries_of w) variable v) e

pub returns-then-not-is_variable : goal.returns-then-not-is_variable
unfolding bound_right is_entry
returns-then-not-is_variable c =
    let w = c.args.image.now in
    sym (two_fail _ _ _ (sym (c.is_variable.ensures ∙ of-variable w c.word.ensures) ∙ c.if-not-is_variable.true))

pub returns-then-word-gt-UPPER : goal.returns-then-word-gt-UPPER
unfolding bound_right is_entry
returns-then-word-gt-UPPER c = sym (third_fails _ _ _ _ (ap (λ s. leb s upper) (sym c.word-2.ensures) ∙ lt-leb _ _ c.if-word-gt-UPPER.true))

pub returns : goal.returns
unfolding bound_right is_entry
returns c =
    let w = c.args.image.now in
    rw (c.word-3.ensures, ← entries_count w) (sym (fourth_decides _ _ _ _
    (sym (c.is_variable.ensures ∙ of-variable w c.word.ensures) ∙ c.if-not-is_variable.false)
    (ap (λ s. leb s upper) (sym c.word-2.ensures) ∙ le-leb _ _ c.if-word-gt-UPPER.false)))
