-- `put_mark`: marks entry i.
use Rattle.writes.proofs.Places.{become, entry_put}
use Rattle.image.proofs.Laying.{shown_laid}
use Rattle.image.specs.Shown.{entries_of}
use Rattle.model.specs.Format.{header_words, entry_width}
use Rattle.model.specs.Making.{with_mark}
use Rattle.model.specs.Table.{entry_at}
use lib.ListN.{set}
use Prim.Native.Nat.{ℕ, ◌+◌, ◌-◌, ◌*◌, ◌%◌}
use mathlib.Core.Path.{refl, ap, ◌∙◌}
use native.Mathlib.Omega.{arith}
use Rattle.writes.proofs.put_mark.Goals as goal

pub word-flags-requires-clause-laid : goal.word-flags-requires-clause-laid
word-flags-requires-clause-laid c = shown_laid c.requires.shown

pub put_entry_word-requires-clause-laid : goal.put_entry_word-requires-clause-laid
put_entry_word-requires-clause-laid c = shown_laid c.requires.shown

pub returns : goal.returns
returns c =
    let a = c.args in
    let w = a.image.now in
    let f = (entry_at (entries_of w) a.i).flags in
    become (c.put_entry_word.ensures ∙ ap (λ (n : ℕ). set w (header_words + entry_width * a.i + 4) (n - n % 2 + 1)) c.word-flags.ensures)
    (entry_put w c.requires.shown with_mark a.i 4 (f - f % 2 + 1) c.requires.i_in_bounds (omega arith) refl)
