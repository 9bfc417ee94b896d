-- `put_negation`: caches a negation at entry i: c is its number plus 1, or 0.
use Rattle.writes.proofs.Places.{become, entry_put}
use Rattle.image.proofs.Laying.{shown_laid}
use Rattle.model.specs.Making.{with_negation}
use mathlib.Core.Path.{refl}
use native.Mathlib.Omega.{arith}
use Rattle.writes.proofs.put_negation.Goals as goal

pub put_entry_word-requires-clause-laid : goal.put_entry_word-requires-clause-laid
put_entry_word-requires-clause-laid c = shown_laid c.requires.shown

pub returns : goal.returns
returns c =
    let a = c.args in
    become c.put_entry_word.ensures (entry_put _ c.requires.shown (with_negation a.c) a.i 6 a.c c.requires.i_in_bounds (omega arith) refl)
