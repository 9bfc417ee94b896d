-- `put_level`: puts entry i, a variable, at level l.
use Rattle.writes.proofs.Places.{become, entry_put}
use Rattle.image.proofs.Laying.{shown_laid}
use Rattle.model.specs.Calls.{with_x}
use mathlib.Core.Path.{refl}
use native.Mathlib.Omega.{arith}
use Rattle.writes.proofs.put_level.Goals as goal

pub put_entry_word-requires-clause-laid : goal.put_entry_word-requires-clause-laid
put_entry_word-requires-clause-laid c = shown_laid c.requires.shown

pub returns : goal.returns
returns c =
    let a = c.args in
    become c.put_entry_word.ensures (entry_put _ c.requires.shown (with_x a.l) a.i 1 a.l c.requires.i_in_bounds (omega arith) refl)
