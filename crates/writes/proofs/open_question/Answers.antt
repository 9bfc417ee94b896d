-- `open_question`: opens the question whose pairs are pending.
use Rattle.writes.proofs.Pending.{state_asked, state_put}
use Rattle.writes.proofs.Places.{facts}
use native.Mathlib.Omega.{arith}
use Rattle.writes.proofs.open_question.Goals as goal

pub bounds-image-1 : goal.bounds-image-1
bounds-image-1 c =
    let f = facts c.requires.shown_as in
    omega arith

pub returns : goal.returns
returns c = state_put c.requires.shown_as 1 (state_asked _ c.requires.nonzero)
