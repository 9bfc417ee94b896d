-- `end_if_done`: ends the question, if nothing is pending.
use Rattle.writes.proofs.Places.{facts}
use native.Mathlib.Omega.{arith}
use Rattle.writes.proofs.end_if_done.Goals as goal

pub bounds-image-23 : goal.bounds-image-23
bounds-image-23 c =
    let f = facts c.requires in
    omega arith

pub bounds-image-1 : goal.bounds-image-1
bounds-image-1 c =
    let f = facts c.requires in
    omega arith
