-- `put_current_level`: puts the current level.
use Rattle.writes.proofs.Pending.{shows_level}
use Rattle.writes.proofs.Places.{facts}
use native.Mathlib.Omega.{arith}
use Rattle.writes.proofs.put_current_level.Goals as goal

pub bounds-image-6 : goal.bounds-image-6
bounds-image-6 c =
    let f = facts c.requires in
    omega arith

pub returns : goal.returns
returns c = shows_level _ c.requires c.args.l
