-- `push`: puts a record behind the last of a region.
use mathlib.Core.Path.{◌∙◌}
use Rattle.writes.proofs.Places.{become}
use Rattle.writes.proofs.push.Goals as goal

pub append-requires-clause-at : goal.append-requires-clause-at
append-requires-clause-at g c = rw (c.NUMBER.ensures, c.WIDTH.ensures) (g.met.R.Region.lies _ c.requires.laid)

pub append-requires-clause-region_bound : goal.append-requires-clause-region_bound
append-requires-clause-region_bound g c =
    let r = g.met.R.Region in
    rw (c.NUMBER.ensures, ← r.counted c.args.image.now, ← r.taken c.args.image.now) c.requires.room

pub append-requires-clause-row_len : goal.append-requires-clause-row_len
append-requires-clause-row_len g c = rw c.WIDTH.ensures c.requires.row_len

pub returns : goal.returns
returns g c = λ state s.
    become (c.append.ensures ∙ rw (c.NUMBER.ensures, c.WIDTH.ensures)) (g.met.R.Grows.grown state _ s c.args.row.now c.requires.row_len c.requires.room)
