-- The bounds first, then the rest of the step.
use native.Mathlib.Omega.{arith}
use Rattle.image.proofs.Laying.{formed_laid}
use Rattle.step.proofs.Rooms.{bound_repeats, lacks_bounds, bound_more}
use Rattle.step.proofs.room_for_bound.Goals as goal

pub returns-then-repeated : goal.returns-then-repeated
returns-then-repeated c = bound_repeats _ c.requires.t c.args.repeated c.args.more c.if-repeated.true c.room_for.result c.room_for.ensures

pub room-requires : goal.room-requires
room-requires c = formed_laid _ c.requires.t

pub records-requires : goal.records-requires
records-requires c = formed_laid _ c.requires.t

pub returns-then-room-records : goal.returns-then-room-records
returns-then-room-records c = lacks_bounds _ c.requires.t c.args.repeated c.args.more c.if-repeated.false (omega (arith, c.records.ensures, c.room.ensures, c.if-room-records.true))

pub returns : goal.returns
returns c = bound_more _ c.requires.t c.args.repeated c.args.more c.if-repeated.false (omega (arith, c.records.ensures, c.room.ensures, c.if-room-records.false)) c.room_for-2.result c.room_for-2.ensures
