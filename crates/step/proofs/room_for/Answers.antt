-- The visited region, then pending.
use native.Mathlib.Omega.{arith}
use Rattle.image.proofs.Laying.{formed_shown, formed_laid}
use Rattle.step.proofs.Rooms.{before_length, lacks_visited, lacks_pending, room_enough}
use Rattle.step.proofs.room_for.Goals as goal

pub room-requires : goal.room-requires
room-requires c = formed_laid _ c.requires.t

pub records-requires : goal.records-requires
records-requires c = formed_laid _ c.requires.t

pub returns-then-room-records : goal.returns-then-room-records
returns-then-room-records c = lacks_visited _ c.requires.t _ (omega (arith, c.records.ensures, c.room.ensures, c.if-room-records.true))

pub records-others-requires : goal.records-others-requires
records-others-requires c = formed_laid _ c.requires.t

pub room-requires-2 : goal.room-requires-2
room-requires-2 c = formed_laid _ c.requires.t

pub overflow_sub-room : goal.overflow_sub-room
overflow_sub-room c = omega (arith, c.room-2.ensures, c.records-others.ensures, (formed_shown _ c.requires.t).within.pending)

pub returns-then-room-others : goal.returns-then-room-others
returns-then-room-others c =
    lacks_pending _ c.requires.t _ (omega (arith, c.records.ensures, c.room.ensures, c.if-room-records.false))
    (omega (arith, before_length c.args.image.now, (formed_shown _ c.requires.t).within.pending, c.records-others.ensures, c.room-2.ensures, c.if-room-others.true))

pub returns : goal.returns
returns c =
    room_enough _ c.requires.t _ (omega (arith, c.records.ensures, c.room.ensures, c.if-room-records.false))
    (omega (arith, before_length c.args.image.now, (formed_shown _ c.requires.t).within.pending, c.records-others.ensures, c.room-2.ensures, c.if-room-others.false))
