-- The room for a question, region by region: proofs/Asking.antt.
use native.Mathlib.Omega.{arith}
use mathlib.Core.Path.{sym, ◌∙◌}
use Rattle.image.proofs.Laying.{formed_laid}
use Rattle.questions.proofs.Asking.{no_pending, no_equals, room_plain, room_one}
use Rattle.questions.proofs.room_for.Goals as goal

pub room-requires : goal.room-requires
room-requires c = formed_laid _ c.requires

pub returns-then-room-pairs_of : goal.returns-then-room-pairs_of
returns-then-room-pairs_of c = no_pending _ c.requires c.args.q (omega (arith, c.if-room-pairs_of.true, c.pairs_of.ensures, c.room.ensures))

pub returns-then-not-is_recorded : goal.returns-then-not-is_recorded
returns-then-not-is_recorded c = room_plain _ c.requires c.args.q (omega (arith, c.if-room-pairs_of.false, c.pairs_of.ensures, c.room.ensures)) (sym c.is_recorded.ensures ∙ c.if-not-is_recorded.true)

pub room-requires-2 : goal.room-requires-2
room-requires-2 c = formed_laid _ c.requires

pub records-requires : goal.records-requires
records-requires c = formed_laid _ c.requires

pub returns-then-room-records : goal.returns-then-room-records
returns-then-room-records c = no_equals _ c.requires c.args.q (omega (arith, c.if-room-pairs_of.false, c.pairs_of.ensures, c.room.ensures)) (sym c.is_recorded.ensures ∙ c.if-not-is_recorded.false) (omega (arith, c.if-room-records.true, c.records.ensures, c.room-2.ensures))

pub returns : goal.returns
returns c = room_one _ c.requires c.args.q (omega (arith, c.if-room-pairs_of.false, c.pairs_of.ensures, c.room.ensures)) (sym c.is_recorded.ensures ∙ c.if-not-is_recorded.false) (omega (arith, c.if-room-records.false, c.records.ensures, c.room-2.ensures))
