-- Each place hands what it knows to the laws of Settling.
use Rattle.image.proofs.Laying.{shown_laid, shown_as}
use Rattle.writes.proofs.Pending.{stated}
use Rattle.step.proofs.Settling.{settle_full, settle_deep, settle_push, settle_went}
use Rattle.step.proofs.settle.Goals as goal

pub room-requires : goal.room-requires
room-requires c = shown_laid c.requires.shown

pub records-requires : goal.records-requires
records-requires c = shown_laid c.requires.shown

pub returns-then-room-records-clause-value : goal.returns-then-room-records-clause-value
returns-then-room-records-clause-value c = (settle_full _ _ _ _ c.requires.shown c.requires.nonzero _ _ c.records.ensures c.room.ensures c.if-room-records.true _ c.undo.ensures).0

pub returns-then-room-records-clause-image_after : goal.returns-then-room-records-clause-image_after
returns-then-room-records-clause-image_after c = (settle_full _ _ _ _ c.requires.shown c.requires.nonzero _ _ c.records.ensures c.room.ensures c.if-room-records.true _ c.undo.ensures).1

pub is_deep-requires-clause-laid : goal.is_deep-requires-clause-laid
is_deep-requires-clause-laid c = shown_laid c.requires.shown

pub returns-then-is_deep-clause-value : goal.returns-then-is_deep-clause-value
returns-then-is_deep-clause-value c = (settle_deep _ _ _ _ c.requires.shown c.requires.nonzero _ _ c.records.ensures c.room.ensures c.if-room-records.false _ c.is_deep.ensures c.if-is_deep.true _ c.undo-then-is_deep.ensures).0

pub returns-then-is_deep-clause-image_after : goal.returns-then-is_deep-clause-image_after
returns-then-is_deep-clause-image_after c = (settle_deep _ _ _ _ c.requires.shown c.requires.nonzero _ _ c.records.ensures c.room.ensures c.if-room-records.false _ c.is_deep.ensures c.if-is_deep.true _ c.undo-then-is_deep.ensures).1

pub push-requires-clause-laid : goal.push-requires-clause-laid
push-requires-clause-laid c = shown_laid c.advance.ensures

pub push-requires-clause-room : goal.push-requires-clause-room
push-requires-clause-room c = (settle_push _ c.requires.shown c.requires.nonzero _ _ c.advance.ensures).1

pub end_if_done-requires : goal.end_if_done-requires
end_if_done-requires c = shown_as (c.push.ensures _ (settle_push _ c.requires.shown c.requires.nonzero _ _ c.advance.ensures).0)

pub returns-clause-value : goal.returns-clause-value
returns-clause-value c = (settle_went _ _ _ _ c.requires.shown c.requires.nonzero _ _ c.records.ensures c.room.ensures c.if-room-records.false _ c.is_deep.ensures c.if-is_deep.false _ c.advance.ensures _ (stated (c.push.ensures _ (settle_push _ c.requires.shown c.requires.nonzero _ _ c.advance.ensures).0) c.end_if_done.ensures)).0

pub returns-clause-image_after : goal.returns-clause-image_after
returns-clause-image_after c = (settle_went _ _ _ _ c.requires.shown c.requires.nonzero _ _ c.records.ensures c.room.ensures c.if-room-records.false _ c.is_deep.ensures c.if-is_deep.false _ c.advance.ensures _ (stated (c.push.ensures _ (settle_push _ c.requires.shown c.requires.nonzero _ _ c.advance.ensures).0) c.end_if_done.ensures)).1
