-- Refused for want of room, or failed.
use Rattle.std.proofs.lemmas.Result.{err_from_is_err_and}
use Rattle.image.proofs.Laying.{formed_shown, formed_laid, shown}
use Rattle.step.proofs.Chains.{visited_pending}
use Rattle.step.proofs.Rooms.{visited_room}
use Rattle.step.proofs.Taking.{fail_refused, fail_told}
use Rattle.step.proofs.fail.Goals as goal

pub returns-in_err-room_for-clause-value : goal.returns-in_err-room_for-clause-value
returns-in_err-room_for-clause-value c =
    let e = err_from_is_err_and c.from_residual.result c.from_residual.ensures.1 in
    rw (e.1, e.2) (fail_refused _ _ _ _ _ c.in_err-room_for.was c.room_for.ensures).0

pub returns-in_err-room_for-clause-image_after : goal.returns-in_err-room_for-clause-image_after
returns-in_err-room_for-clause-image_after c = (fail_refused _ _ _ _ _ c.in_err-room_for.was c.room_for.ensures).1

pub push-requires-clause-laid : goal.push-requires-clause-laid
push-requires-clause-laid c = formed_laid _ c.requires.t

pub push-requires-clause-room : goal.push-requires-clause-room
push-requires-clause-room c = visited_room _ _ 0 _ c.in_ok-room_for.was c.room_for.ensures

pub end_question-requires : goal.end_question-requires
end_question-requires c = (visited_pending _ _ _ (c.push.ensures _ (formed_shown _ c.requires.t)) c.requires.nonzero).0

pub fill_break-requires : goal.fill_break-requires
fill_break-requires c = shown c.end_question.ensures

pub returns-clause-value : goal.returns-clause-value
returns-clause-value c = (fail_told _ _ _ _ c.in_ok-room_for.was c.room_for.ensures _ _ _ (c.push.ensures _ (formed_shown _ c.requires.t)) c.end_question.ensures c.fill_break.ensures).0

pub returns-clause-image_after : goal.returns-clause-image_after
returns-clause-image_after c = (fail_told _ _ _ _ c.in_ok-room_for.was c.room_for.ensures _ _ _ (c.push.ensures _ (formed_shown _ c.requires.t)) c.end_question.ensures c.fill_break.ensures).1
