-- Refused for want of room, or gone on: proofs/Following.antt.
use Rattle.std.proofs.lemmas.Result.{err_from_is_err_and}
use Rattle.image.proofs.Laying.{formed_shown, shown_as}
use Rattle.writes.proofs.Pending.{stated}
use Rattle.step.proofs.Rooms.{visited_room}
use Rattle.step.proofs.Following.{follow_refused, follow_needs, follow_went}
use Rattle.step.proofs.follow.Goals as goal

pub returns-in_err-room_for-clause-value : goal.returns-in_err-room_for-clause-value
returns-in_err-room_for-clause-value c =
    let e = err_from_is_err_and c.from_residual.result c.from_residual.ensures.1 in
    rw (e.1, e.2) (follow_refused _ _ c.args.pairs c.requires.pairs_right _ c.count_of.ensures _ c.room_for.ensures _ c.in_err-room_for.was).0

pub returns-in_err-room_for-clause-image_after : goal.returns-in_err-room_for-clause-image_after
returns-in_err-room_for-clause-image_after c = (follow_refused _ _ c.args.pairs c.requires.pairs_right _ c.count_of.ensures _ c.room_for.ensures _ c.in_err-room_for.was).1

pub advance-requires-clause-shown : goal.advance-requires-clause-shown
advance-requires-clause-shown c = formed_shown _ c.requires.t

pub advance-requires-clause-image_len_bound : goal.advance-requires-clause-image_len_bound
advance-requires-clause-image_len_bound c = visited_room _ _ _ _ c.in_ok-room_for.was c.room_for.ensures

pub put_pairs-requires-clause-midway : goal.put_pairs-requires-clause-midway
put_pairs-requires-clause-midway c = (follow_needs _ _ c.args.pairs c.requires.pairs_right _ c.count_of.ensures _ c.room_for.ensures c.in_ok-room_for.was _ c.advance.ensures).0

pub put_pairs-requires-clause-pairs_right : goal.put_pairs-requires-clause-pairs_right
put_pairs-requires-clause-pairs_right c = (follow_needs _ _ c.args.pairs c.requires.pairs_right _ c.count_of.ensures _ c.room_for.ensures c.in_ok-room_for.was _ c.advance.ensures).1.0

pub put_pairs-requires-clause-pairs_len_bound : goal.put_pairs-requires-clause-pairs_len_bound
put_pairs-requires-clause-pairs_len_bound c = (follow_needs _ _ c.args.pairs c.requires.pairs_right _ c.count_of.ensures _ c.room_for.ensures c.in_ok-room_for.was _ c.advance.ensures).1.1

pub end_if_done-requires : goal.end_if_done-requires
end_if_done-requires c = shown_as c.put_pairs.ensures

pub returns-clause-value : goal.returns-clause-value
returns-clause-value c = (follow_went _ _ c.args.pairs c.requires.pairs_right _ c.count_of.ensures _ c.room_for.ensures c.in_ok-room_for.was _ c.advance.ensures _ (stated c.put_pairs.ensures c.end_if_done.ensures)).0

pub returns-clause-image_after : goal.returns-clause-image_after
returns-clause-image_after c = (follow_went _ _ c.args.pairs c.requires.pairs_right _ c.count_of.ensures _ c.room_for.ensures c.in_ok-room_for.was _ c.advance.ensures _ (stated c.put_pairs.ensures c.end_if_done.ensures)).1
