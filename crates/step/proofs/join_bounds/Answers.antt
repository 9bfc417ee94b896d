-- B joins the bounds of v on a side: refused for want of room, or gone on.
use Rattle.std.proofs.lemmas.Result.{err_from_is_err_and}
use Rattle.model.specs.Table.{◌⊑◌}
use Rattle.model.specs.Rules.{other_side}
use Rattle.image.proofs.Laying.{formed_shown, formed_laid, shown, shown_as}
use Rattle.writes.proofs.Pending.{stated}
use Rattle.step.proofs.Joining.{bound_fits, still_entry, bound_marked, joins, then_advance, advance_needs, pairs_need, bound_refused, bound_joined}
use Rattle.step.proofs.join_bounds.Goals as goal

pub records-n-requires : goal.records-n-requires
records-n-requires c = formed_laid _ c.requires.t

pub repeats_bound-repeated-requires-clause-laid : goal.repeats_bound-repeated-requires-clause-laid
repeats_bound-repeated-requires-clause-laid c = formed_laid _ c.requires.t

pub count_bounds-more-requires-clause-laid : goal.count_bounds-more-requires-clause-laid
count_bounds-more-requires-clause-laid c = formed_laid _ c.requires.t

pub returns-in_err-room_for_bound-clause-value : goal.returns-in_err-room_for_bound-clause-value
returns-in_err-room_for_bound-clause-value c =
    let e = err_from_is_err_and c.from_residual.result c.from_residual.ensures.1 in
    let q = c.room_for_bound.ensures c.args.v c.args.side c.args.b c.repeats_bound-repeated.ensures in
    let j = joins c.args.image.now c.args.v c.args.side c.args.b _ _ c.requires.side_le_upper c.count_bounds-more.ensures q in
    rw (e.1, e.2) (bound_refused c.args.image.now (c.args.sub ⊑ c.args.sup) c.args.v c.args.side c.args.b _ _ j _ c.in_err-room_for_bound.was).0

pub returns-in_err-room_for_bound-clause-image_after : goal.returns-in_err-room_for_bound-clause-image_after
returns-in_err-room_for_bound-clause-image_after c =
    let q = c.room_for_bound.ensures c.args.v c.args.side c.args.b c.repeats_bound-repeated.ensures in
    let j = joins c.args.image.now c.args.v c.args.side c.args.b _ _ c.requires.side_le_upper c.count_bounds-more.ensures q in
    (bound_refused c.args.image.now (c.args.sub ⊑ c.args.sup) c.args.v c.args.side c.args.b _ _ j _ c.in_err-room_for_bound.was).1

pub add_bound-requires-clause-shown : goal.add_bound-requires-clause-shown
add_bound-requires-clause-shown c =
    let q = c.room_for_bound.ensures c.args.v c.args.side c.args.b c.repeats_bound-repeated.ensures in
    formed_shown _ c.requires.t

pub add_bound-requires-clause-image_len_bound : goal.add_bound-requires-clause-image_len_bound
add_bound-requires-clause-image_len_bound c =
    let q = c.room_for_bound.ensures c.args.v c.args.side c.args.b c.repeats_bound-repeated.ensures in
    bound_fits c.args.image.now c.args.v c.args.side c.args.b _ _ c.in_ok-room_for_bound.was q

pub pass_mark-requires-clause-shown : goal.pass_mark-requires-clause-shown
pass_mark-requires-clause-shown c = shown c.add_bound.ensures

pub pass_mark-requires-clause-v_in_bounds : goal.pass_mark-requires-clause-v_in_bounds
pass_mark-requires-clause-v_in_bounds c = still_entry c.args.image.now _ _ c.args.v c.add_bound.ensures c.requires.v_in_bounds

pub pass_mark-requires-clause-b_in_bounds : goal.pass_mark-requires-clause-b_in_bounds
pass_mark-requires-clause-b_in_bounds c = still_entry c.args.image.now _ _ c.args.b c.add_bound.ensures c.requires.b_in_bounds

pub advance-requires-clause-shown : goal.advance-requires-clause-shown
advance-requires-clause-shown c =
    let q = c.room_for_bound.ensures c.args.v c.args.side c.args.b c.repeats_bound-repeated.ensures in
    let j = joins c.args.image.now c.args.v c.args.side c.args.b _ _ c.requires.side_le_upper c.count_bounds-more.ensures q in
    let m = bound_marked c.args.image.now _ _ c.args.v c.args.side c.args.b c.add_bound.ensures c.pass_mark.ensures in
    (advance_needs c.args.image.now _ c.args.v (other_side c.args.side) _ _ j c.in_ok-room_for_bound.was _ m c.requires.nonzero).0

pub advance-requires-clause-image_len_bound : goal.advance-requires-clause-image_len_bound
advance-requires-clause-image_len_bound c =
    let q = c.room_for_bound.ensures c.args.v c.args.side c.args.b c.repeats_bound-repeated.ensures in
    let j = joins c.args.image.now c.args.v c.args.side c.args.b _ _ c.requires.side_le_upper c.count_bounds-more.ensures q in
    let m = bound_marked c.args.image.now _ _ c.args.v c.args.side c.args.b c.add_bound.ensures c.pass_mark.ensures in
    (advance_needs c.args.image.now _ c.args.v (other_side c.args.side) _ _ j c.in_ok-room_for_bound.was _ m c.requires.nonzero).1.0

pub advance-requires-clause-nonzero : goal.advance-requires-clause-nonzero
advance-requires-clause-nonzero c =
    let q = c.room_for_bound.ensures c.args.v c.args.side c.args.b c.repeats_bound-repeated.ensures in
    let j = joins c.args.image.now c.args.v c.args.side c.args.b _ _ c.requires.side_le_upper c.count_bounds-more.ensures q in
    let m = bound_marked c.args.image.now _ _ c.args.v c.args.side c.args.b c.add_bound.ensures c.pass_mark.ensures in
    (advance_needs c.args.image.now _ c.args.v (other_side c.args.side) _ _ j c.in_ok-room_for_bound.was _ m c.requires.nonzero).1.1

pub put_bound_pairs-requires-clause-midway : goal.put_bound_pairs-requires-clause-midway
put_bound_pairs-requires-clause-midway c =
    let q = c.room_for_bound.ensures c.args.v c.args.side c.args.b c.repeats_bound-repeated.ensures in
    let j = joins c.args.image.now c.args.v c.args.side c.args.b _ _ c.requires.side_le_upper c.count_bounds-more.ensures q in
    let m = bound_marked c.args.image.now _ _ c.args.v c.args.side c.args.b c.add_bound.ensures c.pass_mark.ensures in
    let p = c.args.sub ⊑ c.args.sup in
    (pairs_need c.args.image.now _ c.args.v (other_side c.args.side) _ _ j c.in_ok-room_for_bound.was p _ (then_advance m p c.advance.ensures)).0

pub put_bound_pairs-requires-clause-side_len_bound : goal.put_bound_pairs-requires-clause-side_len_bound
put_bound_pairs-requires-clause-side_len_bound c =
    let q = c.room_for_bound.ensures c.args.v c.args.side c.args.b c.repeats_bound-repeated.ensures in
    let j = joins c.args.image.now c.args.v c.args.side c.args.b _ _ c.requires.side_le_upper c.count_bounds-more.ensures q in
    let m = bound_marked c.args.image.now _ _ c.args.v c.args.side c.args.b c.add_bound.ensures c.pass_mark.ensures in
    let p = c.args.sub ⊑ c.args.sup in
    (pairs_need c.args.image.now _ c.args.v (other_side c.args.side) _ _ j c.in_ok-room_for_bound.was p _ (then_advance m p c.advance.ensures)).1

pub end_if_done-requires : goal.end_if_done-requires
end_if_done-requires c = shown_as c.put_bound_pairs.ensures

pub returns-clause-value : goal.returns-clause-value
returns-clause-value c =
    let q = c.room_for_bound.ensures c.args.v c.args.side c.args.b c.repeats_bound-repeated.ensures in
    let j = joins c.args.image.now c.args.v c.args.side c.args.b _ _ c.requires.side_le_upper c.count_bounds-more.ensures q in
    let m = bound_marked c.args.image.now _ _ c.args.v c.args.side c.args.b c.add_bound.ensures c.pass_mark.ensures in
    let p = c.args.sub ⊑ c.args.sup in
    (bound_joined c.args.image.now p c.args.v c.args.side c.args.b _ _ j c.in_ok-room_for_bound.was _ _ (then_advance m p c.advance.ensures) (stated c.put_bound_pairs.ensures c.end_if_done.ensures)).0

pub returns-clause-image_after : goal.returns-clause-image_after
returns-clause-image_after c =
    let q = c.room_for_bound.ensures c.args.v c.args.side c.args.b c.repeats_bound-repeated.ensures in
    let j = joins c.args.image.now c.args.v c.args.side c.args.b _ _ c.requires.side_le_upper c.count_bounds-more.ensures q in
    let m = bound_marked c.args.image.now _ _ c.args.v c.args.side c.args.b c.add_bound.ensures c.pass_mark.ensures in
    let p = c.args.sub ⊑ c.args.sup in
    (bound_joined c.args.image.now p c.args.v c.args.side c.args.b _ _ j c.in_ok-room_for_bound.was _ _ (then_advance m p c.advance.ensures) (stated c.put_bound_pairs.ensures c.end_if_done.ensures)).1
