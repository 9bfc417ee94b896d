-- `abandon`: refused where the image is unfit, else what crate `questions` does.
use Rattle.std.proofs.lemmas.Result.{err_from_is_err_and}
use Rattle.model.specs.Calls.{turn_of, abandons}
use Rattle.turns.proofs.Turning.{denied_as, as_same, unfit, good_image, good}
use Rattle.sheafwinch.proofs.abandon.Goals as goal

pub abandon-requires : goal.abandon-requires
abandon-requires c = good_image _ c.admit.ensures c.in_ok-admit.was

pub returns-in_err-admit-clause-result_value : goal.returns-in_err-admit-clause-result_value
returns-in_err-admit-clause-result_value c =
    let e = err_from_is_err_and c.from_residual.result c.from_residual.ensures.1 in
    let k = as_same (unfit c.args.image.now c.admit.ensures abandons c.in_err-admit.was) (denied_as c.args.image.now _) in
    rw (e.1, e.2) k.says

pub returns-in_err-admit-clause-image_after : goal.returns-in_err-admit-clause-image_after
returns-in_err-admit-clause-image_after c =
    let k = as_same (unfit c.args.image.now c.admit.ensures abandons c.in_err-admit.was) (denied_as c.args.image.now _) in
    k.leaves

pub returns-clause-result_value : goal.returns-clause-result_value
unfolding turn_of
returns-clause-result_value c =
    let k = as_same (good c.args.image.now c.admit.ensures abandons c.in_ok-admit.was) (record { says = c.abandon.ensures.result_value; leaves = c.abandon.ensures.image_after }) in
    k.says

pub returns-clause-image_after : goal.returns-clause-image_after
unfolding turn_of
returns-clause-image_after c =
    let k = as_same (good c.args.image.now c.admit.ensures abandons c.in_ok-admit.was) (record { says = c.abandon.ensures.result_value; leaves = c.abandon.ensures.image_after }) in
    k.leaves
