-- `opened`: refused where the image is unfit, told as a refusal at the opening, else what crate `questions` does.
use Rattle.std.proofs.lemmas.Result.{err_from_is_err_and}
use mathlib.Core.Path.{◌∙◌, ap}
use Rattle.model.specs.Told.{told_unopened}
use Rattle.model.specs.Calls.{Response, response_of, turn_of, opens}
use Rattle.turns.proofs.Turning.{denied_as, as_same, unfit, good_image, good}
use Rattle.sheafwinch.proofs.opened.Goals as goal

pub open-requires : goal.open-requires
open-requires c = good_image _ c.admit.ensures c.in_ok-admit.was

pub returns-in_err-admit-clause-result_value : goal.returns-in_err-admit-clause-result_value
unfolding response_of
returns-in_err-admit-clause-result_value c =
    let e = err_from_is_err_and c.from_residual.result c.from_residual.ensures.1 in
    let q = unfit c.args.image.now c.admit.ensures (opens c.args.q c.args.budget) c.in_err-admit.was in
    let k = as_same q (denied_as c.args.image.now (told_unopened c.in_err-admit.field-0.0)) in
    rw (e.1, e.2) k.says

pub returns-in_err-admit-clause-result_value_2 : goal.returns-in_err-admit-clause-result_value_2
unfolding response_of
returns-in_err-admit-clause-result_value_2 c =
    let e = err_from_is_err_and c.from_residual.result c.from_residual.ensures.1 in
    let q = unfit c.args.image.now c.admit.ensures (opens c.args.q c.args.budget) c.in_err-admit.was in
    let k = as_same q (denied_as c.args.image.now (told_unopened c.in_err-admit.field-0.0)) in
    rw e.1 (ap (λ (x : Response). x.steps) q)

pub returns-in_err-admit-clause-image_after : goal.returns-in_err-admit-clause-image_after
unfolding response_of
returns-in_err-admit-clause-image_after c =
    let q = unfit c.args.image.now c.admit.ensures (opens c.args.q c.args.budget) c.in_err-admit.was in
    let k = as_same q (denied_as c.args.image.now (told_unopened c.in_err-admit.field-0.0)) in
    k.leaves

pub returns-clause-result_value : goal.returns-clause-result_value
unfolding turn_of
returns-clause-result_value c =
    let q = good c.args.image.now c.admit.ensures (opens c.args.q c.args.budget) c.in_ok-admit.was in
    let k = as_same q (record { says = c.open.ensures.result_value; leaves = c.open.ensures.image_after }) in
    k.says

pub returns-clause-result_value_2 : goal.returns-clause-result_value_2
unfolding turn_of
returns-clause-result_value_2 c =
    let q = good c.args.image.now c.admit.ensures (opens c.args.q c.args.budget) c.in_ok-admit.was in
    let k = as_same q (record { says = c.open.ensures.result_value; leaves = c.open.ensures.image_after }) in
    c.open.ensures.result_value_2 ∙ ap (λ (x : Response). x.steps) q

pub returns-clause-image_after : goal.returns-clause-image_after
unfolding turn_of
returns-clause-image_after c =
    let q = good c.args.image.now c.admit.ensures (opens c.args.q c.args.budget) c.in_ok-admit.was in
    let k = as_same q (record { says = c.open.ensures.result_value; leaves = c.open.ensures.image_after }) in
    k.leaves
