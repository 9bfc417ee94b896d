-- `work`: refused where the image is unfit, else what crate `questions` does.
use mathlib.Core.Path.{◌∙◌, ap}
use Rattle.model.specs.Told.{told_refusal}
use Rattle.model.specs.Calls.{Response, response_of, turn_of, works}
use Rattle.turns.proofs.Turning.{denied_as, as_same, unfit, good_image, good}
use Rattle.sheafwinch.proofs.work.Goals as goal

pub work-requires : goal.work-requires
work-requires c = good_image _ c.admit.ensures c.in-Ok.is

pub returns-in-Err-clause-answer_value : goal.returns-in-Err-clause-answer_value
unfolding response_of
returns-in-Err-clause-answer_value c =
    let q = unfit c.args.image.now c.admit.ensures (works c.args.budget) c.in-Err.is in
    let k = as_same q (denied_as c.args.image.now (told_refusal c.in-Err.r)) in
    k.says

pub returns-in-Err-clause-steps_value : goal.returns-in-Err-clause-steps_value
unfolding response_of
returns-in-Err-clause-steps_value c =
    let q = unfit c.args.image.now c.admit.ensures (works c.args.budget) c.in-Err.is in
    let k = as_same q (denied_as c.args.image.now (told_refusal c.in-Err.r)) in
    ap (λ (x : Response). x.steps) q

pub returns-in-Err-clause-image_after : goal.returns-in-Err-clause-image_after
unfolding response_of
returns-in-Err-clause-image_after c =
    let q = unfit c.args.image.now c.admit.ensures (works c.args.budget) c.in-Err.is in
    let k = as_same q (denied_as c.args.image.now (told_refusal c.in-Err.r)) in
    k.leaves

pub returns-in-Ok-clause-answer_value : goal.returns-in-Ok-clause-answer_value
unfolding turn_of
returns-in-Ok-clause-answer_value c =
    let q = good c.args.image.now c.admit.ensures (works c.args.budget) c.in-Ok.is in
    let k = as_same q (record { says = c.work.ensures.answer_value; leaves = c.work.ensures.image_after }) in
    k.says

pub returns-in-Ok-clause-steps_value : goal.returns-in-Ok-clause-steps_value
unfolding turn_of
returns-in-Ok-clause-steps_value c =
    let q = good c.args.image.now c.admit.ensures (works c.args.budget) c.in-Ok.is in
    let k = as_same q (record { says = c.work.ensures.answer_value; leaves = c.work.ensures.image_after }) in
    c.work.ensures.steps_value ∙ ap (λ (x : Response). x.steps) q

pub returns-in-Ok-clause-image_after : goal.returns-in-Ok-clause-image_after
unfolding turn_of
returns-in-Ok-clause-image_after c =
    let q = good c.args.image.now c.admit.ensures (works c.args.budget) c.in-Ok.is in
    let k = as_same q (record { says = c.work.ensures.answer_value; leaves = c.work.ensures.image_after }) in
    k.leaves
