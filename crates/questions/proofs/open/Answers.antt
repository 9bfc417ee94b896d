-- Ask, and then work on what it left: proofs/Opening.antt.
use Rattle.std.proofs.lemmas.Result.{err_from_is_err_and}
use mathlib.Core.Path.{sym, ap, ◌∙◌}
use Rattle.model.specs.Told.{told_reply}
use Rattle.model.specs.Calls.{Response}
use Rattle.questions.proofs.Opening.{refused_opening, left_formed, worked_opening}
use Rattle.questions.proofs.open.Goals as goal

pub work-requires : goal.work-requires
work-requires c = left_formed c.args.q c.args.image.now c.requires _ (sym (ap told_reply c.in_ok-ask.was) ∙ c.ask.ensures.result_value) c.ask.ensures.image_after

pub returns-in_err-ask-clause-result_value : goal.returns-in_err-ask-clause-result_value
returns-in_err-ask-clause-result_value c =
    let e = err_from_is_err_and c.from_residual.result c.from_residual.ensures.1 in
    let k = refused_opening c.args.q c.args.image.now c.requires c.args.budget _ c.in_err-ask.field-0.0 (sym (ap told_reply c.in_err-ask.was) ∙ c.ask.ensures.result_value) c.ask.ensures.image_after in
    rw (e.1, e.2) k.0

pub returns-in_err-ask-clause-result_value_2 : goal.returns-in_err-ask-clause-result_value_2
returns-in_err-ask-clause-result_value_2 c =
    let e = err_from_is_err_and c.from_residual.result c.from_residual.ensures.1 in
    let k = refused_opening c.args.q c.args.image.now c.requires c.args.budget _ c.in_err-ask.field-0.0 (sym (ap told_reply c.in_err-ask.was) ∙ c.ask.ensures.result_value) c.ask.ensures.image_after in
    rw e.1 k.1

pub returns-in_err-ask-clause-image_after : goal.returns-in_err-ask-clause-image_after
returns-in_err-ask-clause-image_after c =
    let k = refused_opening c.args.q c.args.image.now c.requires c.args.budget _ c.in_err-ask.field-0.0 (sym (ap told_reply c.in_err-ask.was) ∙ c.ask.ensures.result_value) c.ask.ensures.image_after in
    k.2

pub returns-clause-result_value : goal.returns-clause-result_value
returns-clause-result_value c =
    let e = worked_opening c.args.q c.args.image.now c.requires _ (sym (ap told_reply c.in_ok-ask.was) ∙ c.ask.ensures.result_value) c.ask.ensures.image_after c.args.budget in
    c.work.ensures.answer_value ∙ ap (λ (x : Response). x.says) e

pub returns-clause-result_value_2 : goal.returns-clause-result_value_2
returns-clause-result_value_2 c =
    let e = worked_opening c.args.q c.args.image.now c.requires _ (sym (ap told_reply c.in_ok-ask.was) ∙ c.ask.ensures.result_value) c.ask.ensures.image_after c.args.budget in
    c.work.ensures.steps_value ∙ ap (λ (x : Response). x.steps) e

pub returns-clause-image_after : goal.returns-clause-image_after
returns-clause-image_after c =
    let e = worked_opening c.args.q c.args.image.now c.requires _ (sym (ap told_reply c.in_ok-ask.was) ∙ c.ask.ensures.result_value) c.ask.ensures.image_after c.args.budget in
    c.work.ensures.image_after ∙ ap (λ (x : Response). x.words) e
