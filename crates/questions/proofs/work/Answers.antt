-- Work: refused while idle, else an instalment.
use mathlib.Core.Path.{sym, ap, ◌∙◌}
use Rattle.model.specs.Calls.{Response}
use Rattle.image.proofs.Laying.{formed_shown}
use Rattle.questions.proofs.Asking.{work_idle, work_asked}
use Rattle.questions.proofs.work.Goals as goal

pub is_asked-requires : goal.is_asked-requires
is_asked-requires c = formed_shown _ c.requires

pub returns-then-not-is_asked-clause-answer_value : goal.returns-then-not-is_asked-clause-answer_value
returns-then-not-is_asked-clause-answer_value c = (work_idle _ _ (sym c.is_asked.ensures ∙ c.if-not-is_asked.true)).0

pub returns-then-not-is_asked-clause-steps_value : goal.returns-then-not-is_asked-clause-steps_value
returns-then-not-is_asked-clause-steps_value c = (work_idle _ _ (sym c.is_asked.ensures ∙ c.if-not-is_asked.true)).1.0

pub returns-then-not-is_asked-clause-image_after : goal.returns-then-not-is_asked-clause-image_after
returns-then-not-is_asked-clause-image_after c = (work_idle _ _ (sym c.is_asked.ensures ∙ c.if-not-is_asked.true)).1.1

pub returns-clause-answer_value : goal.returns-clause-answer_value
returns-clause-answer_value c =
    let e = work_asked _ c.args.budget (sym c.is_asked.ensures ∙ c.if-not-is_asked.false) in
    c.instalment.ensures.answer_value ∙ ap (λ (x : Response). x.says) e

pub returns-clause-steps_value : goal.returns-clause-steps_value
returns-clause-steps_value c =
    let e = work_asked _ c.args.budget (sym c.is_asked.ensures ∙ c.if-not-is_asked.false) in
    c.instalment.ensures.steps_value ∙ ap (λ (x : Response). x.steps) e

pub returns-clause-image_after : goal.returns-clause-image_after
returns-clause-image_after c =
    let e = work_asked _ c.args.budget (sym c.is_asked.ensures ∙ c.if-not-is_asked.false) in
    c.instalment.ensures.image_after ∙ ap (λ (x : Response). x.words) e
