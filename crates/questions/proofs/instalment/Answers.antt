-- The loop of an instalment: proofs/Working.antt, turn by turn.
use Rattle.std.specs.Prelude.{Ok}
use native.Mathlib.Omega.{arith}
use borrow.Author.Rules.{rules}
use mathlib.Core.Path.{refl, sym, ◌∙◌, ap}
use Rattle.image.proofs.Laying.{formed_laid}
use Rattle.questions.proofs.Working.{running_start, running_yes, running_more, running_failed, running_refused, running_went, came}
use Rattle.questions.proofs.instalment.Goals as goal

pub loop-budget-init : goal.loop-budget-init
loop-budget-init c = (running_start _ _ c.requires, refl)

pub records-requires : goal.records-requires
records-requires c = formed_laid _ c.loop-budget.invariant.0.formed

pub returns-then-steps-budget-clause-answer_value : goal.returns-then-steps-budget-clause-answer_value
returns-then-steps-budget-clause-answer_value c =
    let k = running_more _ _ _ _ c.loop-budget.invariant.0 (omega (arith, c.loop-budget-test.true, c.records.ensures)) c.if-steps-budget.true in
    k.says

pub returns-then-steps-budget-clause-steps_value : goal.returns-then-steps-budget-clause-steps_value
returns-then-steps-budget-clause-steps_value c =
    let k = running_more _ _ _ _ c.loop-budget.invariant.0 (omega (arith, c.loop-budget-test.true, c.records.ensures)) c.if-steps-budget.true in
    k.steps

pub returns-then-steps-budget-clause-image_after : goal.returns-then-steps-budget-clause-image_after
returns-then-steps-budget-clause-image_after c =
    let k = running_more _ _ _ _ c.loop-budget.invariant.0 (omega (arith, c.loop-budget-test.true, c.records.ensures)) c.if-steps-budget.true in
    k.leaves

pub loop-budget-preserved : goal.loop-budget-preserved
loop-budget-preserved c =
    let e = sym (c.in-Ok-Went.is ∙ ap Ok c.in-Ok-Went.field-0-is) ∙ c.take_step.ensures.value in
    let k = came _ _ _ e c.take_step.ensures.image_after in
    (running_went _ _ _ _ c.loop-budget.invariant.0 (omega (arith, c.loop-budget-test.true, c.records.ensures)) (omega (arith, c.if-steps-budget.false, c.loop-budget.invariant.0.low)) _ k, search rules)

pub returns-in-Ok-Failed-clause-answer_value : goal.returns-in-Ok-Failed-clause-answer_value
returns-in-Ok-Failed-clause-answer_value c =
    let e = sym (c.in-Ok-Failed.is ∙ ap Ok c.in-Ok-Failed.field-0-is) ∙ c.take_step.ensures.value in
    let x = came _ _ _ e c.take_step.ensures.image_after in
    let k = running_failed _ _ _ _ c.loop-budget.invariant.0 (omega (arith, c.loop-budget-test.true, c.records.ensures)) (omega (arith, c.if-steps-budget.false, c.loop-budget.invariant.0.low)) _ _ x in
    k.says

pub returns-in-Ok-Failed-clause-steps_value : goal.returns-in-Ok-Failed-clause-steps_value
returns-in-Ok-Failed-clause-steps_value c =
    let e = sym (c.in-Ok-Failed.is ∙ ap Ok c.in-Ok-Failed.field-0-is) ∙ c.take_step.ensures.value in
    let x = came _ _ _ e c.take_step.ensures.image_after in
    let k = running_failed _ _ _ _ c.loop-budget.invariant.0 (omega (arith, c.loop-budget-test.true, c.records.ensures)) (omega (arith, c.if-steps-budget.false, c.loop-budget.invariant.0.low)) _ _ x in
    k.steps

pub returns-in-Ok-Failed-clause-image_after : goal.returns-in-Ok-Failed-clause-image_after
returns-in-Ok-Failed-clause-image_after c =
    let e = sym (c.in-Ok-Failed.is ∙ ap Ok c.in-Ok-Failed.field-0-is) ∙ c.take_step.ensures.value in
    let x = came _ _ _ e c.take_step.ensures.image_after in
    let k = running_failed _ _ _ _ c.loop-budget.invariant.0 (omega (arith, c.loop-budget-test.true, c.records.ensures)) (omega (arith, c.if-steps-budget.false, c.loop-budget.invariant.0.low)) _ _ x in
    k.leaves

pub returns-in-Err-clause-answer_value : goal.returns-in-Err-clause-answer_value
returns-in-Err-clause-answer_value c =
    let e = sym c.in-Err.is ∙ c.take_step.ensures.value in
    let x = came _ _ _ e c.take_step.ensures.image_after in
    let k = running_refused _ _ _ _ c.loop-budget.invariant.0 (omega (arith, c.loop-budget-test.true, c.records.ensures)) (omega (arith, c.if-steps-budget.false, c.loop-budget.invariant.0.low)) _ _ x in
    k.says

pub returns-in-Err-clause-steps_value : goal.returns-in-Err-clause-steps_value
returns-in-Err-clause-steps_value c =
    let e = sym c.in-Err.is ∙ c.take_step.ensures.value in
    let x = came _ _ _ e c.take_step.ensures.image_after in
    let k = running_refused _ _ _ _ c.loop-budget.invariant.0 (omega (arith, c.loop-budget-test.true, c.records.ensures)) (omega (arith, c.if-steps-budget.false, c.loop-budget.invariant.0.low)) _ _ x in
    k.steps

pub returns-in-Err-clause-image_after : goal.returns-in-Err-clause-image_after
returns-in-Err-clause-image_after c =
    let e = sym c.in-Err.is ∙ c.take_step.ensures.value in
    let x = came _ _ _ e c.take_step.ensures.image_after in
    let k = running_refused _ _ _ _ c.loop-budget.invariant.0 (omega (arith, c.loop-budget-test.true, c.records.ensures)) (omega (arith, c.if-steps-budget.false, c.loop-budget.invariant.0.low)) _ _ x in
    k.leaves

pub returns-clause-answer_value : goal.returns-clause-answer_value
returns-clause-answer_value c =
    let k = running_yes _ _ _ _ c.loop-budget.invariant.0 (omega (arith, c.loop-budget-test.false, c.records.ensures)) in
    k.says

pub returns-clause-steps_value : goal.returns-clause-steps_value
returns-clause-steps_value c =
    let k = running_yes _ _ _ _ c.loop-budget.invariant.0 (omega (arith, c.loop-budget-test.false, c.records.ensures)) in
    k.steps

pub returns-clause-image_after : goal.returns-clause-image_after
returns-clause-image_after c =
    let k = running_yes _ _ _ _ c.loop-budget.invariant.0 (omega (arith, c.loop-budget-test.false, c.records.ensures)) in
    k.leaves
