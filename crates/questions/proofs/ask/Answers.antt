-- Its refusals, then its record and its pairs: proofs/Asking.antt.
use Rattle.std.proofs.lemmas.Result.{err_from_is_err_and}
use Rattle.std.specs.Prelude.{Result}
use mathlib.Core.Path.{subst}
use Rattle.model.specs.declared.Refusal.{Refusal}
use Rattle.image.proofs.Laying.{formed_shown, shown_as}
use Rattle.writes.proofs.Pending.{stated}
use Rattle.questions.specs.Asking.{Fitness}
use Rattle.questions.proofs.Asking.{refused_so, left_so, some_put, still_idle, pairs_fit, question_open}
use Rattle.questions.proofs.ask.Goals as goal

pub returns-in_err-fitness-clause-result_value : goal.returns-in_err-fitness-clause-result_value
returns-in_err-fitness-clause-result_value c =
    let e = err_from_is_err_and c.from_residual.result c.from_residual.ensures.1 in
    rw (e.1, e.2) (refused_so c.args.image.now _ _ (subst (λ (x : Result (Unit {0}) Refusal). Fitness c.args.image.now c.args.q x) c.in_err-fitness.was c.fitness.ensures)).0

pub returns-in_err-fitness-clause-image_after : goal.returns-in_err-fitness-clause-image_after
returns-in_err-fitness-clause-image_after c = (refused_so c.args.image.now _ _ (subst (λ (x : Result (Unit {0}) Refusal). Fitness c.args.image.now c.args.q x) c.in_err-fitness.was c.fitness.ensures)).1

pub record_equal-requires-clause-shown : goal.record_equal-requires-clause-shown
record_equal-requires-clause-shown c =
    let f = subst (λ (x : Result (Unit {0}) Refusal). Fitness c.args.image.now c.args.q x) c.in_ok-fitness.was c.fitness.ensures in
    formed_shown c.args.image.now c.requires

pub put_pairs-requires-clause-shown_as : goal.put_pairs-requires-clause-shown_as
put_pairs-requires-clause-shown_as c =
    let f = subst (λ (x : Result (Unit {0}) Refusal). Fitness c.args.image.now c.args.q x) c.in_ok-fitness.was c.fitness.ensures in
    still_idle c.args.q c.args.image.now _ f.1 c.record_equal.ensures

pub put_pairs-requires-clause-q_len_bound : goal.put_pairs-requires-clause-q_len_bound
put_pairs-requires-clause-q_len_bound c =
    let f = subst (λ (x : Result (Unit {0}) Refusal). Fitness c.args.image.now c.args.q x) c.in_ok-fitness.was c.fitness.ensures in
    pairs_fit c.args.q c.args.image.now _ f.1 c.record_equal.ensures f.0.pairs

pub open_question-requires-clause-shown_as : goal.open_question-requires-clause-shown_as
open_question-requires-clause-shown_as c = shown_as c.put_pairs.ensures

pub open_question-requires-clause-nonzero : goal.open_question-requires-clause-nonzero
open_question-requires-clause-nonzero c = some_put c.args.q _ c.put_pairs.ensures

pub returns-clause-result_value : goal.returns-clause-result_value
returns-clause-result_value c =
    let f = subst (λ (x : Result (Unit {0}) Refusal). Fitness c.args.image.now c.args.q x) c.in_ok-fitness.was c.fitness.ensures in
    (left_so c.args.image.now _ _ _ f.2 (question_open c.args.q c.args.image.now _ f.1 c.record_equal.ensures _ (stated c.put_pairs.ensures c.open_question.ensures))).0

pub returns-clause-image_after : goal.returns-clause-image_after
returns-clause-image_after c =
    let f = subst (λ (x : Result (Unit {0}) Refusal). Fitness c.args.image.now c.args.q x) c.in_ok-fitness.was c.fitness.ensures in
    (left_so c.args.image.now _ _ _ f.2 (question_open c.args.q c.args.image.now _ f.1 c.record_equal.ensures _ (stated c.put_pairs.ensures c.open_question.ensures))).1
