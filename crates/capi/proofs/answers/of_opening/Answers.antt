-- `of_opening`: what an opening answers, case by case.
use Rattle.std.specs.Prelude.{Result}
use mathlib.Core.Path.{sym, ap, ◌∙◌}
use Rattle.model.specs.declared.Instalment.{Instalment}
use Rattle.model.specs.declared.Refusal.{Refusal}
use Rattle.model.specs.Told.{told_opening, steps_of}
use Rattle.capi.specs.Answers.{answer_of}
use Rattle.capi.proofs.answers.of_opening.Goals as goal

pub returns-in-Ok : goal.returns-in-Ok
returns-in-Ok c = c.of_instalment.ensures ∙ sym (ap (λ (x : Result Instalment Refusal). answer_of (steps_of x) (told_opening x)) c.in-Ok.is)
