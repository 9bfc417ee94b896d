-- Abandon: refused while idle, else the question ended.
use mathlib.Core.Path.{sym, ◌∙◌}
use Rattle.model.specs.Calls.{abandon_turn}
use Rattle.image.proofs.Laying.{formed_shown}
use Rattle.writes.proofs.Pending.{while_asked}
use Rattle.questions.proofs.Asking.{asked_some, refused_so, idle_so, abandoned}
use Rattle.questions.proofs.abandon.Goals as goal

pub is_asked-requires : goal.is_asked-requires
is_asked-requires c = formed_shown _ c.requires

pub returns-then-not-is_asked-clause-result_value : goal.returns-then-not-is_asked-clause-result_value
unfolding abandon_turn
returns-then-not-is_asked-clause-result_value c = (refused_so _ _ _ (idle_so _ _ (sym c.is_asked.ensures ∙ c.if-not-is_asked.true))).0

pub returns-then-not-is_asked-clause-image_after : goal.returns-then-not-is_asked-clause-image_after
unfolding abandon_turn
returns-then-not-is_asked-clause-image_after c = (refused_so _ _ _ (idle_so _ _ (sym c.is_asked.ensures ∙ c.if-not-is_asked.true))).1

pub end_question-requires : goal.end_question-requires
end_question-requires c = while_asked (formed_shown _ c.requires) (asked_some c.args.image.now (sym c.is_asked.ensures ∙ c.if-not-is_asked.false))

pub returns-clause-result_value : goal.returns-clause-result_value
unfolding abandon_turn
returns-clause-result_value c = (abandoned _ _ (sym c.is_asked.ensures ∙ c.if-not-is_asked.false) c.end_question.ensures.is).0

pub returns-clause-image_after : goal.returns-clause-image_after
unfolding abandon_turn
returns-clause-image_after c = (abandoned _ _ (sym c.is_asked.ensures ∙ c.if-not-is_asked.false) c.end_question.ensures.is).1
