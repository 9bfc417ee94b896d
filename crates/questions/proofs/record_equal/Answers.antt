-- Recorded, or nothing to record: proofs/Asking.antt.
use mathlib.Core.Path.{sym, ◌∙◌}
use Rattle.image.proofs.Laying.{shown_laid}
use Rattle.questions.proofs.Asking.{none_recorded, one_fits, one_recorded}
use Rattle.questions.proofs.record_equal.Goals as goal

pub returns-then-not-is_recorded : goal.returns-then-not-is_recorded
returns-then-not-is_recorded c = none_recorded _ c.args.q (sym c.is_recorded.ensures ∙ c.if-not-is_recorded.true) c.requires.shown

pub push-requires-clause-laid : goal.push-requires-clause-laid
push-requires-clause-laid c = shown_laid c.requires.shown

pub push-requires-clause-room : goal.push-requires-clause-room
push-requires-clause-room c = one_fits _ c.args.q (sym c.is_recorded.ensures ∙ c.if-not-is_recorded.false) c.requires.image_len_bound

pub returns : goal.returns
returns c = one_recorded _ c.args.q _ (sym c.is_recorded.ensures ∙ c.if-not-is_recorded.false) (c.push.ensures _ c.requires.shown)
