-- Recorded: both ways, and of two entries.
use mathlib.Core.Path.{refl}
use Rattle.model.specs.Calls.{is_recorded}
use Rattle.questions.proofs.is_recorded.Goals as goal

pub returns : goal.returns
unfolding is_recorded
returns c = refl
