-- `exit_in`: leaves a level, in a well formed image.
use mathlib.Core.Path.{sym, ◌∙◌}
use Rattle.model.specs.Calls.{exit_turn}
use Rattle.image.proofs.Laying.{formed_shown}
use Rattle.turns.proofs.Turning.{busy, idle}
use Rattle.changes.proofs.exit_in.Goals as goal

pub is_asked-requires : goal.is_asked-requires
is_asked-requires c = formed_shown _ c.requires

pub returns-then-is_asked : goal.returns-then-is_asked
unfolding exit_turn
returns-then-is_asked c =
    let k = busy c.args.image.now _ (sym c.is_asked.ensures ∙ c.if-is_asked.true) in
    record { result_value = k.says; image_after = k.leaves }

pub exit_level-requires : goal.exit_level-requires
exit_level-requires c = formed_shown _ c.requires

pub returns : goal.returns
unfolding exit_turn
returns c =
    let k = idle c.args.image.now _ (sym c.is_asked.ensures ∙ c.if-is_asked.false) (record { says = c.exit_level.ensures.result_value; leaves = c.exit_level.ensures.image_after }) in
    record { result_value = k.says; image_after = k.leaves }
