-- `enter_in`: enters a level, in a well formed image.
use mathlib.Core.Path.{sym, ◌∙◌}
use Rattle.model.specs.Calls.{enter_turn}
use Rattle.image.proofs.Laying.{formed_shown}
use Rattle.turns.proofs.Turning.{busy, idle}
use Rattle.changes.proofs.enter_in.Goals as goal

pub is_asked-requires : goal.is_asked-requires
is_asked-requires c = formed_shown _ c.requires

pub returns-then-is_asked : goal.returns-then-is_asked
unfolding enter_turn
returns-then-is_asked c =
    let k = busy c.args.image.now _ (sym c.is_asked.ensures ∙ c.if-is_asked.true) in
    record { result_value = k.says; image_after = k.leaves }

pub enter_level-requires : goal.enter_level-requires
enter_level-requires c = formed_shown _ c.requires

pub returns : goal.returns
unfolding enter_turn
returns c =
    let k = idle c.args.image.now _ (sym c.is_asked.ensures ∙ c.if-is_asked.false) (record { says = c.enter_level.ensures.result_value; leaves = c.enter_level.ensures.image_after }) in
    record { result_value = k.says; image_after = k.leaves }
