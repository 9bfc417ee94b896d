-- `variable_in`: makes a variable, in a well formed image.
use mathlib.Core.Path.{sym, ◌∙◌}
use Rattle.model.specs.Calls.{variable_turn, new_turn}
use Rattle.image.proofs.Laying.{formed_laid, formed_shown}
use Rattle.turns.proofs.Turning.{busy, idle}
use Rattle.changes.proofs.variable_in.Goals as goal

pub is_asked-requires : goal.is_asked-requires
is_asked-requires c = formed_shown _ c.requires

pub returns-then-is_asked : goal.returns-then-is_asked
unfolding variable_turn
returns-then-is_asked c =
    let k = busy c.args.image.now _ (sym c.is_asked.ensures ∙ c.if-is_asked.true) in
    record { result_value = k.says; image_after = k.leaves }

pub level-level-requires : goal.level-level-requires
level-level-requires c = formed_laid _ c.requires

pub returns : goal.returns
unfolding variable_turn new_turn
returns c =
    let k = idle c.args.image.now _ (sym c.is_asked.ensures ∙ c.if-is_asked.false)
    (record { says = rw c.level-level.ensures at c.make.ensures.result_value; leaves = rw c.level-level.ensures at c.make.ensures.image_after }) in
    record { result_value = k.says; image_after = k.leaves }
