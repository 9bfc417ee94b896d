-- `level_in`: sets a variable's level, in a well formed image.
use native.Mathlib.Omega.{arith}
use mathlib.Core.Path.{sym, ◌∙◌}
use Rattle.model.specs.Format.{variable}
use Rattle.model.specs.Table.{is_at}
use Rattle.model.specs.Formed.{is_entry}
use Rattle.model.specs.Calls.{set_level_turn}
use Rattle.image.specs.Shown.{entries_of}
use Rattle.image.proofs.Laying.{formed_laid, formed_shown}
use Rattle.model.specs.declared.Refusal.TheVariants.{BadNumber, NotAVariable}
use Rattle.turns.proofs.Turning.{busy, idle, stopped, gone_on, no_entry, an_entry, left_as, kind_variable, kind_other}
use Rattle.changes.proofs.level_in.Goals as goal

pub is_asked-requires : goal.is_asked-requires
is_asked-requires c = formed_shown _ c.requires

pub returns-then-is_asked : goal.returns-then-is_asked
unfolding set_level_turn
returns-then-is_asked c =
    let k = busy c.args.image.now _ (sym c.is_asked.ensures ∙ c.if-is_asked.true) in
    record { result_value = k.says; image_after = k.leaves }

pub records-requires : goal.records-requires
records-requires c = formed_laid _ c.requires

pub returns-then-records-v : goal.returns-then-records-v
unfolding set_level_turn
returns-then-records-v c =
    let w = c.args.image.now in
    let k = idle w _ (sym c.is_asked.ensures ∙ c.if-is_asked.false) (stopped w BadNumber _ (is_entry (entries_of w) c.args.v) (no_entry (entries_of w) c.args.v (omega (arith, c.records.ensures)))) in
    record { result_value = k.says; image_after = k.leaves }

pub word-requires-clause-laid : goal.word-requires-clause-laid
word-requires-clause-laid c = formed_laid _ c.requires

pub returns-then-word-ne-VARIABLE : goal.returns-then-word-ne-VARIABLE
unfolding set_level_turn
returns-then-word-ne-VARIABLE c =
    let w = c.args.image.now in
    let k = idle w _ (sym c.is_asked.ensures ∙ c.if-is_asked.false)
    (gone_on w BadNumber _ (is_entry (entries_of w) c.args.v) (an_entry (entries_of w) c.args.v (omega (arith, c.records.ensures)))
    (stopped w NotAVariable _ (is_at (entries_of w) variable c.args.v) (kind_other (entries_of w) c.args.v 0 0 (λ e. c.if-word-ne-VARIABLE.true (c.word.ensures ∙ e))))) in
    record { result_value = k.says; image_after = k.leaves }

pub set_var_level-requires-clause-shown : goal.set_var_level-requires-clause-shown
set_var_level-requires-clause-shown c = formed_shown _ c.requires

pub returns : goal.returns
unfolding set_level_turn
returns c =
    let w = c.args.image.now in
    let k = idle w _ (sym c.is_asked.ensures ∙ c.if-is_asked.false)
    (gone_on w BadNumber _ (is_entry (entries_of w) c.args.v) (an_entry (entries_of w) c.args.v (omega (arith, c.records.ensures)))
    (gone_on w NotAVariable _ (is_at (entries_of w) variable c.args.v) (kind_variable (entries_of w) c.args.v 0 0 (sym c.word.ensures ∙ c.if-word-ne-VARIABLE.false))
    (left_as w _ _ c.set_var_level.ensures))) in
    record { result_value = k.says; image_after = k.leaves }
