-- `two_in`: makes an entry of two components, in a well formed image.
use native.Mathlib.Omega.{arith}
use mathlib.Core.Path.{sym, ◌∙◌}
use mathlib.Core.Bool.{◌&&◌}
use Rattle.model.specs.Formed.{is_entry}
use Rattle.model.specs.Calls.{two_turn, new_turn}
use Rattle.image.specs.Shown.{entries_of}
use Rattle.image.proofs.Laying.{formed_laid, formed_shown}
use Rattle.model.specs.declared.Refusal.TheVariants.{BadNumber}
use Rattle.turns.proofs.Turning.{busy, idle, stopped, gone_on, two_entries, first_no_entry, second_no_entry}
use Rattle.changes.proofs.two_in.Goals as goal

pub is_asked-requires : goal.is_asked-requires
is_asked-requires c = formed_shown _ c.requires

pub returns-then-is_asked : goal.returns-then-is_asked
unfolding two_turn
returns-then-is_asked c =
    let k = busy c.args.image.now _ (sym c.is_asked.ensures ∙ c.if-is_asked.true) in
    record { result_value = k.says; image_after = k.leaves }

pub records-requires : goal.records-requires
records-requires c = formed_laid _ c.requires

pub returns-then-records-x : goal.returns-then-records-x
unfolding two_turn
returns-then-records-x c =
    let w = c.args.image.now in
    let k = idle w _ (sym c.is_asked.ensures ∙ c.if-is_asked.false)
    (stopped w BadNumber _ (is_entry (entries_of w) c.args.x && is_entry (entries_of w) c.args.y) (first_no_entry (entries_of w) c.args.x c.args.y (omega (arith, c.records.ensures)))) in
    record { result_value = k.says; image_after = k.leaves }

pub records-requires-2 : goal.records-requires-2
records-requires-2 c = formed_laid _ c.requires

pub returns-then-records-y : goal.returns-then-records-y
unfolding two_turn
returns-then-records-y c =
    let w = c.args.image.now in
    let k = idle w _ (sym c.is_asked.ensures ∙ c.if-is_asked.false)
    (stopped w BadNumber _ (is_entry (entries_of w) c.args.x && is_entry (entries_of w) c.args.y) (second_no_entry (entries_of w) c.args.x c.args.y (omega (arith, c.records-2.ensures)))) in
    record { result_value = k.says; image_after = k.leaves }

pub returns : goal.returns
unfolding two_turn new_turn
returns c =
    let w = c.args.image.now in
    let k = idle w _ (sym c.is_asked.ensures ∙ c.if-is_asked.false)
    (gone_on w BadNumber _ (is_entry (entries_of w) c.args.x && is_entry (entries_of w) c.args.y) (two_entries (entries_of w) c.args.x c.args.y (omega (arith, c.records.ensures)) (omega (arith, c.records-2.ensures)))
    (record { says = c.make.ensures.result_value; leaves = c.make.ensures.image_after })) in
    record { result_value = k.says; image_after = k.leaves }
