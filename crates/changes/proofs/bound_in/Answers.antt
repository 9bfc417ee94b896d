-- `bound_in`: puts a bound, in a well formed image.
use native.Mathlib.Omega.{arith}
use mathlib.Core.Path.{sym, ◌∙◌}
use Rattle.model.specs.Format.{variable}
use Rattle.model.specs.Table.{is_at}
use Rattle.model.specs.Calls.{put_bound_turn}
use Rattle.image.specs.Shown.{entries_of}
use Rattle.image.proofs.Laying.{formed_laid, formed_shown}
use Rattle.model.specs.declared.Refusal.TheVariants.{BadNumber, NotAVariable}
use Rattle.turns.proofs.Turning.{busy, idle, stopped, gone_on, bound_numbered, bound_numbered_lem, no_bounded, no_side, no_bound, kind_variable, kind_other}
use Rattle.changes.proofs.bound_in.Goals as goal

pub is_asked-requires : goal.is_asked-requires
is_asked-requires c = formed_shown _ c.requires

pub returns-then-is_asked : goal.returns-then-is_asked
unfolding put_bound_turn
returns-then-is_asked c =
    let k = busy c.args.image.now _ (sym c.is_asked.ensures ∙ c.if-is_asked.true) in
    record { result_value = k.says; image_after = k.leaves }

pub records-requires : goal.records-requires
records-requires c = formed_laid _ c.requires

pub returns-then-records-v : goal.returns-then-records-v
unfolding put_bound_turn
returns-then-records-v c =
    let w = c.args.image.now in
    let k = idle w _ (sym c.is_asked.ensures ∙ c.if-is_asked.false) (stopped w BadNumber _ (bound_numbered (entries_of w) c.args.v c.args.side c.args.b) (no_bounded (entries_of w) c.args.v c.args.side c.args.b (omega (arith, c.records.ensures)))) in
    record { result_value = k.says; image_after = k.leaves }

pub returns-then-side-gt-UPPER : goal.returns-then-side-gt-UPPER
unfolding put_bound_turn
returns-then-side-gt-UPPER c =
    let w = c.args.image.now in
    let k = idle w _ (sym c.is_asked.ensures ∙ c.if-is_asked.false) (stopped w BadNumber _ (bound_numbered (entries_of w) c.args.v c.args.side c.args.b) (no_side (entries_of w) c.args.v c.args.side c.args.b (omega arith))) in
    record { result_value = k.says; image_after = k.leaves }

pub records-requires-2 : goal.records-requires-2
records-requires-2 c = formed_laid _ c.requires

pub returns-then-records-b : goal.returns-then-records-b
unfolding put_bound_turn
returns-then-records-b c =
    let w = c.args.image.now in
    let k = idle w _ (sym c.is_asked.ensures ∙ c.if-is_asked.false) (stopped w BadNumber _ (bound_numbered (entries_of w) c.args.v c.args.side c.args.b) (no_bound (entries_of w) c.args.v c.args.side c.args.b (omega (arith, c.records-2.ensures)))) in
    record { result_value = k.says; image_after = k.leaves }

pub word-requires-clause-laid : goal.word-requires-clause-laid
word-requires-clause-laid c = formed_laid _ c.requires

pub returns-then-word-ne-VARIABLE : goal.returns-then-word-ne-VARIABLE
unfolding put_bound_turn
returns-then-word-ne-VARIABLE c =
    let w = c.args.image.now in
    let k = idle w _ (sym c.is_asked.ensures ∙ c.if-is_asked.false)
    (gone_on w BadNumber _ (bound_numbered (entries_of w) c.args.v c.args.side c.args.b) (bound_numbered_lem (entries_of w) c.args.v c.args.side c.args.b (omega (arith, c.records.ensures)) (omega arith) (omega (arith, c.records-2.ensures)))
    (stopped w NotAVariable _ (is_at (entries_of w) variable c.args.v) (kind_other (entries_of w) c.args.v c.args.side c.args.b (λ e. c.if-word-ne-VARIABLE.true (c.word.ensures ∙ e))))) in
    record { result_value = k.says; image_after = k.leaves }

pub returns : goal.returns
unfolding put_bound_turn
returns c =
    let w = c.args.image.now in
    let k = idle w _ (sym c.is_asked.ensures ∙ c.if-is_asked.false)
    (gone_on w BadNumber _ (bound_numbered (entries_of w) c.args.v c.args.side c.args.b) (bound_numbered_lem (entries_of w) c.args.v c.args.side c.args.b (omega (arith, c.records.ensures)) (omega arith) (omega (arith, c.records-2.ensures)))
    (gone_on w NotAVariable _ (is_at (entries_of w) variable c.args.v) (kind_variable (entries_of w) c.args.v c.args.side c.args.b (sym c.word.ensures ∙ c.if-word-ne-VARIABLE.false))
    (record { says = c.put_bound.ensures.result_value; leaves = c.put_bound.ensures.image_after }))) in
    record { result_value = k.says; image_after = k.leaves }
