-- `neg_in`: makes a negation, in a well formed image.
use native.Mathlib.Omega.{arith}
use mathlib.Core.Path.{sym, ◌∙◌}
use Rattle.model.specs.Formed.{is_entry}
use Rattle.model.specs.Calls.{neg_turn}
use Rattle.image.specs.Shown.{entries_of}
use Rattle.image.proofs.Laying.{formed_laid, formed_shown}
use Rattle.model.specs.declared.Refusal.TheVariants.{BadNumber}
use Rattle.turns.proofs.Turning.{busy, idle, stopped, gone_on, no_entry, an_entry}
use Rattle.changes.proofs.neg_in.Goals as goal

pub is_asked-requires : goal.is_asked-requires
is_asked-requires c = formed_shown _ c.requires

pub returns-then-is_asked : goal.returns-then-is_asked
unfolding neg_turn
returns-then-is_asked c =
    let k = busy c.args.image.now _ (sym c.is_asked.ensures ∙ c.if-is_asked.true) in
    record { result_value = k.says; image_after = k.leaves }

pub records-requires : goal.records-requires
records-requires c = formed_laid _ c.requires

pub returns-then-records-n : goal.returns-then-records-n
unfolding neg_turn
returns-then-records-n c =
    let w = c.args.image.now in
    let k = idle w _ (sym c.is_asked.ensures ∙ c.if-is_asked.false)
    (stopped w BadNumber _ (is_entry (entries_of w) c.args.n) (no_entry (entries_of w) c.args.n (omega (arith, c.records.ensures)))) in
    record { result_value = k.says; image_after = k.leaves }

pub returns : goal.returns
unfolding neg_turn
returns c =
    let w = c.args.image.now in
    let k = idle w _ (sym c.is_asked.ensures ∙ c.if-is_asked.false)
    (gone_on w BadNumber _ (is_entry (entries_of w) c.args.n) (an_entry (entries_of w) c.args.n (omega (arith, c.records.ensures)))
    (record { says = c.make_neg.ensures.result_value; leaves = c.make_neg.ensures.image_after })) in
    record { result_value = k.says; image_after = k.leaves }
