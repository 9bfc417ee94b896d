-- `attrset_in`: makes an attrset, in a well formed image.
use mathlib.Core.Path.{sym, ◌∙◌}
use Rattle.model.specs.Calls.{attrset_turn}
use Rattle.image.proofs.Laying.{formed_laid, formed_shown}
use Rattle.turns.proofs.Turning.{busy}
use Rattle.changes.proofs.Attrsets.{bad_fields, bad_entry, bad_dynamic, good_fields}
use Rattle.changes.proofs.attrset_in.Goals as goal

pub is_asked-requires : goal.is_asked-requires
is_asked-requires c = formed_shown _ c.requires

pub returns-then-is_asked : goal.returns-then-is_asked
unfolding attrset_turn
returns-then-is_asked c =
    let k = busy c.args.image.now _ (sym c.is_asked.ensures ∙ c.if-is_asked.true) in
    record { result_value = k.says; image_after = k.leaves }

pub name_count-requires : goal.name_count-requires
name_count-requires c = formed_laid _ c.requires

pub returns-then-not-listed : goal.returns-then-not-listed
returns-then-not-listed c =
    let a = c.args in
    let k = bad_fields a.image.now a.fields.now a.is_open a.dynamic (sym c.is_asked.ensures ∙ c.if-is_asked.false)
    _ c.name_count.ensures (sym c.listed.ensures ∙ c.if-not-listed.true) in
    record { result_value = k.says; image_after = k.leaves }

pub records-requires : goal.records-requires
records-requires c = formed_laid _ c.requires

pub returns-then-not-known : goal.returns-then-not-known
returns-then-not-known c =
    let a = c.args in
    let k = bad_entry a.image.now a.fields.now a.is_open a.dynamic (sym c.is_asked.ensures ∙ c.if-is_asked.false)
    _ c.name_count.ensures (sym c.listed.ensures ∙ c.if-not-listed.false)
    _ c.records.ensures (sym c.known.ensures ∙ c.if-not-known.true) in
    record { result_value = k.says; image_after = k.leaves }

pub returns-then-not-dynamic_known : goal.returns-then-not-dynamic_known
returns-then-not-dynamic_known c =
    let a = c.args in
    let k = bad_dynamic a.image.now a.fields.now a.is_open a.dynamic (sym c.is_asked.ensures ∙ c.if-is_asked.false)
    _ c.name_count.ensures (sym c.listed.ensures ∙ c.if-not-listed.false)
    _ c.records.ensures (sym c.dynamic_known.ensures ∙ c.if-not-dynamic_known.true) in
    record { result_value = k.says; image_after = k.leaves }

pub returns : goal.returns
returns c =
    let a = c.args in
    let k = good_fields a.image.now a.fields.now a.is_open a.dynamic (sym c.is_asked.ensures ∙ c.if-is_asked.false)
    _ c.name_count.ensures (sym c.listed.ensures ∙ c.if-not-listed.false)
    _ c.records.ensures (sym c.known.ensures ∙ c.if-not-known.false) (sym c.dynamic_known.ensures ∙ c.if-not-dynamic_known.false)
    (record { says = c.make_attrset.ensures.result_value; leaves = c.make_attrset.ensures.image_after }) in
    record { result_value = k.says; image_after = k.leaves }
