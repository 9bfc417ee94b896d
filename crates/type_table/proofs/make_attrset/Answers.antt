-- `make_attrset`: makes an attrset with the fields of a list, triples of a name, an entry and optional.
use Prim.Native.Nat.{◌+◌}
use native.Mathlib.Omega.{arith}
use mathlib.Core.Path.{sym}
use Rattle.image.proofs.Laying.{formed_shown, formed_laid, shown}
use Rattle.type_table.proofs.Attrsets.{fields_count, entry_room, attrset_full, attrset_lacks, attrset_done}
use Rattle.type_table.proofs.make_attrset.Goals as goal

pub records-number-requires : goal.records-number-requires
records-number-requires c = formed_laid _ c.requires

pub room-requires : goal.room-requires
room-requires c = formed_laid _ c.requires

pub returns-then-room-number : goal.returns-then-room-number
returns-then-room-number c =
    let a = c.args in
    let r = attrset_full a.image.now a.fields.now a.is_open a.dynamic c.requires _ _ c.records-number.ensures c.room.ensures c.if-room-number.true in
    record { result_value = r.0; image_after = r.1 }

pub records-old-requires : goal.records-old-requires
records-old-requires c = formed_laid _ c.requires

pub room-requires-2 : goal.room-requires-2
room-requires-2 c = formed_laid _ c.requires

pub overflow_sub-room : goal.overflow_sub-room
overflow_sub-room c = omega (arith, c.room-2.ensures, c.records-old.ensures, (formed_shown _ c.requires).within.held.fields)

pub returns-then-wide-n : goal.returns-then-wide-n
returns-then-wide-n c =
    let a = c.args in
    let r = attrset_lacks a.image.now a.fields.now a.is_open a.dynamic c.requires _ _ c.records-number.ensures c.room.ensures _ _ _ c.if-room-number.false
    c.records-old.ensures c.room-2.ensures (sym (fields_count a.fields.now)) (omega (arith, c.wide.ensures, c.if-wide-n.true)) in
    record { result_value = r.0; image_after = r.1 }

pub put_fields-requires-clause-shown : goal.put_fields-requires-clause-shown
put_fields-requires-clause-shown c = formed_shown _ c.requires

pub put_fields-requires-clause-n_value : goal.put_fields-requires-clause-n_value
put_fields-requires-clause-n_value c = sym (fields_count c.args.fields.now)

pub put_fields-requires-clause-n_len_bound : goal.put_fields-requires-clause-n_len_bound
put_fields-requires-clause-n_len_bound c = omega (arith, (formed_shown _ c.requires).within.held.fields, c.records-old.ensures, c.room-2.ensures, c.wide.ensures, c.if-wide-n.false)

pub push_entry-requires-clause-shown : goal.push_entry-requires-clause-shown
push_entry-requires-clause-shown c = shown c.put_fields.ensures

pub push_entry-requires-clause-image_len_bound : goal.push_entry-requires-clause-image_len_bound
push_entry-requires-clause-image_len_bound c = entry_room _ _ _ c.put_fields.ensures (omega (arith, c.records-number.ensures, c.room.ensures, c.if-room-number.false))

pub returns : goal.returns
returns c =
    let a = c.args in
    let r = attrset_done a.image.now a.fields.now a.is_open a.dynamic c.requires _ _ c.records-number.ensures c.room.ensures _ _ _ c.if-room-number.false
    c.records-old.ensures c.room-2.ensures (sym (fields_count a.fields.now))
    (omega (arith, (formed_shown _ c.requires).within.held.fields, c.records-old.ensures, c.room-2.ensures, c.wide.ensures, c.if-wide-n.false))
    c.first_field-first.result c.dynamic_type-typed.result (c.open_bit.result + c.dynamic_bit.result) c.first_field-first.ensures c.dynamic_type-typed.ensures
    (rw (c.open_bit.ensures.0, c.dynamic_bit.ensures.0)) _ _ c.put_fields.ensures c.push_entry.ensures in
    record { result_value = r.0; image_after = r.1 }
