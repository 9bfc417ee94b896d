-- `make`: makes an entry that has no z and no flags.
use Rattle.laws.proofs.Formed.{sound_table}
use Rattle.image.proofs.Laying.{formed_shown, formed_laid}
use Rattle.type_table.proofs.WaysOut.{make_full, make_deep, make_done}
use Rattle.type_table.proofs.make.Goals as goal

pub records-number-requires : goal.records-number-requires
records-number-requires c = formed_laid _ c.requires.t

pub room-requires : goal.room-requires
room-requires c = formed_laid _ c.requires.t

pub returns-then-room-number : goal.returns-then-room-number
returns-then-room-number c =
    let a = c.args in
    let r = make_full a.image.now a.kind a.x a.y c.requires.t c.records-number.result c.room.result c.records-number.ensures c.room.ensures c.if-room-number.true in
    record { result_value = r.0; image_after = r.1 }

pub spread_of-spread-requires-clause-laid : goal.spread_of-spread-requires-clause-laid
spread_of-spread-requires-clause-laid c = formed_laid _ c.requires.t

pub spread_of-spread-requires-clause-shallow : goal.spread_of-spread-requires-clause-shallow
spread_of-spread-requires-clause-shallow c = (sound_table _ c.requires.t).store.shallow

pub returns-then-spread-gt-SPREAD_MOST : goal.returns-then-spread-gt-SPREAD_MOST
returns-then-spread-gt-SPREAD_MOST c =
    let a = c.args in
    let r = make_deep a.image.now a.kind a.x a.y c.requires.t c.records-number.result c.room.result c.spread_of-spread.result c.records-number.ensures c.room.ensures c.if-room-number.false c.spread_of-spread.ensures c.if-spread-gt-SPREAD_MOST.true in
    record { result_value = r.0; image_after = r.1 }

pub push_entry-requires-clause-shown : goal.push_entry-requires-clause-shown
push_entry-requires-clause-shown c = formed_shown _ c.requires.t

pub returns : goal.returns
returns c =
    let a = c.args in
    let r = make_done a.image.now a.kind a.x a.y c.requires.t c.records-number.result c.room.result c.spread_of-spread.result c.records-number.ensures c.room.ensures c.if-room-number.false c.spread_of-spread.ensures c.if-spread-gt-SPREAD_MOST.false c.push_entry.new.image c.push_entry.ensures in
    record { result_value = r.0; image_after = r.1 }
