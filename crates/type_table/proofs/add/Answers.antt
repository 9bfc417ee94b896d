-- `add`: puts an entry, cached as the negation of n, if there is room.
use Rattle.image.proofs.Laying.{shown, shown_laid}
use Rattle.type_table.proofs.WaysOut.{add_index, add_done}
use Rattle.type_table.proofs.add.Goals as goal

pub records-number-requires : goal.records-number-requires
records-number-requires c = shown_laid c.requires.shown

pub room-requires : goal.room-requires
room-requires c = shown_laid c.requires.shown

pub put_negation-requires-clause-shown : goal.put_negation-requires-clause-shown
put_negation-requires-clause-shown c =
    let a = c.args in
    shown c.push_entry.ensures

pub put_negation-requires-clause-i_in_bounds : goal.put_negation-requires-clause-i_in_bounds
put_negation-requires-clause-i_in_bounds c =
    let a = c.args in
    add_index a.image.now a.kind a.x a.y a.spread a.n c.records-number.result c.room.result c.requires.shown c.records-number.ensures c.room.ensures _ c.push_entry.ensures c.requires.n_in_bounds

pub returns : goal.returns
returns c =
    let a = c.args in
    add_done a.image.now a.kind a.x a.y a.spread a.n c.records-number.result c.room.result c.requires.shown c.records-number.ensures c.room.ensures _ c.push_entry.ensures c.if-room-number.false _ c.put_negation.ensures
