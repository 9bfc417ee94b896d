-- `put_fields`: puts the n fields of a list behind the last.
use native.Mathlib.Omega.{arith}
use Rattle.image.proofs.Laying.{shown_laid}
use Rattle.type_table.proofs.Attrsets.{fields_inside, fielded_start, fielded_shows, fielded_room, fielded_more}
use Rattle.type_table.proofs.put_fields.Goals as goal

pub loop-i-init : goal.loop-i-init
loop-i-init c = fielded_start _ _ c.requires.shown

pub bounds-fields-at : goal.bounds-fields-at
bounds-fields-at c = omega (arith, fields_inside c.args.fields.now c.args.n c.loop-i.i c.requires.n_value c.loop-i-test.true)

pub bounds-fields-at-in-loop-i : goal.bounds-fields-at-in-loop-i
bounds-fields-at-in-loop-i c = omega (arith, fields_inside c.args.fields.now c.args.n c.loop-i.i c.requires.n_value c.loop-i-test.true)

pub bounds-fields-at-in-loop-i-2 : goal.bounds-fields-at-in-loop-i-2
bounds-fields-at-in-loop-i-2 c = omega (arith, fields_inside c.args.fields.now c.args.n c.loop-i.i c.requires.n_value c.loop-i-test.true)

pub push-requires-clause-laid : goal.push-requires-clause-laid
push-requires-clause-laid c = shown_laid (fielded_shows _ _ _ _ c.loop-i.invariant)

pub push-requires-clause-room : goal.push-requires-clause-room
push-requires-clause-room c = fielded_room _ _ _ _ c.loop-i.invariant _ c.requires.n_value c.loop-i-test.true c.requires.n_len_bound

pub loop-i-preserved : goal.loop-i-preserved
loop-i-preserved c = fielded_more _ _ _ _ c.loop-i.invariant _ (omega (arith, c.requires.n_value, c.loop-i-test.true)) (c.push.ensures _ (fielded_shows _ _ _ _ c.loop-i.invariant))
