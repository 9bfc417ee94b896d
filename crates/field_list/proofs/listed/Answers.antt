-- `field_list::listed` meets its contract. The loop's invariant: the test of all is `ok` and the test of the rest, from `least` on. Assumes nothing.
use Rattle.field_list.proofs.Fields.{listed_start, listed_step, listed_end}
use Rattle.field_list.proofs.listed.Goals as goal

pub loop-i-init : goal.loop-i-init
loop-i-init c =
    let a = c.args in
    listed_start a.names a.fields.now

pub loop-i-preserved : goal.loop-i-preserved
loop-i-preserved c =
    let a = c.args in
    let l = c.loop-i in
    let h = listed_step a.names a.fields.now l.ok l.least l.i l.invariant c.loop-i-test.true in
    rw (c.wide.ensures.0, c.wide-least.ensures.0) h

pub returns : goal.returns
returns c =
    let a = c.args in
    let l = c.loop-i in
    listed_end a.names a.fields.now l.ok l.least l.i l.invariant c.loop-i-test.false
