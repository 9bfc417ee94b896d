-- `field_list::known` meets its contract. The loop's invariant: the test of all is `ok` and the test of the rest, from field i on. Assumes nothing.
use lib.Dec.{ltb}
use Rattle.field_list.proofs.Fields.{tested_step, tested_end}
use Rattle.field_list.proofs.known.Goals as goal

pub loop-i-preserved : goal.loop-i-preserved
loop-i-preserved c =
    let a = c.args in
    let l = c.loop-i in
    tested_step (λ f. ltb f.entry a.count) a.fields.now l.ok l.i l.invariant c.loop-i-test.true

pub returns : goal.returns
returns c =
    let a = c.args in
    let l = c.loop-i in
    tested_end (λ f. ltb f.entry a.count) a.fields.now l.ok l.i l.invariant c.loop-i-test.false
