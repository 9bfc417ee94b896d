-- The loop's invariant is `Putting`: behind the pair of the dynamic types, the pairs of the fields from j on, last first.
use native.Mathlib.Omega.{arith}
use Rattle.image.proofs.Laying.{shown_laid}
use Rattle.disjoint.proofs.Fields.{fields_few}
use Rattle.step.proofs.FieldPairs.{dynamic_room, ready, putting_start, putting_shown, putting_inside, putting_there, putting_room, putting_more, putting_end}
use Rattle.step.proofs.consequences.put_field_pairs.Goals as goal

pub put_dynamic_pair-requires-clause-b_len_bound : goal.put_dynamic_pair-requires-clause-b_len_bound
put_dynamic_pair-requires-clause-b_len_bound c = dynamic_room _ c.args.a c.args.b c.requires.b_len_bound

pub overflow_add-end : goal.overflow_add-end
overflow_add-end c = omega (arith, c.requires.inside_2, fields_few c.args.image.now (shown_laid c.requires.midway))

pub loop-j-init : goal.loop-j-init
loop-j-init c = putting_start (ready _ c.args.a c.args.b c.put_dynamic_pair.ensures c.requires.inside c.requires.inside_2 c.requires.b_len_bound)

pub put_field_pair-requires-clause-midway : goal.put_field_pair-requires-clause-midway
put_field_pair-requires-clause-midway c = putting_shown c.loop-j.invariant

pub put_field_pair-requires-clause-inside : goal.put_field_pair-requires-clause-inside
put_field_pair-requires-clause-inside c = putting_inside c.loop-j.invariant

pub put_field_pair-requires-clause-j_in_bounds : goal.put_field_pair-requires-clause-j_in_bounds
put_field_pair-requires-clause-j_in_bounds c = putting_there c.loop-j.invariant c.loop-j-test.true

pub put_field_pair-requires-clause-j_len_bound : goal.put_field_pair-requires-clause-j_len_bound
put_field_pair-requires-clause-j_len_bound c = putting_room c.loop-j.invariant c.loop-j-test.true

pub loop-j-preserved : goal.loop-j-preserved
loop-j-preserved c = putting_more c.loop-j.invariant c.loop-j-test.true c.put_field_pair.ensures

pub returns : goal.returns
returns c = putting_end _ c.args.a c.args.b c.put_dynamic_pair.ensures c.loop-j.invariant c.loop-j-test.false
