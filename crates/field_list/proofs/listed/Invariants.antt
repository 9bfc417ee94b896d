-- What the loops of `listed` keep.
use Rattle.field_list.proofs.Fields.{Listed}
use Rattle.field_list.proofs.listed.Given as goal

abbrev pub invariant-loop-i : goal.invariant-loop-i
invariant-loop-i l = Listed l.names l.fields l.ok l.least l.i
