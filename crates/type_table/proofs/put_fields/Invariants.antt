-- What the loops of `put_fields` keep.
use Rattle.type_table.proofs.Attrsets.{Fielded}
use Rattle.type_table.proofs.put_fields.Given as goal

abbrev pub invariant-loop-i : goal.invariant-loop-i
invariant-loop-i l = Fielded l.initial.image l.fields l.i l.image
