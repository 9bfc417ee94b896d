-- What the loops of `known` keep.
use lib.Dec.{ltb}
use Rattle.field_list.proofs.Fields.{Tested}
use Rattle.field_list.proofs.known.Given as goal

abbrev pub invariant-loop-i : goal.invariant-loop-i
invariant-loop-i l = Tested (λ f. ltb f.entry l.count) l.fields l.ok l.i
