-- What the loops of `undo` keep.
use Rattle.model.specs.Image.{table}
use Rattle.type_table.proofs.Undoing.{Put}
use Rattle.type_table.proofs.undo.Given as goal

abbrev pub invariant-loop-i : goal.invariant-loop-i
invariant-loop-i l = Put (table l.initial.image) l.old l.i l.image
