-- `formed::entries::flags_known` meets its contract. Assumes nothing.
use borrow.Author.Tests.{eq-eqb, ne_eqb}
use Rattle.model.specs.Table.{is}
use Rattle.model.specs.Formed.{flags_known}
use Rattle.formed.proofs.entries.flags_known.Goals as goal

pub returns-then-e-eq-ATTRSET : goal.returns-then-e-eq-ATTRSET
unfolding flags_known is
returns-then-e-eq-ATTRSET c = rw (eq-eqb _ _ c.if-e-eq-ATTRSET.true)

pub returns-else-e-eq-ATTRSET : goal.returns-else-e-eq-ATTRSET
unfolding flags_known is
returns-else-e-eq-ATTRSET c = rw (ne_eqb _ _ c.if-e-eq-ATTRSET.false)
