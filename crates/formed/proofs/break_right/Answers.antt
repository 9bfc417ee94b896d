-- `formed::break_right` meets its contract. Assumes nothing.
use borrow.Author.Tests.{eq-eqb, ne_eqb}
use Rattle.model.specs.Image.{table}
use Rattle.model.specs.Formed.{is_entry, break_right}
use Rattle.image.specs.Reading.{entries_count}
use Rattle.formed.proofs.break_right.Goals as goal

pub returns-then-kind-eq-UNBROKEN : goal.returns-then-kind-eq-UNBROKEN
unfolding break_right table
returns-then-kind-eq-UNBROKEN c = rw (eq-eqb _ _ c.if-kind-eq-UNBROKEN.true)

pub returns-then-kind-eq-MISMATCHED : goal.returns-then-kind-eq-MISMATCHED
unfolding break_right is_entry table
returns-then-kind-eq-MISMATCHED c = rw (ne_eqb _ _ c.if-kind-eq-UNBROKEN.false, eq-eqb _ _ c.if-kind-eq-MISMATCHED.true, entries_count c.args.image.now)

pub returns-else-kind-eq-MISMATCHED : goal.returns-else-kind-eq-MISMATCHED
unfolding break_right is_entry table
returns-else-kind-eq-MISMATCHED c = rw (ne_eqb _ _ c.if-kind-eq-UNBROKEN.false, ne_eqb _ _ c.if-kind-eq-MISMATCHED.false, entries_count c.args.image.now)
