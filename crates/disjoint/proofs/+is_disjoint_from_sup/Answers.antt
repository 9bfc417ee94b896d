-- `is_disjoint_from_sup`: whether entry n, or a member of it through inter, is disjoint from entry sup.
use borrow.Author.Rules.{rules}
use mathlib.Core.Path.{sym, ◌∙◌}
use native.Mathlib.Omega.{arith}
use Rattle.disjoint.proofs.Views.{under}
use Rattle.disjoint.proofs.Searches.{disjoint_step, disjoint_none}
use Rattle.disjoint.proofs.+is_disjoint_from_sup.Goals as goal

pub is_disjoint_from_sup-requires : goal.is_disjoint_from_sup-requires
is_disjoint_from_sup-requires t c =
    let u = under _ c.requires.good _ c.requires.n_in_bounds _ (sym c.entry-e.ensures ∙ c.in-Inter.is) in
    (omega arith, (c.requires.laid, (c.requires.good, (omega arith, c.requires.sup_in_bounds))))

pub is_disjoint_from_sup-requires-else-is_disjoint_from_sup : goal.is_disjoint_from_sup-requires-else-is_disjoint_from_sup
is_disjoint_from_sup-requires-else-is_disjoint_from_sup t c =
    let u = under _ c.requires.good _ c.requires.n_in_bounds _ (sym c.entry-e.ensures ∙ c.in-Inter.is) in
    (omega arith, (c.requires.laid, (c.requires.good, (omega arith, c.requires.sup_in_bounds))))

pub returns-then-is_disjoint_from_sup : goal.returns-then-is_disjoint_from_sup
returns-then-is_disjoint_from_sup t c =
    let h = sym c.is_disjoint_from_sup.ensures ∙ c.if-is_disjoint_from_sup.true in
    sym (disjoint_step _ c.requires.good _ c.requires.n_in_bounds (sym c.in-Inter.is ∙ c.entry-e.ensures) _ ∙ rw h)

pub returns-else-is_disjoint_from_sup : goal.returns-else-is_disjoint_from_sup
returns-else-is_disjoint_from_sup t c =
    let h = sym c.is_disjoint_from_sup.ensures ∙ c.if-is_disjoint_from_sup.false in
    c.is_disjoint_from_sup-else-is_disjoint_from_sup.ensures ∙ sym (disjoint_step _ c.requires.good _ c.requires.n_in_bounds (sym c.in-Inter.is ∙ c.entry-e.ensures) _ ∙ rw h)

pub returns-in_default : goal.returns-in_default
returns-in_default t c = c.are_types_disjoint.ensures ∙ disjoint_none _ c.requires.good _ c.requires.n_in_bounds c.entry-e.ensures _ (search rules)
