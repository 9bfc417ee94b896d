-- `inter_contains_var`: whether entry n is a variable, or leads to one through inter and named.
use borrow.Author.Rules.{rules}
use mathlib.Core.Path.{sym, ◌∙◌}
use native.Mathlib.Omega.{arith}
use Rattle.disjoint.proofs.Views.{under}
use Rattle.disjoint.proofs.Searches.{holds_step, holds_none}
use Rattle.disjoint.proofs.+inter_contains_var.Goals as goal

pub inter_contains_var-requires : goal.inter_contains_var-requires
inter_contains_var-requires t c =
    let u = under _ c.requires.good _ c.requires.n_in_bounds _ (sym c.entry-e.ensures ∙ c.in-Inter.is) in
    (omega arith, (c.requires.laid, (c.requires.good, omega arith)))

pub inter_contains_var-requires-else-inter_contains_var : goal.inter_contains_var-requires-else-inter_contains_var
inter_contains_var-requires-else-inter_contains_var t c =
    let u = under _ c.requires.good _ c.requires.n_in_bounds _ (sym c.entry-e.ensures ∙ c.in-Inter.is) in
    (omega arith, (c.requires.laid, (c.requires.good, omega arith)))

pub inter_contains_var-requires-in-Named : goal.inter_contains_var-requires-in-Named
inter_contains_var-requires-in-Named t c =
    let u = under _ c.requires.good _ c.requires.n_in_bounds _ (sym c.entry-e.ensures ∙ c.in-Named.is) in
    (omega arith, (c.requires.laid, (c.requires.good, omega arith)))

pub returns-in-Variable : goal.returns-in-Variable
returns-in-Variable t c = sym (holds_step _ c.requires.good _ c.requires.n_in_bounds (sym c.in-Variable.is ∙ c.entry-e.ensures))

pub returns-then-inter_contains_var : goal.returns-then-inter_contains_var
returns-then-inter_contains_var t c =
    let h = sym c.inter_contains_var.ensures ∙ c.if-inter_contains_var.true in
    sym (holds_step _ c.requires.good _ c.requires.n_in_bounds (sym c.in-Inter.is ∙ c.entry-e.ensures) ∙ rw h)

pub returns-else-inter_contains_var : goal.returns-else-inter_contains_var
returns-else-inter_contains_var t c =
    let h = sym c.inter_contains_var.ensures ∙ c.if-inter_contains_var.false in
    c.inter_contains_var-else-inter_contains_var.ensures ∙ sym (holds_step _ c.requires.good _ c.requires.n_in_bounds (sym c.in-Inter.is ∙ c.entry-e.ensures) ∙ rw h)

pub returns-in-Named : goal.returns-in-Named
returns-in-Named t c = c.inter_contains_var-in-Named.ensures ∙ sym (holds_step _ c.requires.good _ c.requires.n_in_bounds (sym c.in-Named.is ∙ c.entry-e.ensures))

pub returns-in_default : goal.returns-in_default
returns-in_default t c = holds_none _ c.requires.good _ c.requires.n_in_bounds c.entry-e.ensures (search rules)
