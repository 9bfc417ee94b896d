-- `union_contains_member`: whether target is entry n itself, or a member of it through unions and named.
use borrow.Author.Rules.{rules}
use mathlib.Core.Path.{sym, ◌∙◌}
use native.Mathlib.Omega.{arith}
use Rattle.disjoint.proofs.Views.{under}
use Rattle.disjoint.proofs.Searches.{member_self, member_step, member_none}
use Rattle.disjoint.proofs.+union_contains_member.Goals as goal

pub returns-then-n-target : goal.returns-then-n-target
returns-then-n-target t c = member_self _ _ _ c.if-n-target.true

pub union_contains_member-requires : goal.union_contains_member-requires
union_contains_member-requires t c =
    let u = under _ c.requires.good _ c.requires.n_in_bounds _ (sym c.entry-e.ensures ∙ c.in-Union.is) in
    (omega arith, (c.requires.laid, (c.requires.good, omega arith)))

pub union_contains_member-requires-else-union_contains_member : goal.union_contains_member-requires-else-union_contains_member
union_contains_member-requires-else-union_contains_member t c =
    let u = under _ c.requires.good _ c.requires.n_in_bounds _ (sym c.entry-e.ensures ∙ c.in-Union.is) in
    (omega arith, (c.requires.laid, (c.requires.good, omega arith)))

pub union_contains_member-requires-in-Named : goal.union_contains_member-requires-in-Named
union_contains_member-requires-in-Named t c =
    let u = under _ c.requires.good _ c.requires.n_in_bounds _ (sym c.entry-e.ensures ∙ c.in-Named.is) in
    (omega arith, (c.requires.laid, (c.requires.good, omega arith)))

pub returns-then-union_contains_member : goal.returns-then-union_contains_member
returns-then-union_contains_member t c =
    let h = sym c.union_contains_member.ensures ∙ c.if-union_contains_member.true in
    sym (member_step _ c.requires.good _ c.requires.n_in_bounds (sym c.in-Union.is ∙ c.entry-e.ensures) _ c.if-n-target.false ∙ rw h)

pub returns-else-union_contains_member : goal.returns-else-union_contains_member
returns-else-union_contains_member t c =
    let h = sym c.union_contains_member.ensures ∙ c.if-union_contains_member.false in
    c.union_contains_member-else-union_contains_member.ensures ∙ sym (member_step _ c.requires.good _ c.requires.n_in_bounds (sym c.in-Union.is ∙ c.entry-e.ensures) _ c.if-n-target.false ∙ rw h)

pub returns-in-Named : goal.returns-in-Named
returns-in-Named t c = c.union_contains_member-in-Named.ensures ∙ sym (member_step _ c.requires.good _ c.requires.n_in_bounds (sym c.in-Named.is ∙ c.entry-e.ensures) _ c.if-n-target.false)

pub returns-in_default : goal.returns-in_default
returns-in_default t c = member_none _ c.requires.good _ c.requires.n_in_bounds c.entry-e.ensures _ c.if-n-target.false (search rules)
