-- `spread_of`: how far an entry of this kind, with these words, spreads.
use Prim.Native.Nat.{ℕ, ◌+◌}
use native.Mathlib.Omega.{arith}
use mathlib.Core.Path.{sym, ap, ◌∙◌}
use Rattle.image.specs.Shown.{entries_of}
use Rattle.type_table.proofs.WaysOut.{spread_none, spread_inner, spread_both}
use Rattle.type_table.proofs.spread_of.Goals as goal

pub returns-in-0-to-4 : goal.returns-in-0-to-4
returns-in-0-to-4 c =
    let a = c.args in
    sym (spread_none (entries_of a.image.now) a.kind a.x a.y (omega arith))

pub returns-in-5-to-6 : goal.returns-in-5-to-6
returns-in-5-to-6 c =
    let a = c.args in
    ap (λ (i : ℕ). 1 + i) c.word.ensures ∙ sym (spread_inner (entries_of a.image.now) a.kind a.x a.y (omega arith) (omega arith))

pub returns-in_default : goal.returns-in_default
returns-in_default c =
    let a = c.args in
    omega (arith, c.word-in_default.ensures, c.word-in_default-2.ensures, spread_both (entries_of a.image.now) a.kind a.x a.y (omega arith))
