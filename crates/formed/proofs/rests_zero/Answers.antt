-- `formed::rests_zero`: the zeros seen so far leave those of the regions that are left. Assumes nothing.
use Prim.Native.Nat.{ℕ}
use native.Mathlib.Omega.{arith}
use mathlib.Core.Path.{◌≡◌, sym, ap, ◌∙◌}
use mathlib.Core.Bool.{Bool, ◌&&◌, and_assoc, and-true}
use Rattle.image.proofs.Listed.{rows_many}
use Rattle.formed.proofs.Lying.{zeros_from, zeros_on, zeros_end}
use Rattle.formed.proofs.rests_zero.Goals as goal

pub loop-k-preserved : goal.loop-k-preserved
loop-k-preserved c =
    let l = c.loop-k in
    let w = c.args.image.now in
    (omega arith, rw c.rest_zero-ok.ensures (and_assoc l.ok _ _ ∙ ap (λ (b : Bool). l.ok && b) (sym (zeros_on w l.k (omega arith))) ∙ l.invariant.1))

pub returns : goal.returns
returns c =
    let l = c.loop-k in
    let w = c.args.image.now in
    let e : rows_many ≡ l.k = omega arith in
    sym (and-true l.ok) ∙ ap (λ (b : Bool). l.ok && b) (sym (zeros_end w) ∙ ap (λ (k : ℕ). zeros_from w k) e) ∙ l.invariant.1
