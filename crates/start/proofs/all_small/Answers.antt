-- `all_small`: the tests passed so far leave those of the regions that are left.
use Prim.Native.Nat.{ℕ}
use native.Mathlib.Omega.{arith}
use mathlib.Core.Path.{◌≡◌, sym, ap, ◌∙◌}
use mathlib.Core.Bool.{Bool, ◌&&◌, and_assoc, and-true}
use Rattle.image.proofs.Listed.{regions_many}
use Rattle.start.proofs.Sizes.{small_from, small_on, small_end}
use Rattle.start.proofs.all_small.Goals as goal

pub loop-k-preserved : goal.loop-k-preserved
loop-k-preserved c =
    let l = c.loop-k in
    let on = small_on c.args.sizes.now c.requires l.k (omega arith) in
    (omega arith, and_assoc l.ok _ _ ∙ ap (λ (b : Bool). l.ok && b) (sym on) ∙ l.invariant.1)

pub returns : goal.returns
returns c =
    let l = c.loop-k in
    let cs = c.args.sizes.now in
    let e : regions_many ≡ l.k = omega arith in
    sym (and-true l.ok) ∙ ap (λ (b : Bool). l.ok && b) (sym (small_end cs) ∙ ap (λ (k : ℕ). small_from k cs) e) ∙ l.invariant.1
