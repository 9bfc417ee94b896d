-- `put_header`: the words written so far leave those of the regions that are left.
use Prim.Native.Nat.{ℕ}
use native.Mathlib.Omega.{arith}
use mathlib.Core.Path.{◌≡◌, sym, ap, ◌∙◌}
use mathlib.Core.List.{List}
use lib.ListN.{length, length-set}
use Rattle.model.specs.Format.{header_words}
use Rattle.image.proofs.Listed.{regions_many}
use Rattle.start.proofs.Sizes.{head_from, size_on, head_on, head_end, counts}
use Rattle.start.proofs.put_header.Goals as goal

pub overflow_cast-at : goal.overflow_cast-at
overflow_cast-at c =
    let m = counts c.args.sizes.now c.requires.t in
    omega (arith, c.loop-k.invariant.1)

pub overflow_add-at : goal.overflow_add-at
overflow_add-at c =
    let on = size_on c.args.sizes.now c.requires.sizes_len c.loop-k.k (omega arith) c.loop-k.at c.wide.result c.wide.ensures c.requires.t c.loop-k.invariant.1 in
    omega (arith, on.within)

pub loop-k-preserved : goal.loop-k-preserved
loop-k-preserved c =
    let l = c.loop-k in
    let on = size_on c.args.sizes.now c.requires.sizes_len c.loop-k.k (omega arith) c.loop-k.at c.wide.result c.wide.ensures c.requires.t c.loop-k.invariant.1 in
    let w = head_on c.args.sizes.now c.requires.sizes_len l.k (omega arith) l.at l.image in
    (omega arith, on.next, ap length c.put_region.ensures ∙ simp length-set l.invariant.2, rw (c.put_region.ensures, c.wide.ensures) (sym w ∙ l.invariant.3))

pub returns : goal.returns
returns c =
    let l = c.loop-k in
    let cs = c.args.sizes.now in
    let e : regions_many ≡ l.k = omega arith in
    sym (head_end l.at cs l.image)
    ∙ ap (λ (k : ℕ). head_from k l.at cs l.image) e
    ∙ l.invariant.3
    ∙ ap (λ (w : List ℕ). head_from 0 header_words cs w) c.put_front.ensures
