-- No two answers tell the same: a promise about what is told settles the answer. Assumes nothing.
use Prim.Native.Nat.{ℕ}
use native.Mathlib.Omega.{arith}
use mathlib.Core.Path.{◌≡◌, refl, sym, ap}
use mathlib.Core.List.{List, [], ◌∷◌}
use mathlib.Core.Bool.{cond}
use lib.Dec.{eqb}
use Rattle.std.specs.Prelude.{Option, None, Some, Result, Ok, Err}
use Rattle.std.specs.declared.cmp.Ordering.{Ordering}
use Rattle.std.specs.declared.cmp.Ordering.TheVariants.{Less, Equal, Greater}
use Rattle.model.specs.Told.{done, told_refusal}
use Rattle.model.specs.declared.Refusal.{Refusal}
use Rattle.model.proofs.OneToOne.{found_once, refusal_one_to_one}
use Rattle.names.specs.Answers.{told_counted, told_order, told_compared, told_found, told_placed}
use Rattle.names.specs.declared.Placed.{Placed}

-- what a call tells where it is done is no refusal
pub done_refused : (vs : List ℕ) (r : Refusal) → done vs ≡ told_refusal r → ⊥
done_refused vs r e = let z : ◌≡◌ {A = ℕ} 0 1 = cc in omega arith

pub counted_one_to_one : (a b : Result ℕ Refusal) → told_counted a ≡ told_counted b → a ≡ b
counted_one_to_one (Ok m) (Ok n) e = cc
counted_one_to_one (Ok m) (Err s) e = absurd (done_refused (m ∷ []) s e)
counted_one_to_one (Err r) (Ok n) e = absurd (done_refused (n ∷ []) r (sym e))
counted_one_to_one (Err r) (Err s) e = ap Err (refusal_one_to_one r s e)

order_back : ℕ → Ordering
order_back n = cond (eqb n 0) Less (cond (eqb n 1) Equal Greater)

order_found : (o : Ordering) → order_back (told_order o) ≡ o
unfolding order_back
order_found Less = refl
order_found Equal = refl
order_found Greater = refl

pub order_one_to_one : (a b : Ordering) → told_order a ≡ told_order b → a ≡ b
order_one_to_one = found_once told_order order_back order_found

pub compared_one_to_one : (a b : Result Ordering Refusal) → told_compared a ≡ told_compared b → a ≡ b
compared_one_to_one (Ok o) (Ok p) e = let same : told_order o ≡ told_order p = cc in ap Ok (order_one_to_one o p same)
compared_one_to_one (Ok o) (Err s) e = absurd (done_refused ((told_order o) ∷ []) s e)
compared_one_to_one (Err r) (Ok p) e = absurd (done_refused ((told_order p) ∷ []) r (sym e))
compared_one_to_one (Err r) (Err s) e = ap Err (refusal_one_to_one r s e)

pub found_one_to_one : (a b : Result (Option ℕ) Refusal) → told_found a ≡ told_found b → a ≡ b
found_one_to_one (Ok (Some m)) (Ok (Some n)) e = cc
found_one_to_one (Ok (Some m)) (Ok None) e = let z : ◌≡◌ {A = ℕ} 0 1 = cc in absurd (omega arith)
found_one_to_one (Ok (Some m)) (Err s) e = absurd (done_refused (m ∷ []) s e)
found_one_to_one (Ok None) (Ok (Some n)) e = let z : ◌≡◌ {A = ℕ} 0 1 = cc in absurd (omega arith)
found_one_to_one (Ok None) (Ok None) e = refl
found_one_to_one (Ok None) (Err s) e = absurd (done_refused [] s e)
found_one_to_one (Err r) (Ok (Some n)) e = absurd (done_refused (n ∷ []) r (sym e))
found_one_to_one (Err r) (Ok None) e = absurd (done_refused [] r (sym e))
found_one_to_one (Err r) (Err s) e = ap Err (refusal_one_to_one r s e)

pub placed_one_to_one : (a b : Result Placed Refusal) → told_placed a ≡ told_placed b → a ≡ b
placed_one_to_one (Ok p) (Ok q) e =
    let starts : p.start ≡ q.start = cc in
    let counts : p.bytes ≡ q.bytes = cc in
    rw (starts, counts)
placed_one_to_one (Ok p) (Err s) e = absurd (done_refused (p.start ∷ p.bytes ∷ []) s e)
placed_one_to_one (Err r) (Ok q) e = absurd (done_refused (q.start ∷ q.bytes ∷ []) r (sym e))
placed_one_to_one (Err r) (Err s) e = ap Err (refusal_one_to_one r s e)
