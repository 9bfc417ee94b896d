-- The pairs of a variable's bounds, put on pending last first: what is on it before bound record i. Assumes nothing.
use Prim.Native.Nat.{ℕ, zero, suc, ◌+◌, ◌-◌, ◌≤◌, ◌<◌}
use native.Mathlib.Omega.{arith}
use mathlib.Core.Path.{◌≡◌, refl, sym, ap, subst, ◌∙◌}
use mathlib.Core.List.{List, [], ◌∷◌, ◌++◌, map, reverse, append-nil, append_assoc, reverse-cons}
use mathlib.Core.Bool.{true, false, ◌&&◌}
use lib.ListN.{length, drop, length-append, length-reverse, length-map}
use lib.Dec.{eqb}
use Rattle.model.specs.Table.{Bound, Pair, Table, table_of}
use Rattle.model.specs.Image.{table}
use Rattle.model.specs.Making.{bounds_in}
use Rattle.model.specs.Rules.{bound_pair}
use Rattle.laws.proofs.Stores.{by_test}
use Rattle.image.specs.Shown.{store_of, bounds_all, pending_in, pending_to}
use Rattle.image.specs.Records.{bound_at}
use Rattle.image.proofs.Laying.{seen, shown_as}
use Rattle.writes.proofs.Pending.{same_size_as}
use Rattle.storage.specs.Bounds.{belongs_to}
use Rattle.storage.proofs.Scan.{taken, left, none_left}
use Rattle.step.specs.Taken.{Midway}

-- of the records from i on, no more than of all
fewer : (bs : List Bound) (i v side : ℕ) → length (bounds_in (drop i bs) v side) ≤ length (bounds_in bs v side)
unfolding bounds_in
fewer [] zero v side = omega arith
fewer [] (suc i) v side = omega arith
fewer (b ∷ bs) zero v side = omega arith
fewer (b ∷ bs) (suc i) v side =
    let rest = fewer bs i v side in
    by_test (λ (l : List ℕ). length (bounds_in (drop i bs) v side) ≤ length l) (eqb b.variable v && eqb b.side side) {x = b.bound ∷ bounds_in bs v side} {y = bounds_in bs v side} (λ h. omega (arith, rest)) (λ h. rest)

-- the pairs of the bounds from record i on
abbrev pub pairs_from : List Bound → ℕ → ℕ → ℕ → ℕ → List Pair
pairs_from bs v side b i = reverse (map (bound_pair side b) (bounds_in (drop i bs) v side))

pub record Paired (w₀ : List ℕ) (v side b i : ℕ) (w : List ℕ) : Type 0 where
  pub shows : Midway w (pending_to w₀ (pending_in w₀ ++ pairs_from (bounds_all w₀) v side b i))
  pub upto : i ≤ length (bounds_all w₀)
  pub room : length (pending_in w₀) + length (bounds_in (bounds_all w₀) v side) ≤ (store_of w₀).capacities.pending

pub paired_start : (w : List ℕ) (v side b n : ℕ) → Midway w (table w) → length (pending_in w) + length (bounds_in (bounds_all w) v side) ≤ (store_of w).capacities.pending → n ≡ length (bounds_all w)
    → Paired w v side b n w
paired_start w v side b n s room e =
    let q : pending_in w ++ pairs_from (bounds_all w) v side b n ≡ pending_in w =
    ap (λ (k : ℕ). pending_in w ++ pairs_from (bounds_all w) v side b k) e
    ∙ ap (λ (l : List ℕ). pending_in w ++ reverse (map (bound_pair side b) l)) (none_left v side (bounds_all w)) ∙ append-nil (pending_in w) in
    record { shows = subst (λ (l : List Pair). Midway w (pending_to w l)) (sym q) s; upto = omega arith; room = room }

module _ (w₀ : List ℕ) (v side b i : ℕ) (w : List ℕ) (p : Paired w₀ v side b i w) where
  pub paired_shown : Midway w (table w)
  paired_shown = shown_as p.shows

  same_bounds : bounds_all w ≡ bounds_all w₀
  same_bounds = ap (λ (t : Table). t.store.bounds) (seen p.shows)

  module _ (h : 0 < i) where
    pub paired_inside : i - 1 < length (bounds_all w)
    paired_inside = omega (arith, p.upto, ap length same_bounds)

    before : i ≡ (i - 1) + 1
    before = omega arith

    module _ (t : belongs_to v side (bound_at (bounds_all w) (i - 1)) ≡ true) where
      one_taken : bounds_in (drop (i - 1) (bounds_all w₀)) v side ≡ (bound_at (bounds_all w₀) (i - 1)).bound ∷ bounds_in (drop i (bounds_all w₀)) v side
      one_taken =
          let bs : List Bound = bounds_all w₀ in
          taken v side bs (i - 1) (omega (arith, p.upto)) (ap (λ (l : List Bound). belongs_to v side (bound_at l (i - 1))) (sym same_bounds) ∙ t)
          ∙ ap (λ (k : ℕ). (bound_at bs (i - 1)).bound ∷ bounds_in (drop k bs) v side) (sym before)

      pub paired_room : length (pending_in w) < (store_of w).capacities.pending
      paired_room =
          let bs : List Bound = bounds_all w₀ in
          let l : List ℕ = bounds_in (drop i bs) v side in
          let m : length (pairs_from bs v side b i) ≡ length l = length-reverse (map (bound_pair side b) l) ∙ length-map l (bound_pair side b) in
          let k : length (pending_in w₀ ++ pairs_from bs v side b i) < (store_of w₀).capacities.pending =
          omega (arith, length-append (pending_in w₀) (pairs_from bs v side b i), m, ap length one_taken, fewer bs (i - 1) v side, p.room) in
          subst (λ (u : Table). length u.pending < u.store.capacities.pending) (sym (seen p.shows)) k

      pub paired_more : (x : ℕ) (u : List ℕ) → x ≡ (bound_at (bounds_all w) (i - 1)).bound → Midway u (pending_to w (pending_in w ++ (bound_pair side b x ∷ []))) → Paired w₀ v side b (i - 1) u
      paired_more x u e su =
          let bs : List Bound = bounds_all w₀ in
          let f : ℕ → Pair = bound_pair side b in
          let y : ℕ = (bound_at bs (i - 1)).bound in
          let l : List ℕ = bounds_in (drop i bs) v side in
          let x≡y : x ≡ y = e ∙ ap (λ (z : List Bound). (bound_at z (i - 1)).bound) same_bounds in
          let q : (pending_in w₀ ++ pairs_from bs v side b i) ++ (f x ∷ []) ≡ pending_in w₀ ++ pairs_from bs v side b (i - 1) =
          append_assoc (pending_in w₀) (pairs_from bs v side b i) (f x ∷ [])
          ∙ ap (λ (z : List Pair). pending_in w₀ ++ z)
          (ap (λ (n : ℕ). pairs_from bs v side b i ++ (f n ∷ [])) x≡y ∙ sym (reverse-cons (f y) (map f l)) ∙ ap (λ (z : List ℕ). reverse (map f z)) (sym one_taken)) in
          let a : Midway u (pending_to w₀ ((pending_in w₀ ++ pairs_from bs v side b i) ++ (f x ∷ []))) =
          subst (λ (z : Table). Midway u (table_of z.store (z.pending ++ (f x ∷ [])))) (seen p.shows) su in
          record { shows = subst (λ (z : List Pair). Midway u (pending_to w₀ z)) q a; upto = omega (arith, p.upto); room = p.room }

    pub paired_skip : belongs_to v side (bound_at (bounds_all w) (i - 1)) ≡ false → Paired w₀ v side b (i - 1) w
    paired_skip t =
        let bs : List Bound = bounds_all w₀ in
        let q : bounds_in (drop (i - 1) bs) v side ≡ bounds_in (drop i bs) v side =
        left v side bs (i - 1) (omega (arith, p.upto)) (ap (λ (l : List Bound). belongs_to v side (bound_at l (i - 1))) (sym same_bounds) ∙ t)
        ∙ ap (λ (k : ℕ). bounds_in (drop k bs) v side) (sym before) in
        record {
          shows = subst (λ (l : List ℕ). Midway w (pending_to w₀ (pending_in w₀ ++ reverse (map (bound_pair side b) l)))) (sym q) p.shows;
          upto = omega (arith, p.upto);
          room = p.room;
        }

  pub paired_end : i ≤ 0 → Midway w (pending_to w₀ (pending_in w₀ ++ reverse (map (bound_pair side b) (bounds_in (bounds_all w₀) v side))))
  paired_end h =
      let e : i ≡ 0 = omega arith in
      subst (λ (k : ℕ). Midway w (pending_to w₀ (pending_in w₀ ++ pairs_from (bounds_all w₀) v side b k))) e p.shows

pub same_length : (w v : List ℕ) (ps : List Pair) → Midway w (table w) → Midway v (pending_to w ps) → length v ≡ length w
same_length w v ps s r = same_size_as r s refl
