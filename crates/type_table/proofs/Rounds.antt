-- Making Neg(n) without rounds: in good entries it is by cases on n, the negations of the parts made the same way. Assumes nothing.
use Prim.Native.Nat.{ℕ, zero, suc, ◌+◌, ◌-◌, ◌≤◌, ◌<◌}
use native.Mathlib.Omega.{arith}
use mathlib.Core.Path.{◌≡◌, refl, sym, ap, ◌∙◌}
use mathlib.Core.List.{List}
use mathlib.Core.Bool.{Bool, true, false, cond}
use mathlib.Core.Logic.{⊎_elim}
use lib.ListN.{length}
use lib.Dec.{eqb}
use borrow.Author.Tests.{eqb-true, eq-eqb, ne_eqb}
use Rattle.model.specs.Format.{neg, inter, union}
use Rattle.model.specs.Table.{Entry, Field, entry_at, is}
use Rattle.model.specs.Making.{Making, new_entry, cached_as, Negating, cached, twice, spread_over, fresh, negating_uncached, negating_by, negating, neg_by, neg_within, make_neg}
use Rattle.model.specs.Formed.{kind_known}
use Rattle.laws.specs.Good.{EntriesGood, entry_good}
use Rattle.laws.proofs.Tests.{nth, le_of}
use Rattle.laws.proofs.Entries.{lt_or_ge, x_known, y_known}
use Rattle.laws.proofs.Negation.{Grown, grown_within}

-- the parts of an entry whose negation spreads over them are its components
abbrev PartsOf : Entry → Negating → Type 0
PartsOf e (cached c) = Unit {0}
PartsOf e (twice x) = Unit {0}
PartsOf e (spread_over kind a b) = (neg < e.kind) × ((a ≡ e.x) × (b ≡ e.y))
PartsOf e fresh = Unit {0}

parts_uncached : (e : Entry) (i j k : Bool) → eqb e.kind inter ≡ j → eqb e.kind union ≡ k
    → PartsOf e (cond i (twice e.x) (cond j (spread_over union e.x e.y) (cond k (spread_over inter e.x e.y) fresh)))
parts_uncached e true j k p q = tt
parts_uncached e false true k p q = (omega (arith, eqb-true e.kind inter p), (refl, refl))
parts_uncached e false false true p q = (omega (arith, eqb-true e.kind union q), (refl, refl))
parts_uncached e false false false p q = tt

parts_by : (e : Entry) (c : ℕ) → PartsOf e (negating_by c e)
unfolding negating_by negating_uncached is
parts_by e zero = parts_uncached e (eqb e.kind neg) (eqb e.kind inter) (eqb e.kind union) refl refl
parts_by e (suc c) = tt

parts_of : (e : Entry) → PartsOf e (negating e)
unfolding negating
parts_of e = parts_by e e.negation

module _ (fs : List Field) (names : ℕ) where
  -- two ways to make the parts that agree on good entries
  same_by : (f g : List Entry → ℕ → Making) (es : List Entry) (n : ℕ) → EntriesGood es fs names → n < length es
      → ((us : List Entry) (i : ℕ) → EntriesGood us fs names → i < n → i < length us → Grown us fs names i (f us i))
      → ((us : List Entry) (i : ℕ) → EntriesGood us fs names → i < n → i < length us → f us i ≡ g us i)
      → (d : Negating) → PartsOf (entry_at es n) d → neg_by f es n d ≡ neg_by g es n d
  unfolding neg_by
  same_by f g es n good h grown same (cached c) k = refl
  same_by f g es n good h grown same (twice x) k = refl
  same_by f g es n good h grown same fresh k = refl
  same_by f g es n good h grown same (spread_over kind a b) k =
      let la : a < n = omega (arith, x_known es fs names good n h (omega arith)) in
      let lb : b < n = omega (arith, y_known es fs names good n h k.0) in
      let m : Making = f es a in
      let w : Grown es fs names a m = grown es a good la (omega arith) in
      let two : f m.after b ≡ g m.after b = same m.after b w.good lb (omega (arith, w.least)) in
      rw (sym (same es a good la (omega arith))) (ap (λ (l : Making). cached_as n (new_entry l.after kind m.number l.number)) two)

  -- more rounds make no difference
  agree : (r q : ℕ) (es : List Entry) (n : ℕ) → EntriesGood es fs names → n < r → n < q → n < length es → neg_within r es n ≡ neg_within q es n
  unfolding neg_within
  agree zero q es n g lr lq h = absurd (omega arith)
  agree (suc r) zero es n g lr lq h = absurd (omega arith)
  agree (suc r) (suc q) es n g lr lq h =
      same_by (neg_within r) (neg_within q) es n g h (λ us i gu ni lt. grown_within fs names r us i gu (omega arith) lt)
      (λ us i gu ni lt. agree r q us i gu (omega arith) (omega arith) lt) (negating (entry_at es n)) (parts_of (entry_at es n))

  -- Neg(n) by cases
  pub neg_by_lem : (es : List Entry) (n : ℕ) → EntriesGood es fs names → n < length es → make_neg es n ≡ neg_by make_neg es n (negating (entry_at es n))
  unfolding make_neg neg_within
  neg_by_lem es n g h =
      same_by (neg_within n) make_neg es n g h (λ us i gu ni lt. grown_within fs names n us i gu ni lt)
      (λ us i gu ni lt. agree n (suc i) us i gu ni (omega arith) lt) (negating (entry_at es n)) (parts_of (entry_at es n))

-- Neg(n) in each of the cases
module _ (es : List Entry) (fs : List Field) (names n : ℕ) (g : EntriesGood es fs names) (h : n < length es) where
  neg_as : (d : Negating) → negating (entry_at es n) ≡ d → make_neg es n ≡ neg_by make_neg es n d
  neg_as d e = neg_by_lem fs names es n g h ∙ ap (λ (c : Negating). neg_by make_neg es n c) e

  pub kind_known_lem : (entry_at es n).kind ≤ union
  unfolding entry_good kind_known
  kind_known_lem = le_of (entry_at es n).kind union (nth _ 0 (g n h))

  pub neg_cached : (c : ℕ) → (entry_at es n).negation ≡ suc c → make_neg es n ≡ record { number = c; after = es }
  unfolding neg_by negating negating_by
  neg_cached c e = neg_as (cached c) (rw e)

  pub neg_twice : (entry_at es n).negation ≡ 0 → (entry_at es n).kind ≡ neg → make_neg es n ≡ record { number = (entry_at es n).x; after = es }
  unfolding neg_by negating negating_by negating_uncached is
  neg_twice z e = neg_as (twice (entry_at es n).x) (rw (z, eq-eqb (entry_at es n).kind neg e))

  pub neg_fresh : (entry_at es n).negation ≡ 0 → (entry_at es n).kind < neg → make_neg es n ≡ cached_as n (new_entry es neg n 0)
  unfolding neg_by negating negating_by negating_uncached is
  neg_fresh z l =
      neg_as fresh (rw (z, ne_eqb (entry_at es n).kind neg (λ e. omega arith), ne_eqb (entry_at es n).kind inter (λ e. omega arith), ne_eqb (entry_at es n).kind union (λ e. omega arith)))

  over_is : (entry_at es n).negation ≡ 0 → neg < (entry_at es n).kind → negating (entry_at es n) ≡ spread_over (inter + union - (entry_at es n).kind) (entry_at es n).x (entry_at es n).y
  unfolding negating negating_by negating_uncached is
  over_is z l =
      ⊎_elim
      (λ (lt : (entry_at es n).kind < union). let e : (entry_at es n).kind ≡ inter = omega arith in rw (z, e))
      (λ (ge : union ≤ (entry_at es n).kind). let e : (entry_at es n).kind ≡ union = omega (arith, kind_known_lem) in rw (z, e))
      (lt_or_ge (entry_at es n).kind union)

  -- an inter or a union: the negations of its parts, one after the other, and the union or inter of them
  pub neg_over : (entry_at es n).negation ≡ 0 → neg < (entry_at es n).kind
      → make_neg es n ≡ cached_as n (new_entry (make_neg (make_neg es (entry_at es n).x).after (entry_at es n).y).after (inter + union - (entry_at es n).kind)
      (make_neg es (entry_at es n).x).number (make_neg (make_neg es (entry_at es n).x).after (entry_at es n).y).number)
  unfolding neg_by
  neg_over z l = neg_as (spread_over (inter + union - (entry_at es n).kind) (entry_at es n).x (entry_at es n).y) (over_is z l)
