-- Laws of a test that passes at each number below n, and of the first number at which one passes. Assumes nothing.
use Prim.Native.Nat.{ℕ, zero, suc, ◌+◌, ◌<◌}
use native.Mathlib.Nat.{eq-or-lt_of_le}
use native.Mathlib.Numerals.{add-one}
use native.Mathlib.Omega.{arith}
use mathlib.Core.Path.{◌≡◌, refl, ◌∙◌}
use mathlib.Core.List.{List, [], ◌∷◌}
use mathlib.Core.Bool.{Bool, true, false, cond, and-false, and-eq-true_iff}
use mathlib.Core.Logic.{⊎_elim}
use lib.ListN.{get_or}
use Rattle.model.specs.Lists.{all_of}
use Rattle.names.specs.Names.{all_below, or_else, first_below}

-- where all of some tests pass, each does
pub all_of_at : (ts : List Bool) → all_of ts ≡ true → (k : ℕ) → get_or ts k true ≡ true
unfolding all_of
all_of_at [] e k = refl
all_of_at (t ∷ ts) e zero = ((and-eq-true_iff t (all_of ts)).0 e).0
all_of_at (t ∷ ts) e (suc k) = all_of_at ts ((and-eq-true_iff t (all_of ts)).0 e).1 k

module _ (p : ℕ → Bool) where
  pub all_none : all_below p 0 ≡ true
  unfolding all_below
  all_none = refl

  pub all_more : (i : ℕ) → all_below p i ≡ true → p i ≡ true → all_below p (i + 1) ≡ true
  unfolding all_below
  all_more i e h = rw (add-one i, e, h)

  pub all_miss : (i n : ℕ) → i < n → p i ≡ false → all_below p n ≡ false
  unfolding all_below
  all_miss i zero lt h = absurd (omega arith)
  all_miss i (suc n) lt h =
      ⊎_elim
      (λ (e : i ≡ n). rw (← e, h) (and-false (all_below p i)))
      (λ (l : i < n). rw (all_miss i n l h))
      (eq-or-lt_of_le (omega arith))

  -- where the test passes below n, it passes at each i below n
  pub all_at : (n : ℕ) → all_below p n ≡ true → (i : ℕ) → i < n → p i ≡ true
  unfolding all_below
  all_at zero e i lt = absurd (omega arith)
  all_at (suc n) e i lt =
      ⊎_elim
      (λ (q : i ≡ n). rw q ((and-eq-true_iff (all_below p n) (p n)).0 e).1)
      (λ (l : i < n). all_at n ((and-eq-true_iff (all_below p n) (p n)).0 e).0 i l)
      (eq-or-lt_of_le (omega arith))

  pub first_none : first_below p 0 ≡ []
  unfolding first_below
  first_none = refl

  pub first_more : (i : ℕ) → first_below p i ≡ [] → p i ≡ false → first_below p (i + 1) ≡ []
  unfolding first_below
  first_more i e h = rw (add-one i, e, h)

  pub first_hit : (i n : ℕ) → i < n → first_below p i ≡ [] → p i ≡ true → first_below p n ≡ i ∷ []
  unfolding first_below
  first_hit i zero lt e h = absurd (omega arith)
  first_hit i (suc n) lt e h =
      ⊎_elim
      (λ (q : i ≡ n). rw (← q, e, h))
      (λ (l : i < n). rw (first_hit i n l e h))
      (eq-or-lt_of_le (omega arith))

  -- where the test passes nowhere below n, there is no first number
  pub first_nowhere : (n : ℕ) → ((k : ℕ) → k < n → p k ≡ false) → first_below p n ≡ []
  unfolding first_below
  first_nowhere zero h = refl
  first_nowhere (suc n) h = rw (first_nowhere n (λ k l. h k (omega arith)), h n (omega arith))

  by_first : (n i : ℕ) (l : List ℕ) → first_below p n ≡ l → (t : Bool) → p n ≡ t → or_else l (cond t (n ∷ []) []) ≡ i ∷ []
      → (first_below p n ≡ i ∷ [] → (i < n) × (p i ≡ true))
      → (i < suc n) × (p i ≡ true)
  by_first n i [] q true h e on = let same : n ≡ i = cc in (omega arith, rw (← same) h)
  by_first n i [] q false h e on = let z : ◌≡◌ {A = ℕ} 0 1 = cc in absurd (omega arith)
  by_first n i (k ∷ l) q t h e on = let r : (i < n) × (p i ≡ true) = on (q ∙ e) in (omega arith, r.1)

  -- the first number is below n, and the test passes there
  pub first_found : (n i : ℕ) → first_below p n ≡ i ∷ [] → (i < n) × (p i ≡ true)
  unfolding first_below
  first_found zero i e = let z : ◌≡◌ {A = ℕ} 0 1 = cc in absurd (omega arith)
  first_found (suc n) i e = by_first n i (first_below p n) refl (p n) refl e (λ q. first_found n i q)
