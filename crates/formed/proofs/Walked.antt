-- A test of each record, walked record by record or word by word. Assumes nothing.
use Prim.Native.Nat.{ℕ, zero, suc, ◌+◌, ◌*◌, ◌≤◌, ◌<◌}
use native.Mathlib.Omega.{arith}
use native.Mathlib.Nat.{zero-add}
use native.Mathlib.Numerals.{add-one}
use mathlib.Core.Path.{◌≡◌, refl, sym, ap, ◌∙◌}
use mathlib.Core.List.{List, [], ◌∷◌}
use mathlib.Core.Bool.{Bool, false, ◌&&◌, and-true, and-false, and_assoc}
use lib.ListN.{length, get_or, take, drop}
use lib.Seq.{take_all}
use lib.Dec.{ltb}
use Rattle.model.specs.Lists.{all, all_from, read_many}
use Rattle.model.specs.Table.{Entry}
use Rattle.model.specs.Formed.{is_entry, pair_right}
use Rattle.formed.specs.Grouped.{pair_of}

module _ {A : Type 0} (f : ℕ → A → Bool) (d : A) where
  from_more : (n : ℕ) (l : List A) (i : ℕ) → i < length l → all_from f n (take (suc i) l) ≡ (all_from f n (take i l) && f (n + i) (get_or l i d))
  unfolding all_from
  from_more n [] i lt = absurd (omega arith)
  from_more n (x ∷ l) zero lt = let e : n + 0 ≡ n = omega arith in rw e (and-true (f n x))
  from_more n (x ∷ l) (suc i) lt =
      let e : n + suc i ≡ suc n + i = omega arith in
      rw (e, from_more (suc n) l i (omega arith)) (sym (and_assoc (f n x) (all_from f (suc n) (take i l)) (f (suc n + i) (get_or l i d))))

  -- the records up to i, then one more, and at the end all of them
  pub from_step : (l : List A) (i : ℕ) → i < length l → all_from f 0 (take (i + 1) l) ≡ (all_from f 0 (take i l) && f i (get_or l i d))
  from_step l i lt = rw (add-one i) (from_more 0 l i lt ∙ rw (zero-add i))

  pub from_end : (l : List A) (i : ℕ) → length l ≤ i → all_from f 0 (take i l) ≡ all_from f 0 l
  from_end l i h = ap (λ (m : List A). all_from f 0 m) (take_all i l h)

module _ {A : Type 0} (f : A → Bool) (d : A) where
  same_from : (n : ℕ) (l : List A) → all f l ≡ all_from (λ _ x. f x) n l
  unfolding all all_from
  same_from n [] = refl
  same_from n (x ∷ l) = rw (same_from (suc n) l)

  pub all_step : (l : List A) (i : ℕ) → i < length l → all f (take (i + 1) l) ≡ (all f (take i l) && f (get_or l i d))
  all_step l i lt = same_from 0 (take (i + 1) l) ∙ from_step (λ _ x. f x) d l i lt ∙ rw (same_from 0 (take i l))

  pub all_end : (l : List A) (i : ℕ) → length l ≤ i → all f (take i l) ≡ all f l
  all_end l i h = ap (λ (m : List A). all f m) (take_all i l h)

  -- a record that fails decides it
  pub all_fails : (l : List A) (i : ℕ) → i < length l → f (get_or l i d) ≡ false → all f l ≡ false
  unfolding all
  all_fails [] i lt h = absurd (omega arith)
  all_fails (x ∷ l) zero lt h = rw h refl
  all_fails (x ∷ l) (suc i) lt h = rw (all_fails l i (omega arith) h) (and-false (f x))

-- pairs are right where all their words are numbers of entries
pub pairs_are : (es : List Entry) (n : ℕ) (l : List ℕ) → 2 * n ≤ length l
    → all (λ w. ltb w (length es)) (take (2 * n) l) ≡ all (pair_right es) (read_many pair_of (drop 2) n l)
unfolding all read_many pair_right is_entry
pairs_are es zero l h = refl
pairs_are es (suc n) [] h = absurd (omega arith)
pairs_are es (suc n) (a ∷ []) h = absurd (omega arith)
pairs_are es (suc n) (a ∷ b ∷ l) h =
    let e : 2 * suc n ≡ suc (suc (2 * n)) = omega arith in
    rw (e, pairs_are es n l (omega arith)) (sym (and_assoc (ltb a (length es)) (ltb b (length es)) (all (pair_right es) (read_many pair_of (drop 2) n l))))
