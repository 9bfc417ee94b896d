-- A search in rounds that goes only to smaller numbers: more rounds than the number change nothing. Assumes nothing.
use Prim.Native.Nat.{ℕ, zero, suc, ◌<◌}
use native.Mathlib.Omega.{arith}
use mathlib.Core.Path.{◌≡◌, sym, ◌∙◌}
use mathlib.Core.Bool.{Bool}

-- one round, given the answers for smaller numbers, and the search in rounds
module _ (by : (ℕ → Bool) → ℕ → Bool) (within : ℕ → ℕ → Bool) (count : ℕ)
    (again : (rounds n : ℕ) → within (suc rounds) n ≡ by (within rounds) n)
    (smaller : (p q : ℕ → Bool) (n : ℕ) → n < count → ((x : ℕ) → x < n → p x ≡ q x) → by p n ≡ by q n) where
  same : (f g n : ℕ) → n < count → n < f → n < g → within f n ≡ within g n
  same zero g n h k l = absurd (omega arith)
  same (suc f) zero n h k l = absurd (omega arith)
  same (suc f) (suc g) n h k l =
      again f n ∙ smaller (within f) (within g) n h (λ x lt. same f g x (omega arith) (omega arith) (omega arith)) ∙ sym (again g n)

  pub enough : (rounds n : ℕ) → n < count → n < rounds → within rounds n ≡ by (λ x. within (suc x) x) n
  enough zero n h k = absurd (omega arith)
  enough (suc f) n h k =
      again f n ∙ smaller (within f) (λ x. within (suc x) x) n h (λ x lt. same f (suc x) x (omega arith) (omega arith) (omega arith))
