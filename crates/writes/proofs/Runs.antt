-- A run of stores, one after the other. Assumes nothing.
use Prim.Native.Nat.{ℕ, suc, ◌+◌, ◌<◌}
use native.Mathlib.Omega.{arith}
use native.Mathlib.Nat.{add-suc, add-zero}
use native.Mathlib.Numerals.{add-one}
use mathlib.Core.Path.{◌≡◌, sym, ap, ◌∙◌}
use mathlib.Core.List.{List, [], ◌∷◌, ◌++◌}
use lib.ListN.{length, get_or, set, take}
use lib.Seq.{sets, take-suc, length-take-le}

sets_more : (v l : List ℕ) (i a : ℕ) → sets l i (v ++ (a ∷ [])) ≡ set (sets l i v) (i + length v) a
sets_more [] l i a = rw (add-zero i)
sets_more (b ∷ v) l i a = rw (add-suc i (length v)) (sets_more v (set l i b) (suc i) a ∙ ap (λ (n : ℕ). set (sets (set l i b) (suc i) v) n a) (let e : suc i + length v ≡ suc (i + length v) = omega arith in e))

pub sets_next : (l r : List ℕ) (start i : ℕ) → i < length r → set (sets l start (take i r)) (start + i) (get_or r i 0) ≡ sets l start (take (i + 1) r)
sets_next l r start i h =
    let n : length (take i r) ≡ i = length-take-le i r (omega arith) in
    rw (add-one i, take-suc r i 0 h) (sym (sets_more (take i r) l start (get_or r i 0) ∙ rw n))
