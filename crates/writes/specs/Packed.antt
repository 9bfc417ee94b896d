-- Records laid into a region's part: one put behind the last, the last taken off, a word changed. Each law is stated once, over the
-- record's type, its words and its width. Assumes nothing.
use Prim.Native.Nat.{ℕ, zero, suc, ◌+◌, ◌-◌, ◌*◌, ◌<◌}
use native.Mathlib.Omega.{arith}
use native.Mathlib.Nat.{zero-add, mul-zero, mul-suc}
use mathlib.Core.Path.{◌≡◌, refl, sym, ap, ◌∙◌}
use mathlib.Core.List.{List, [], ◌∷◌, ◌++◌, append_assoc, append-nil}
use lib.ListN.{length, get_or, set, replicate, length-append, length-replicate, length-set}
use lib.Seq.{sets, sets-eq, set-append_left, drop_at, take-append_seam, drop-append-add}
use Rattle.model.specs.Lists.{flat}
use Rattle.model.specs.Parts.{stored, pushed}
use Rattle.model.specs.Image.{blanks, region, packed}
use Rattle.laws.proofs.Regions.{Coded, flat_length}
use Rattle.writes.specs.Placing.{set_right}

sets_over : (p q z v : List ℕ) (n : ℕ) → length p ≡ n → length q ≡ length v → sets (p ++ (q ++ z)) n v ≡ p ++ (v ++ z)
sets_over p q z v n h e =
    rw (← h) (sets-eq v (p ++ (q ++ z)) (length p) (simp length-append (omega arith))
    ∙ rw (take-append_seam, drop-append-add, drop_at q z (length v) e) (append_assoc p v z))

flat_append : {A : Type 0} (f : A → List ℕ) (l m : List A) → flat f (l ++ m) ≡ flat f l ++ flat f m
unfolding flat
flat_append f [] m = refl
flat_append f (a ∷ l) m = rw (flat_append f l m) (sym (append_assoc (f a) (flat f l) (flat f m)))

module _ {A : Type 0} {f : A → List ℕ} {of : List ℕ → A} {width : ℕ} (c : Coded f of width) where
  -- a record's words put behind the last are the part of the longer list
  pub packed_pushed : (room : ℕ) (l : List A) (a : A) → length l < room → pushed (f a) (packed f width room l) ≡ packed f width room (l ++ (a ∷ []))
  unfolding packed region blanks flat
  packed_pushed room l a h =
      let e : room - length l ≡ suc (room - (length l + 1)) = omega arith in
      let n : length l + 1 ≡ length (l ++ (a ∷ [])) = sym (length-append l (a ∷ [])) in
      let z = blanks width (room - (length l + 1)) in
      let b : sets (flat f l ++ blanks width (room - length l)) (width * length l) (f a) ≡ flat f (l ++ (a ∷ [])) ++ blanks width (room - length (l ++ (a ∷ []))) =
      rw (e, ← n, flat_append f l (a ∷ []), append-nil (f a), append_assoc (flat f l) (f a) z)
      (sets_over (flat f l) (replicate width 0) z (f a) (width * length l) (flat_length c l) (length-replicate width 0 ∙ sym (c.wide a))) in
      λ i. record { width = width; capacity = room; count = n i; words = b i }

  -- zeros over the last record are the part of the shorter list
  pub packed_popped : (room : ℕ) (l : List A) (a : A) → length l < room
      → stored (width * length l) (replicate width 0) (length l) (packed f width room (l ++ (a ∷ []))) ≡ packed f width room l
  unfolding packed region blanks flat
  packed_popped room l a h =
      let e : room - length l ≡ suc (room - (length l + 1)) = omega arith in
      let z = blanks width (room - (length l + 1)) in
      let b : sets (flat f (l ++ (a ∷ [])) ++ blanks width (room - length (l ++ (a ∷ [])))) (width * length l) (replicate width 0) ≡ flat f l ++ blanks width (room - length l) =
      rw (length-append l (a ∷ []), e, flat_append f l (a ∷ []), append-nil (f a), append_assoc (flat f l) (f a) z)
      (sets_over (flat f l) (f a) z (replicate width 0) (width * length l) (flat_length c l) (c.wide a ∙ sym (length-replicate width 0))) in
      λ i. record { width = width; capacity = room; count = length l; words = b i }

  -- a word changed
  flat_set : (j v : ℕ) → j < width → (b d : A) (l : List A) (i : ℕ) → i < length l → f b ≡ set (f (get_or l i d)) j v → (r : List ℕ) → set (flat f l ++ r) (width * i + j) v ≡ flat f (set l i b) ++ r
  unfolding flat
  flat_set j v jt b d [] i lt e r = absurd (omega arith)
  flat_set j v jt b d (a ∷ l) zero lt e r =
      rw (mul-zero width, zero-add j, append_assoc (f a) (flat f l) r, append_assoc (f b) (flat f l) r, e) (set-append_left (f a) (flat f l ++ r) j v (rw (c.wide a) jt))
  flat_set j v jt b d (a ∷ l) (suc i) lt e r =
      let n : width * suc i + j ≡ length (f a) + (width * i + j) = rw (c.wide a, mul-suc width i) (omega arith) in
      rw (n, append_assoc (f a) (flat f l) r, append_assoc (f a) (flat f (set l i b)) r)
      (set_right (f a) (flat f l ++ r) (width * i + j) v ∙ ap (λ (m : List ℕ). f a ++ m) (flat_set j v jt b d l i (omega arith) e r))

  pub packed_put : (room : ℕ) (l : List A) (i j v : ℕ) (b d : A) → i < length l → j < width → f b ≡ set (f (get_or l i d)) j v
      → stored (width * i + j) (v ∷ []) (length l) (packed f width room l) ≡ packed f width room (set l i b)
  unfolding packed region
  packed_put room l i j v b d lt jt e =
      let n : length l ≡ length (set l i b) = sym (length-set l i b) in
      let m : set (flat f l ++ blanks width (room - length l)) (width * i + j) v ≡ flat f (set l i b) ++ blanks width (room - length (set l i b)) =
      rw (← n) (flat_set j v jt b d l i lt e (blanks width (room - length l))) in
      λ x. record { width = width; capacity = room; count = n x; words = m x }
