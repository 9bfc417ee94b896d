-- What follows from the definitions of specs/Names.antt: laws that a reader can hold them to. Assumes nothing.
use Prim.Native.Nat.{ℕ, zero, suc, ◌+◌, ◌-◌, ◌≤◌, ◌<◌}
use native.Mathlib.Nat.{eq-or-lt_of_le}
use native.Mathlib.Numerals.{add-one}
use native.Mathlib.Omega.{arith}
use mathlib.Core.Path.{◌≡◌, refl, sym, ◌∙◌}
use mathlib.Core.List.{List, [], ◌∷◌, ◌++◌, map}
use mathlib.Core.Bool.{Bool, true, false, cond}
use mathlib.Core.Logic.{◌⊎◌, inl, inr, ⊎_elim}
use lib.ListN.{length, replicate}
use lib.Dec.{ltb}
use borrow.Author.Tests.{ltb-true, ltb-false, lt-ltb, le-ltb, lt-leb, eqb-true, eq-eqb, ne_eqb, leb-true}
use Rattle.model.specs.Lists.{all_of}
use Rattle.model.specs.Told.{done, told_refusal}
use Rattle.model.specs.declared.Refusal.TheVariants.{BadNumber, BadNames}
use Rattle.names.specs.Names.{u16_at, name_count, name_offset, bytes_at, name_of, all_below, before, same, after, compare_names, ascends_at, tests, names_right, name_call, check_names, check_name, count_names, compare_at, first_below, has_bytes, name_number, find_name, show_name}
use Rattle.names.proofs.All.{all_at, all_of_at, first_hit, first_nowhere, first_found}

-- ---- how names compare

equal_same : (a : List ℕ) → compare_names a a ≡ same
unfolding compare_names
equal_same [] = refl
equal_same (x ∷ xs) = rw (le-ltb x x (omega arith)) (equal_same xs)

both_false : (t u : Bool) (r : ℕ) → cond t before (cond u after r) ≡ same → (t ≡ false) × (u ≡ false) × (r ≡ same)
both_false true u r e = absurd (omega arith)
both_false false true r e = absurd (omega arith)
both_false false false r e = (refl, refl, e)

same_equal : (a b : List ℕ) → compare_names a b ≡ same → a ≡ b
unfolding compare_names
same_equal [] [] e = refl
same_equal [] (y ∷ ys) e = absurd (omega arith)
same_equal (x ∷ xs) [] e = absurd (omega arith)
same_equal (x ∷ xs) (y ∷ ys) e =
    let h = both_false (ltb x y) (ltb y x) (compare_names xs ys) e in
    let le : y ≤ x = ltb-false x y h.0 in
    let ge : x ≤ y = ltb-false y x h.1 in
    let heads : x ≡ y = omega arith in
    let tails : xs ≡ ys = same_equal xs ys h.2 in
    cc

-- a byte list is the same as itself, and as no other
pub same_exactly : (a b : List ℕ) → (a ≡ b → compare_names a b ≡ same) × (compare_names a b ≡ same → a ≡ b)
same_exactly a b = (λ e. rw (← e) (equal_same a), same_equal a b)

turned_byte : (x y r s : ℕ) (t : Bool) → ltb x y ≡ t → (u : Bool) → ltb y x ≡ u → r + s ≡ 2
    → cond t before (cond u after r) + cond u before (cond t after s) ≡ 2
turned_byte x y r s true p true q h =
    let lt : x < y = ltb-true x y p in
    let gt : y < x = ltb-true y x q in
    absurd (omega arith)
turned_byte x y r s true p false q h = refl
turned_byte x y r s false p true q h = refl
turned_byte x y r s false p false q h = h

-- turned round, before and after change places, and same stays: told 0, 1, 2, the two add up to 2
pub turned : (a b : List ℕ) → compare_names a b + compare_names b a ≡ 2
unfolding compare_names
turned [] [] = refl
turned [] (y ∷ ys) = refl
turned (x ∷ xs) [] = refl
turned (x ∷ xs) (y ∷ ys) = turned_byte x y (compare_names xs ys) (compare_names ys xs) (ltb x y) refl (ltb y x) refl (turned xs ys)

lower_or_same : (x y r : ℕ) (t : Bool) → ltb x y ≡ t → (u : Bool) → ltb y x ≡ u → cond t before (cond u after r) ≡ before
    → (x < y) ⊎ ((x ≡ y) × (r ≡ before))
lower_or_same x y r true p u q e = inl (ltb-true x y p)
lower_or_same x y r false p true q e = absurd (omega arith)
lower_or_same x y r false p false q e =
    let le : y ≤ x = ltb-false x y p in
    let ge : x ≤ y = ltb-false y x q in
    inr (omega arith, e)

lower_byte : (x y : ℕ) (xs ys : List ℕ) → x < y → compare_names (x ∷ xs) (y ∷ ys) ≡ before
unfolding compare_names
lower_byte x y xs ys h = rw (lt-ltb x y h)

same_byte : (x y : ℕ) (xs ys : List ℕ) → x ≡ y → compare_names xs ys ≡ before → compare_names (x ∷ xs) (y ∷ ys) ≡ before
unfolding compare_names
same_byte x y xs ys e h = rw (e, le-ltb y y (omega arith)) h

pub before_before : (a b c : List ℕ) → compare_names a b ≡ before → compare_names b c ≡ before → compare_names a c ≡ before
unfolding compare_names
before_before [] [] c p q = absurd (omega arith)
before_before [] (y ∷ ys) [] p q = absurd (omega arith)
before_before [] (y ∷ ys) (z ∷ zs) p q = refl
before_before (x ∷ xs) [] c p q = absurd (omega arith)
before_before (x ∷ xs) (y ∷ ys) [] p q = absurd (omega arith)
before_before (x ∷ xs) (y ∷ ys) (z ∷ zs) p q =
    ⊎_elim
    (λ (l : x < y).
    ⊎_elim
    (λ (m : y < z). lower_byte x z xs zs (omega arith))
    (λ (m : (y ≡ z) × (compare_names ys zs ≡ before)). lower_byte x z xs zs (omega arith))
    (lower_or_same y z (compare_names ys zs) (ltb y z) refl (ltb z y) refl q))
    (λ (l : (x ≡ y) × (compare_names xs ys ≡ before)).
    ⊎_elim
    (λ (m : y < z). lower_byte x z xs zs (omega arith))
    (λ (m : (y ≡ z) × (compare_names ys zs ≡ before)).
    same_byte x z xs zs (l.0 ∙ m.0) (before_before xs ys zs l.1 m.1))
    (lower_or_same y z (compare_names ys zs) (ltb y z) refl (ltb z y) refl q))
    (lower_or_same x y (compare_names xs ys) (ltb x y) refl (ltb y x) refl p)

-- ---- in a list that is right

module _ (bs : List ℕ) (right : names_right bs ≡ true) where
  -- each name comes before each later one
  pub ascend : (i j : ℕ) → i < j → j < name_count bs → compare_names (name_of bs i) (name_of bs j) ≡ before
  unfolding names_right
  ascend i zero h l = absurd (omega arith)
  ascend i (suc j) h l =
      let step : compare_names (name_of bs j) (name_of bs (j + 1)) ≡ before =
      eqb-true _ _ (all_at (ascends_at bs) (name_count bs - 1) (all_of_at (tests bs) right 6) j (omega arith)) in
      let next : compare_names (name_of bs j) (name_of bs (suc j)) ≡ before = rw (add-one j) at step in
      ⊎_elim
      (λ (e : i ≡ j). rw e next)
      (λ (m : i < j). before_before _ _ _ (ascend i j m (omega arith)) next)
      (eq-or-lt_of_le (omega arith))

  -- so a name comes before another exactly where its number is lower
  pub before_lower : (i j : ℕ) → i < name_count bs → j < name_count bs → compare_names (name_of bs i) (name_of bs j) ≡ before → i < j
  before_lower i j h k e = by_order (ltb i j) refl (ltb j i) refl
    where
      by_order : (t : Bool) → ltb i j ≡ t → (u : Bool) → ltb j i ≡ u → i < j
      by_order true p u q = ltb-true i j p
      by_order false p true q =
          let later : compare_names (name_of bs j) (name_of bs i) ≡ before = ascend j i (ltb-true j i q) h in
          absurd (omega (arith, turned (name_of bs i) (name_of bs j)))
      by_order false p false q =
          let le : j ≤ i = ltb-false i j p in
          let ge : i ≤ j = ltb-false j i q in
          let equal : i ≡ j = omega arith in
          let self : compare_names (name_of bs i) (name_of bs j) ≡ same = rw (← equal) (equal_same (name_of bs i)) in
          absurd (omega arith)

  -- and no two names have the same bytes
  pub one_number : (i j : ℕ) → i < name_count bs → j < name_count bs → name_of bs i ≡ name_of bs j → i ≡ j
  one_number i j h k e = by_order (ltb i j) refl (ltb j i) refl
    where
      by_order : (t : Bool) → ltb i j ≡ t → (u : Bool) → ltb j i ≡ u → i ≡ j
      by_order true p u q =
          let self : compare_names (name_of bs i) (name_of bs j) ≡ same = rw (← e) (equal_same (name_of bs i)) in
          absurd (omega (arith, ascend i j (ltb-true i j p) k))
      by_order false p true q =
          let self : compare_names (name_of bs j) (name_of bs i) ≡ same = rw e (equal_same (name_of bs j)) in
          absurd (omega (arith, ascend j i (ltb-true j i q) h))
      by_order false p false q =
          let le : j ≤ i = ltb-false i j p in
          let ge : i ≤ j = ltb-false j i q in
          omega arith

  -- the call tells so: −1 (told 0) exactly where i < j
  compare_tells : (i j : ℕ) → i < name_count bs → j < name_count bs → compare_at bs i j ≡ done (compare_names (name_of bs i) (name_of bs j) ∷ [])
  unfolding compare_at name_call all_of
  compare_tells i j h k = rw (right, lt-ltb i (name_count bs) h, lt-ltb j (name_count bs) k)

  pub compare_before : (i j : ℕ) → i < name_count bs → j < name_count bs
      → (i < j → compare_at bs i j ≡ done (before ∷ [])) × (compare_at bs i j ≡ done (before ∷ []) → i < j)
  compare_before i j h k = (
    λ l. rw (compare_tells i j h k, ascend i j l k),
    λ e.
        let both : done (compare_names (name_of bs i) (name_of bs j) ∷ []) ≡ done (before ∷ []) = sym (compare_tells i j h k) ∙ e in
        before_lower i j h k (cc),
  )

  -- ---- what find answers

  find_tells : (name : List ℕ) → find_name bs name ≡ done (name_number bs name)
  unfolding find_name name_call all_of
  find_tells name = rw right

  -- the bytes of name n are found at n: there is no lower number with them
  pub finds : (n : ℕ) → n < name_count bs → find_name bs (name_of bs n) ≡ done (n ∷ [])
  finds n h =
      let passes : has_bytes bs (name_of bs n) n ≡ true = eq-eqb _ _ (equal_same (name_of bs n)) in
      let none-lower : first_below (has_bytes bs (name_of bs n)) n ≡ [] =
      first_nowhere (has_bytes bs (name_of bs n)) n (λ k l. rw (ascend k n l h)) in
      rw (find_tells (name_of bs n), first_hit (has_bytes bs (name_of bs n)) n (name_count bs) h none-lower passes)

  -- bytes that no name has are found nowhere
  pub finds_none : (name : List ℕ) → ((n : ℕ) → n < name_count bs → name_of bs n ≡ name → ⊥) → find_name bs name ≡ done []
  finds_none name h =
      rw (
        find_tells name,
        first_nowhere (has_bytes bs name) (name_count bs) (λ k l. ne_eqb (compare_names (name_of bs k) name) same (λ e. h k l (same_equal (name_of bs k) name e))),
      )

  -- what is found is a name with these bytes
  pub found_holds : (name : List ℕ) (n : ℕ) → find_name bs name ≡ done (n ∷ []) → (n < name_count bs) × (name_of bs n ≡ name)
  found_holds name n e =
      let both : done (name_number bs name) ≡ done (n ∷ []) = sym (find_tells name) ∙ e in
      let first = first_found (has_bytes bs name) (name_count bs) n (cc) in
      (first.0, same_equal (name_of bs n) name (eqb-true _ _ first.1))

  -- so the answer is n exactly where name n has the bytes
  pub find_exactly : (name : List ℕ) (n : ℕ) → n < name_count bs
      → (name_of bs n ≡ name → find_name bs name ≡ done (n ∷ [])) × (find_name bs name ≡ done (n ∷ []) → name_of bs n ≡ name)
  find_exactly name n h = (λ e. rw (← e) (finds n h), λ e. (found_holds name n e).1)

  -- the part that is shown of a name is found at its number
  pub shown_found : (n : ℕ) → n < name_count bs → find_name bs (show_name bs n) ≡ done (n ∷ [])
  unfolding show_name check_name name_call all_of
  shown_found n h = rw (right, lt-ltb n (name_count bs) h) (finds n h)

-- ---- the shortest lists

-- under 4 bytes is malformed
pub short_refused : (bs : List ℕ) → length bs < 4 → check_names bs ≡ told_refusal BadNames
unfolding check_names name_call names_right all_of
short_refused bs h = rw (lt-leb (bytes_at bs) (length bs) (omega arith))

-- a count of 0 needs exactly 4 bytes
pub none_needs_four : (bs : List ℕ) → name_count bs ≡ 0 → names_right bs ≡ true → length bs ≡ 4
unfolding names_right
none_needs_four bs z right =
    let fits : bytes_at bs ≤ length bs = leb-true _ _ (all_of_at (tests bs) right 0) in
    let first : name_offset bs 0 ≡ 0 = eqb-true _ _ (all_of_at (tests bs) right 1) in
    let last : name_offset bs (name_count bs) ≡ length bs - bytes_at bs = eqb-true _ _ (all_of_at (tests bs) right 3) in
    let only : name_offset bs 0 ≡ length bs - 4 = rw z at last in
    omega arith

-- ---- examples, computed

unfoldable pub calls : Unit {0}
unfolding u16_at name_of all_below all_of compare_names names_right name_call check_names check_name count_names compare_at first_below find_name show_name
calls = tt

-- the list `__functor`, `x`, `y`
abbrev functor_name : List ℕ
functor_name = 95 ∷ 95 ∷ 102 ∷ 117 ∷ 110 ∷ 99 ∷ 116 ∷ 111 ∷ 114 ∷ []

abbrev bench : List ℕ
bench = 3 ∷ 0 ∷ 0 ∷ 0 ∷ 9 ∷ 0 ∷ 10 ∷ 0 ∷ 11 ∷ 0 ∷ 95 ∷ 95 ∷ 102 ∷ 117 ∷ 110 ∷ 99 ∷ 116 ∷ 111 ∷ 114 ∷ 120 ∷ 121 ∷ []

abbrev bench_names : List (List ℕ)
bench_names = functor_name ∷ (120 ∷ []) ∷ (121 ∷ []) ∷ []

pub bench_right : check_names bench ≡ done []
unfolding calls
bench_right = refl

pub bench_gives : map (find_name bench) bench_names ≡ done (0 ∷ []) ∷ done (1 ∷ []) ∷ done (2 ∷ []) ∷ []
unfolding calls
bench_gives = refl

pub bench_shows : map (show_name bench) (0 ∷ 1 ∷ 2 ∷ []) ≡ bench_names
unfolding calls
bench_shows = refl

pub bench_refuses : (check_name bench 3 ≡ told_refusal BadNumber) × (show_name bench 3 ≡ [])
unfolding calls
bench_refuses = (refl, refl)

-- one name of n bytes, with its end as a u16
abbrev one_name : ℕ → ℕ → ℕ → List ℕ
one_name low high n = (1 ∷ 0 ∷ 0 ∷ 0 ∷ low ∷ high ∷ []) ++ replicate n 97

abbrev right_lists : List (List ℕ)
right_lists =
    -- no names; one empty name; a proper prefix first; bytes are unsigned; a name of 255 bytes
    (0 ∷ 0 ∷ 0 ∷ 0 ∷ [])
    ∷ (1 ∷ 0 ∷ 0 ∷ 0 ∷ 0 ∷ 0 ∷ [])
    ∷ (2 ∷ 0 ∷ 0 ∷ 0 ∷ 1 ∷ 0 ∷ 3 ∷ 0 ∷ 97 ∷ 97 ∷ 98 ∷ [])
    ∷ (2 ∷ 0 ∷ 0 ∷ 0 ∷ 1 ∷ 0 ∷ 2 ∷ 0 ∷ 127 ∷ 128 ∷ [])
    ∷ one_name 255 0 255
    ∷ []

abbrev wrong_lists : List (List ℕ)
wrong_lists =
    -- no bytes; a byte too few; a byte too many; offsets that are not all there
    []
    ∷ (0 ∷ 0 ∷ 0 ∷ [])
    ∷ (0 ∷ 0 ∷ 0 ∷ 0 ∷ 97 ∷ [])
    ∷ (1 ∷ 0 ∷ 0 ∷ 0 ∷ [])
    -- the first offset not 0; one that falls; the last not the number of bytes left
    ∷ (1 ∷ 0 ∷ 1 ∷ 0 ∷ 2 ∷ 0 ∷ 97 ∷ 98 ∷ [])
    ∷ (2 ∷ 0 ∷ 0 ∷ 0 ∷ 2 ∷ 0 ∷ 1 ∷ 0 ∷ 97 ∷ [])
    ∷ (1 ∷ 0 ∷ 0 ∷ 0 ∷ 1 ∷ 0 ∷ 97 ∷ 98 ∷ [])
    -- a name of 256 bytes; two names alike; names that fall; a proper prefix last
    ∷ one_name 0 1 256
    ∷ (2 ∷ 0 ∷ 0 ∷ 0 ∷ 1 ∷ 0 ∷ 2 ∷ 0 ∷ 97 ∷ 97 ∷ [])
    ∷ (2 ∷ 0 ∷ 0 ∷ 0 ∷ 1 ∷ 0 ∷ 2 ∷ 0 ∷ 98 ∷ 97 ∷ [])
    ∷ (2 ∷ 0 ∷ 0 ∷ 0 ∷ 2 ∷ 0 ∷ 3 ∷ 0 ∷ 97 ∷ 98 ∷ 97 ∷ [])
    ∷ []

pub right_lists_lem : map check_names right_lists ≡ map (λ _. done []) right_lists
unfolding calls
right_lists_lem = refl

pub wrong_lists_lem : map check_names wrong_lists ≡ map (λ _. told_refusal BadNames) wrong_lists
unfolding calls
wrong_lists_lem = refl
