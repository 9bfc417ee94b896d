-- Each new entry is good. Assumes nothing.
use Rattle.std.specs.Prelude.{None, Option, Some}
use Prim.Native.Nat.{ℕ, ◌+◌, ◌*◌, ◌≤◌, ◌<◌, ◌/◌, ◌%◌}
use native.Mathlib.Omega.{arith}
use mathlib.Core.Path.{◌≡◌, refl, sym, ap}
use mathlib.Core.List.{List, [], ◌∷◌, ◌++◌}
use mathlib.Core.Bool.{Bool, true, false, cond, ◌&&◌, ◌||◌}
use lib.ListN.{length, take, drop, length-append}
use lib.Seq.{drop-append_seam, take-length}
use lib.Dec.{T, eqb, leb, ltb, eqb-suc-zero}
use Rattle.model.specs.Lists.{◌⇒◌, is_zero, all_of, all}
use Rattle.model.specs.Format.{word_end, variable, primitive, list, lambda, attrset, named, neg, inter, union, number, open_flag}
use Rattle.model.specs.Table.{Entry, Field}
use Rattle.model.specs.Making.{spread_of, fresh_entry, put_entry, new_entry}
use Rattle.model.specs.Formed.{is_entry, kind_known, primitive_known, components_below, unused_zero, flags_known, negation_known, names_ascend, fields_right}
use Rattle.model.specs.Told.{bit}
use Rattle.model.specs.Calls.{dynamic_known, dynamic_type, dynamic_bit, new_attrset}
use Rattle.laws.specs.Good.{free_fits, spread_is, entry_good, EntriesGood}
use Rattle.laws.specs.Growth.{EntriesKept}
use Rattle.laws.proofs.Tests.{both, nth, none, ◌and◌, all_passed, of_le, of_lt, of_eq}
use Rattle.laws.proofs.Entries.{spread_same, fields_more_good, more_length, more_old, append_kept, append_good, entry_tests}

-- a new entry of each kind
pub put_kept : (es : List Entry) (kind x y z flags : ℕ) → EntriesKept es (put_entry es kind x y z flags).after
unfolding put_entry
put_kept es kind x y z flags = append_kept es (fresh_entry es kind x y z flags ∷ [])

pub new_kept : (es : List Entry) (kind x y : ℕ) → EntriesKept es (new_entry es kind x y).after
unfolding new_entry
new_kept es kind x y = put_kept es kind x y 0 0

pub new_number : (es : List Entry) (kind x y : ℕ) → (new_entry es kind x y).number ≡ length es
unfolding new_entry put_entry
new_number es kind x y = refl

pub new_length : (es : List Entry) (kind x y : ℕ) → length (new_entry es kind x y).after ≡ length es + 1
unfolding new_entry put_entry
new_length es kind x y = more_length es (fresh_entry es kind x y 0 0)

-- the spread that it is given stays that of its components
fresh_spread : (es us : List Entry) (kind x y z flags : ℕ) → (attrset < kind → x < length es) → (neg < kind → y < length es) → T (spread_is (es ++ us) (fresh_entry es kind x y z flags))
unfolding spread_is
fresh_spread es us kind x y z flags f g =
    of_eq (spread_of es kind x y) (spread_of (es ++ us) kind x y) (sym (spread_same es (es ++ us) kind x y
    (λ l. ap (λ (d : Entry). d.spread) (more_old es us x (f l)))
    (λ l. ap (λ (d : Entry). d.spread) (more_old es us y (g l)))))

-- what is left of them where there are no fields, no dynamic type and no flags
plain : (p a b last : Bool) → T p → T a → T b → T last → T (all_of (true ∷ p ∷ all_of (a ∷ b ∷ true ∷ []) ∷ all_of (true ∷ true ∷ true ∷ []) ∷ true ∷ true ∷ last ∷ []))
plain p a b last h k l m =
    all_passed _ (tt and h and all_passed _ (k and l and tt and none) and all_passed _ (tt and tt and tt and none) and tt and tt and m and none)

module _ (es : List Entry) (fs : List Field) (names : ℕ) (g : EntriesGood es fs names) where
  -- the tests that are left for it
  put_good : (kind x y z flags : ℕ) → (attrset < kind → x < length es) → (neg < kind → y < length es)
      → (let e = fresh_entry es kind x y z flags in
      T (all_of (kind_known e ∷ primitive_known e ∷ components_below (length es) e ∷ unused_zero e ∷ flags_known e ∷ fields_right fs names (length es) e ∷ free_fits e ∷ [])))
      → EntriesGood (put_entry es kind x y z flags).after fs names
  unfolding entry_good negation_known put_entry
  put_good kind x y z flags f h r =
      let e : Entry = fresh_entry es kind x y z flags in
      append_good es fs names g e
      (all_passed _
      (nth _ 0 r and nth _ 1 r and nth _ 2 r and nth _ 3 r and nth _ 4 r and fresh_spread es (e ∷ []) kind x y z flags f h
      and of_le 0 (length (es ++ (e ∷ []))) (omega arith) and nth _ 5 r and nth _ 6 r and none))

  pub variable_good : (x : ℕ) → x < word_end → EntriesGood (new_entry es variable x 0).after fs names
  unfolding entry_tests new_entry
  variable_good x h =
      put_good variable x 0 0 0 (λ l. absurd (omega arith)) (λ l. absurd (omega arith)) (plain true true true (ltb x word_end && true) tt tt tt (both (ltb x word_end) true (of_lt x word_end h) tt))

  pub primitive_good : (x : ℕ) → x ≤ number → EntriesGood (new_entry es primitive x 0).after fs names
  unfolding entry_tests new_entry
  primitive_good x h = put_good primitive x 0 0 0 (λ l. absurd (omega arith)) (λ l. absurd (omega arith)) (plain (leb x number) true true true (of_le x number h) tt tt tt)

  pub list_good : (x : ℕ) → x < length es → EntriesGood (new_entry es list x 0).after fs names
  unfolding entry_tests new_entry
  list_good x h = put_good list x 0 0 0 (λ l. h) (λ l. absurd (omega arith)) (plain true (ltb x (length es)) true true tt (of_lt x (length es) h) tt tt)

  pub named_good : (x y : ℕ) → x < length es → y < word_end → EntriesGood (new_entry es named x y).after fs names
  unfolding entry_tests new_entry
  named_good x y h k =
      put_good named x y 0 0 (λ l. h) (λ l. absurd (omega arith)) (plain true (ltb x (length es)) true (ltb y word_end) tt (of_lt x (length es) h) tt (of_lt y word_end k))

  pub neg_good : (x : ℕ) → x < length es → EntriesGood (new_entry es neg x 0).after fs names
  unfolding entry_tests new_entry
  neg_good x h = put_good neg x 0 0 0 (λ l. h) (λ l. absurd (omega arith)) (plain true (ltb x (length es)) true true tt (of_lt x (length es) h) tt tt)

  module _ (x y : ℕ) (h : x < length es) (k : y < length es) where
    two : T (all_of (true ∷ true ∷ all_of (ltb x (length es) ∷ ltb y (length es) ∷ true ∷ []) ∷ all_of (true ∷ true ∷ true ∷ []) ∷ true ∷ true ∷ true ∷ []))
    two = plain true (ltb x (length es)) (ltb y (length es)) true tt (of_lt x (length es) h) (of_lt y (length es) k) tt

    pub lambda_good : EntriesGood (new_entry es lambda x y).after fs names
    unfolding entry_tests new_entry
    lambda_good = put_good lambda x y 0 0 (λ l. h) (λ l. k) two

    pub inter_good : EntriesGood (new_entry es inter x y).after fs names
    unfolding entry_tests new_entry
    inter_good = put_good inter x y 0 0 (λ l. h) (λ l. k) two

    pub union_good : EntriesGood (new_entry es union x y).after fs names
    unfolding entry_tests new_entry
    union_good = put_good union x y 0 0 (λ l. h) (λ l. k) two

-- a new attrset: its flags, its first field and its fields
dynamic_tests : (es : List Entry) (wide : Bool) (d : Option ℕ) → T (dynamic_known es d)
    → (let flags = open_flag * bit wide + dynamic_bit d in
    let dyn = eqb (flags / 4 % 2) 1 in
    T (all_of ((dyn ⇒ ltb (dynamic_type d) (length es)) ∷ (dyn || is_zero (dynamic_type d)) ∷ leb flags 7 ∷ [])))
unfolding dynamic_known dynamic_type dynamic_bit is_entry
dynamic_tests es true None h = all_passed _ (tt and tt and tt and none)
dynamic_tests es false None h = all_passed _ (tt and tt and tt and none)
dynamic_tests es true (Some n) h = all_passed _ (h and tt and tt and none)
dynamic_tests es false (Some n) h = all_passed _ (h and tt and tt and none)

first_zero : (b : Bool) (m : ℕ) → T (b ⇒ is_zero (cond b 0 m))
first_zero true m = tt
first_zero false m = tt

first_low : (b : Bool) (m : ℕ) → cond b 0 m ≤ m
first_low true m = omega arith
first_low false m = omega arith

fields_new : (fs new : List Field) → take (length new) (drop (cond (is_zero (length new)) 0 (length fs)) (fs ++ new)) ≡ new
fields_new fs [] = refl
fields_new fs (f ∷ l) = rw (eqb-suc-zero (length l), drop-append_seam fs (f ∷ l), take-length (f ∷ l))

pub attrset_kept : (es : List Entry) (fs new : List Field) (wide : Bool) (d : Option ℕ) → EntriesKept es (new_attrset es fs new wide d).after
unfolding new_attrset
attrset_kept es fs new wide d = put_kept es attrset (cond (is_zero (length new)) 0 (length fs)) (length new) (dynamic_type d) (open_flag * bit wide + dynamic_bit d)

pub attrset_good : (es : List Entry) (fs : List Field) (names : ℕ) → EntriesGood es fs names → (new : List Field) (wide : Bool) (d : Option ℕ)
    → T (names_ascend names new) → T (all (λ f. is_entry es f.entry) new) → T (dynamic_known es d) → EntriesGood (new_attrset es fs new wide d).after (fs ++ new) names
unfolding entry_tests new_attrset is_entry
attrset_good es fs names g new wide d a n k =
    let x : ℕ = cond (is_zero (length new)) 0 (length fs) in
    let t = dynamic_tests es wide d k in
    let le : x + length new ≤ length (fs ++ new) = simp length-append (omega (arith, first_low (is_zero (length new)) (length fs))) in
    put_good es (fs ++ new) names (fields_more_good es fs new names g) attrset x (length new) (dynamic_type d) (open_flag * bit wide + dynamic_bit d)
    (λ l. absurd (omega arith)) (λ l. absurd (omega arith))
    (all_passed _
    (tt and tt and all_passed _ (tt and tt and nth _ 0 t and none) and all_passed _ (tt and nth _ 1 t and first_zero (is_zero (length new)) (length fs) and none) and nth _ 2 t
    and rw fields_new (all_passed _ (of_le (x + length new) (length (fs ++ new)) le and a and n and none)) and tt and none))
