-- The fields of a lent list, tested one by one. Assumes nothing.
use Prim.Native.Nat.{ℕ, suc, ◌+◌, ◌*◌, ◌≤◌, ◌<◌, ◌/◌, ◌%◌}
use native.Mathlib.Omega.{arith}
use native.Mathlib.Numerals.{add-one}
use mathlib.Core.Path.{◌≡◌, refl, sym, ap, ◌∙◌}
use mathlib.Core.List.{List, [], ◌∷◌}
use mathlib.Core.Bool.{Bool, true, false, ◌&&◌, and-true, and-false, and_assoc}
use lib.ListN.{length, get_or, drop, drop_of_length-le}
use lib.Seq.{drop-cons, get_or-drop}
use lib.Dec.{leb, ltb}
use Rattle.model.specs.Lists.{is_zero, all}
use Rattle.model.specs.Format.{field_width}
use Rattle.model.specs.Table.{Field}
use Rattle.model.specs.Image.{word, field_of}
use Rattle.model.specs.Formed.{ascend_from, names_ascend}
use Rattle.model.specs.Calls.{field_list, fields_listed}
use Rattle.laws.proofs.Regions.{read_length}
use Rattle.image.specs.Reading.{read_at}

-- the field at word n
abbrev field_from : List ℕ → ℕ → Field
field_from l n = record { name = word l n; entry = word l (n + 1); optional = word l (n + 2) }

field_from_lem : (l : List ℕ) (n : ℕ) → field_of (drop n l) ≡ field_from l n
unfolding field_of
field_from_lem l n = let z : n + 0 ≡ n = omega arith in rw (get_or-drop n l 0 0, get_or-drop n l 1 0, get_or-drop n l 2 0, z)

module _ (l : List ℕ) where
  fields_count : length (field_list l) ≡ length l / field_width
  unfolding field_list
  fields_count = read_length field_of (drop field_width) (length l / field_width) l

  -- the rest from field i on begins with it
  rest : (i : ℕ) → i < length l / field_width → drop i (field_list l) ≡ field_from l (field_width * i) ∷ drop (i + 1) (field_list l)
  unfolding field_list
  rest i lt =
      let n = fields_count in
      let d : Field = record { name = 0; entry = 0; optional = 0 } in
      let at : get_or (field_list l) i d ≡ field_from l (field_width * i) = read_at field_of field_width (length l / field_width) l i d lt ∙ field_from_lem l (field_width * i) in
      drop-cons (field_list l) i d (omega arith) ∙ rw (add-one i, at)

  none_left : (i : ℕ) → length l / field_width ≤ i → drop i (field_list l) ≡ []
  none_left i le =
      let n = fields_count in
      let past : length (field_list l) ≤ i = omega arith in
      drop_of_length-le (field_list l) past

-- the test of all is that of the fields so far, `ok`, and that of the rest
module _ (f : Field → Bool) (l : List ℕ) where
  abbrev pub Tested : (ok : Bool) (i : ℕ) → Type 0
  Tested ok i = all f (field_list l) ≡ (ok && all f (drop i (field_list l)))

  pub tested_start : Tested true 0
  tested_start = refl

  pub tested_step : (ok : Bool) (i : ℕ) → Tested ok i → i < length l / field_width → Tested (ok && f (field_from l (field_width * i))) (i + 1)
  unfolding all
  tested_step ok i h lt =
      h ∙ ap (λ (m : List Field). ok && all f m) (rest l i lt)
      ∙ sym (and_assoc ok (f (field_from l (field_width * i))) (all f (drop (i + 1) (field_list l))))

  pub tested_end : (ok : Bool) (i : ℕ) → Tested ok i → length l / field_width ≤ i → ok ≡ all f (field_list l)
  unfolding all
  tested_end ok i h le = sym (h ∙ ap (λ (m : List Field). ok && all f m) (none_left l i le) ∙ and-true ok)

crossed : (a b p q : Bool) → ((a && b) && (p && q)) ≡ ((a && p) && (b && q))
crossed true true p q = refl
crossed true false p q = sym (and-false p)
crossed false b p q = refl

module _ (names : ℕ) where
  -- a name is at least so much and below the name count, and optional is 0 or 1
  abbrev pub field_fits : (least name optional : ℕ) → Bool
  field_fits least name optional = leb least name && ltb name names && leb optional 1

  unfoldable pub listed_from : ℕ → List Field → Bool
  listed_from least [] = true
  listed_from least (f ∷ fs) = field_fits least f.name f.optional && listed_from (suc f.name) fs

  listed_from_lem : (least : ℕ) (fs : List Field) → ((ascend_from least fs && all (λ f. ltb f.name names) fs) && all (λ f. leb f.optional 1) fs) ≡ listed_from least fs
  unfolding ascend_from all listed_from
  listed_from_lem least [] = refl
  listed_from_lem least (f ∷ fs) =
      let up = leb least f.name in
      let ups = ascend_from (suc f.name) fs in
      let known = ltb f.name names in
      let knowns = all (λ g. ltb g.name names) fs in
      let flag = leb f.optional 1 in
      let flags = all (λ g. leb g.optional 1) fs in
      ap (λ (t : Bool). t && (flag && flags)) (crossed up ups known knowns)
      ∙ crossed (up && known) (ups && knowns) flag flags
      ∙ ap (λ (t : Bool). field_fits least f.name f.optional && t) (listed_from_lem (suc f.name) fs)

  -- the same for the test of the list, where a name is at least `least`
  module _ (l : List ℕ) where
    abbrev pub Listed : (ok : Bool) (least i : ℕ) → Type 0
    Listed ok least i = fields_listed names l ≡ (ok && listed_from least (drop i (field_list l)))

    pub listed_start : Listed (is_zero (length l % field_width)) 0 0
    unfolding fields_listed names_ascend
    listed_start =
        let z = is_zero (length l % field_width) in
        and_assoc z (names_ascend names (field_list l)) (all (λ f. leb f.optional 1) (field_list l))
        ∙ ap (λ (t : Bool). z && t) (listed_from_lem 0 (field_list l))

    pub listed_step : (ok : Bool) (least i : ℕ) → Listed ok least i → i < length l / field_width
        → Listed (ok && field_fits least (word l (field_width * i)) (word l (field_width * i + 2))) (word l (field_width * i) + 1) (i + 1)
    unfolding listed_from
    listed_step ok least i h lt =
        let name = word l (field_width * i) in
        h ∙ ap (λ (m : List Field). ok && listed_from least m) (rest l i lt)
        ∙ sym (and_assoc ok (field_fits least name (word l (field_width * i + 2))) (listed_from (suc name) (drop (i + 1) (field_list l))))
        ∙ rw (add-one name)

    pub listed_end : (ok : Bool) (least i : ℕ) → Listed ok least i → length l / field_width ≤ i → ok ≡ fields_listed names l
    unfolding listed_from
    listed_end ok least i h le = sym (h ∙ ap (λ (m : List Field). ok && listed_from least m) (none_left l i le) ∙ and-true ok)
