-- An attrset's own field records, walked one by one. Assumes nothing.
use Prim.Native.Nat.{ℕ, suc, ◌+◌, ◌≤◌, ◌<◌}
use native.Mathlib.Omega.{arith}
use native.Mathlib.Numerals.{add-one}
use mathlib.Core.Path.{◌≡◌, refl, sym, ap, ◌∙◌}
use mathlib.Core.List.{List, [], ◌∷◌}
use mathlib.Core.Bool.{Bool, true, ◌&&◌, and-true, and_assoc}
use lib.ListN.{length, get_or, take, drop, length-drop, drop_of_length-le}
use lib.Seq.{drop-cons, length-take-le, get_or-take, get_or-drop}
use lib.Dec.{leb, ltb}
use Rattle.model.specs.Lists.{all}
use Rattle.model.specs.Table.{Field}
use Rattle.model.specs.Formed.{ascend_from, names_ascend}
use Rattle.image.specs.Records.{field_at}
use Rattle.formed.specs.Grouped.{own_right}
use Rattle.formed.proofs.Tested.{crossed}

module _ (names i : ℕ) where
  -- a name is at least so much and below the name count, and the entry below its owner
  abbrev pub field_fits : (least name entry : ℕ) → Bool
  field_fits least name entry = leb least name && ltb name names && ltb entry i

  unfoldable pub own_from : ℕ → List Field → Bool
  own_from least [] = true
  own_from least (f ∷ fs) = field_fits least f.name f.entry && own_from (suc f.name) fs

  own_from_lem : (least : ℕ) (fs : List Field) → ((ascend_from least fs && all (λ f. ltb f.name names) fs) && all (λ f. ltb f.entry i) fs) ≡ own_from least fs
  unfolding ascend_from all own_from
  own_from_lem least [] = refl
  own_from_lem least (f ∷ fs) =
      let up = leb least f.name in
      let ups = ascend_from (suc f.name) fs in
      let known = ltb f.name names in
      let knowns = all (λ g. ltb g.name names) fs in
      let low = ltb f.entry i in
      let lows = all (λ g. ltb g.entry i) fs in
      ap (λ (t : Bool). t && (low && lows)) (crossed up ups known knowns)
      ∙ crossed (up && known) (ups && knowns) low lows
      ∙ ap (λ (t : Bool). field_fits least f.name f.entry && t) (own_from_lem (suc f.name) fs)

  -- what is tested so far, and the rest, of so many fields from the first on
  abbrev pub Walked : List Field → (first fields : ℕ) (ok : Bool) (least k : ℕ) → Type 0
  Walked all-fields first fields ok least k =
      own_right names i (take fields (drop first all-fields)) ≡ (ok && own_from least (drop k (take fields (drop first all-fields))))

  module _ (all-fields : List Field) (first fields : ℕ) where
    pub own_start : Walked all-fields first fields true 0 0
    unfolding own_right names_ascend
    own_start = own_from_lem 0 (take fields (drop first all-fields))

  module _ (all-fields : List Field) (first fields : ℕ) (inside : first + fields ≤ length all-fields) where
    own_length : length (take fields (drop first all-fields)) ≡ fields
    own_length = length-take-le fields (drop first all-fields) (rw (length-drop first all-fields) (omega arith))

    pub own_step : (ok : Bool) (least k name entry : ℕ) → Walked all-fields first fields ok least k → k < fields
        → name ≡ (field_at all-fields (first + k)).name → entry ≡ (field_at all-fields (first + k)).entry
        → Walked all-fields first fields (ok && field_fits least name entry) (name + 1) (k + 1)
    unfolding own_from
    own_step ok least k name entry h lt p q =
        let l : List Field = take fields (drop first all-fields) in
        let n = own_length in
        let d : Field = record { name = 0; entry = 0; optional = 0 } in
        let at : get_or l k d ≡ field_at all-fields (first + k) = get_or-take fields (drop first all-fields) k d lt ∙ get_or-drop first all-fields k d in
        h
        ∙ ap (λ (m : List Field). ok && own_from least m) (drop-cons l k d (omega arith))
        ∙ ap (λ (f : Field). ok && (field_fits least f.name f.entry && own_from (suc f.name) (drop (suc k) l))) at
        ∙ sym (and_assoc ok (field_fits least (field_at all-fields (first + k)).name (field_at all-fields (first + k)).entry) (own_from (suc (field_at all-fields (first + k)).name) (drop (suc k) l)))
        ∙ rw (add-one name, add-one k, p, q)

    pub own_end : (ok : Bool) (least k : ℕ) → Walked all-fields first fields ok least k → fields ≤ k → ok ≡ own_right names i (take fields (drop first all-fields))
    unfolding own_from
    own_end ok least k h le =
        let n = own_length in
        let past : length (take fields (drop first all-fields)) ≤ k = omega arith in
        let e : drop k (take fields (drop first all-fields)) ≡ [] = drop_of_length-le (take fields (drop first all-fields)) past in
        sym (h ∙ ap (λ (m : List Field). ok && own_from least m) e ∙ and-true ok)
