-- Making an attrset, by its tests: the field list, its entries, the dynamic type. Assumes nothing.
use Rattle.std.specs.Prelude.{Option}
use Prim.Native.Nat.{ℕ}
use mathlib.Core.Path.{◌≡◌, sym, ap, ◌∙◌}
use mathlib.Core.List.{List}
use mathlib.Core.Bool.{Bool, true, false, ◌&&◌, and-false}
use lib.ListN.{length}
use lib.Dec.{ltb}
use Rattle.model.specs.Lists.{all}
use Rattle.model.specs.Table.{Entry, is_asked}
use Rattle.model.specs.Image.{table}
use Rattle.model.specs.Formed.{is_entry}
use Rattle.model.specs.Calls.{response_of, field_list, fields_listed, dynamic_known, attrset_turn}
use Rattle.model.specs.Told.{Told, told_refusal}
use Rattle.model.specs.declared.Refusal.TheVariants.{BadNumber, BadFields}
use Rattle.image.specs.Shown.{store_of, entries_of}
use Rattle.type_table.specs.Made.{attrset_response}
use Rattle.turns.proofs.Turning.{Replies, stopped, gone_on, idle}

-- every field's entry is below an entry count
abbrev pub fields_below : ℕ → List ℕ → Bool
fields_below n l = all (λ f. ltb f.entry n) (field_list l)

entries_known : (es : List Entry) (l : List ℕ) (n : ℕ) (b : Bool) → n ≡ length es → fields_below n l ≡ b → all (λ f. is_entry es f.entry) (field_list l) ≡ b
unfolding is_entry
entries_known es l n b e h = ap (λ (m : ℕ). fields_below m l) (sym e) ∙ h

module _ (w l : List ℕ) (wide : Bool) (d : Option ℕ) (free : is_asked (table w) ≡ false) (names : ℕ) (e : names ≡ (store_of w).names) where
  pub bad_fields : fields_listed names l ≡ false → Replies (told_refusal BadFields) w (response_of w (attrset_turn l wide d (table w)))
  unfolding attrset_turn
  bad_fields h = idle w _ free (stopped w BadFields _ (fields_listed (store_of w).names l) (rw e at h))

  module _ (right : fields_listed names l ≡ true) (n : ℕ) (q : n ≡ length (entries_of w)) where
    abbrev numbers_right : Bool
    numbers_right = all (λ f. is_entry (entries_of w) f.entry) (field_list l) && dynamic_known (entries_of w) d

    pub bad_entry : fields_below n l ≡ false → Replies (told_refusal BadNumber) w (response_of w (attrset_turn l wide d (table w)))
    unfolding attrset_turn
    bad_entry h =
        let z : numbers_right ≡ false = rw (entries_known (entries_of w) l n false q h) in
        idle w _ free (gone_on w BadFields _ (fields_listed (store_of w).names l) (rw e at right) (stopped w BadNumber _ numbers_right z))

    pub bad_dynamic : dynamic_known (entries_of w) d ≡ false → Replies (told_refusal BadNumber) w (response_of w (attrset_turn l wide d (table w)))
    unfolding attrset_turn
    bad_dynamic h =
        let z : numbers_right ≡ false = rw h (and-false (all (λ f. is_entry (entries_of w) f.entry) (field_list l))) in
        idle w _ free (gone_on w BadFields _ (fields_listed (store_of w).names l) (rw e at right) (stopped w BadNumber _ numbers_right z))

    pub good_fields : fields_below n l ≡ true → dynamic_known (entries_of w) d ≡ true → {a : Told} {v : List ℕ} → Replies a v (attrset_response w l wide d)
        → Replies a v (response_of w (attrset_turn l wide d (table w)))
    unfolding attrset_turn
    good_fields h k r =
        let z : numbers_right ≡ true = rw (entries_known (entries_of w) l n true q h, k) in
        idle w _ free (gone_on w BadFields _ (fields_listed (store_of w).names l) (rw e at right) (gone_on w BadNumber _ numbers_right z r))
