-- Making sup or the negation of d: what the code knows at each place, and what it comes to at each way out. Assumes nothing.
use Rattle.std.specs.Prelude.{None, Option, Some}
use Prim.Native.Nat.{ℕ, ◌+◌, ◌*◌, ◌≤◌, ◌<◌}
use native.Mathlib.Omega.{arith}
use mathlib.Core.Path.{◌≡◌, refl, sym, ap, subst, ◌∙◌}
use mathlib.Core.List.{List, [], ◌∷◌, ◌++◌}
use mathlib.Core.Bool.{Bool, true, false}
use lib.ListN.{length}
use Rattle.model.specs.Format.{union}
use Rattle.model.specs.Table.{Entry, Table, with_entries}
use Rattle.model.specs.Image.{table}
use Rattle.model.specs.Making.{Making, spread_at, spread_of, put_entry, new_entry, make_neg}
use Rattle.model.specs.Shapes.{union_member}
use Rattle.model.specs.Rules.{target}
use Rattle.laws.specs.Good.{Good, Shallow}
use Rattle.laws.proofs.NewEntries.{new_length}
use Rattle.laws.proofs.Stores.{entries_lead}
use Rattle.laws.proofs.Negation.{Grown, Deep, neg_grown, neg_deep}
use Rattle.image.specs.Laid.{Laid}
use Rattle.image.specs.Shown.{Shows, Shown, store_of, entries_of, fields_in, entries_to}
use Rattle.image.specs.Records.{entry_made}
use Rattle.image.proofs.Laying.{seen, shown, shown_laid}
use Rattle.type_table.specs.Made.{entries_in, Negatable, NegatedIn}
use Rattle.type_table.proofs.WaysOut.{spread_both}
use Rattle.type_table.proofs.Undoing.{seen_entries}
use Rattle.type_table.proofs.Negating.{full_lacks, made_fits, made_number, made_shows}
use Rattle.step.specs.Made.{TargetIn}

-- the target by whether the negation is a member of sup
module _ (sup : ℕ) (m : Making) where
  target_sup : union_member m.after m.number sup ≡ true → target sup m ≡ record { number = sup; after = m.after }
  unfolding target
  target_sup e = rw e

  target_union : union_member m.after m.number sup ≡ false → target sup m ≡ new_entry m.after union sup m.number
  unfolding target
  target_union e = rw e

  target_longer : length m.after ≤ length (target sup m).after
  target_longer = by (union_member m.after m.number sup) refl
    where
      by : (t : Bool) → union_member m.after m.number sup ≡ t → length m.after ≤ length (target sup m).after
      by true e = omega (arith, ap (λ (j : Making). length j.after) (target_sup e))
      by false e = omega (arith, ap (λ (j : Making). length j.after) (target_union e), new_length m.after union sup m.number)

module _ (w : List ℕ) (sup d : ℕ) (pre : Negatable w d) (good : Good (store_of w)) (shallow : Shallow (entries_of w)) (below : sup < length (entries_of w)) where
  grown : Grown (entries_of w) (fields_in w) (store_of w).names d (make_neg (entries_of w) d)
  grown = neg_grown (entries_of w) (fields_in w) (store_of w).names d pre.good pre.below

  deep : Deep (entries_of w) d (make_neg (entries_of w) d)
  deep = neg_deep (entries_of w) (fields_in w) (store_of w).names d pre.good shallow pre.below

  pub full_negation : (a : Option ℕ) (v : List ℕ) → NegatedIn (table w) d a v → a ≡ None → TargetIn (table w) sup d None v
  full_negation a v r f =
      let b : NegatedIn (table w) d None v = subst (λ (c : Option ℕ). NegatedIn (table w) d c v) f r in
      let l = full_lacks (table w) d v b in
      record { done = λ le. absurd (omega (arith, target_longer sup (make_neg (entries_of w) d))); full = λ gt. b.full l }

  -- the negation is made
  module _ (a : Option ℕ) (v : List ℕ) (r : NegatedIn (table w) d a v) (n : ℕ) (f : a ≡ Some n) where
    some : NegatedIn (table w) d (Some n) v
    some = subst (λ (c : Option ℕ). NegatedIn (table w) d c v) f r

    number_is : n ≡ (make_neg (entries_of w) d).number
    number_is = made_number (table w) d v n some

    shows : Shows v (entries_in (table w) (make_neg (entries_of w) d).after)
    shows = made_shows (table w) d v n some

    same : entries_of v ≡ (make_neg (entries_of w) d).after
    same = seen_entries (table w) v (make_neg (entries_of w) d).after shows

    same_room : (store_of v).capacities.entries ≡ (store_of w).capacities.entries
    unfolding with_entries
    same_room = ap (λ (t : Table). t.store.capacities.entries) (seen shows)

    pub target_laid : Laid v
    target_laid = shown_laid shows

    pub target_below : sup < length (entries_of v)
    target_below = omega (arith, ap length same, grown.least)

    pub target_number : n < length (entries_of v)
    target_number = rw (same, number_is) grown.number

    pub target_asks : Laid v × (Good (store_of v) × (sup < length (entries_of v)))
    target_asks = (
      target_laid,
      (subst (λ (t : Table). Good t.store) (sym (seen shows)) (entries_lead (store_of w) good (make_neg (entries_of w) d).after grown.good grown.kept grown.same).good, target_below),
    )

    -- how far they spread
    pub sup_low : (x : ℕ) → x ≡ spread_at (entries_of v) sup → x ≤ 1024
    sup_low x e =
        let z : spread_at (entries_of v) sup ≡ spread_at (make_neg (entries_of w) d).after sup = rw same in
        omega (arith, (grown.kept.kept sup below).spread, shallow sup below)

    pub negation_low : (x : ℕ) → x ≡ spread_at (entries_of v) n → x ≤ 1025 * 1024
    negation_low x e =
        let z : spread_at (entries_of v) n ≡ spread_at (make_neg (entries_of w) d).after (make_neg (entries_of w) d).number = rw (same, number_is) in
        omega (arith, deep.ratio, shallow d pre.below)

    member_is : (t : Bool) → t ≡ union_member (entries_of v) n sup → union_member (make_neg (entries_of w) d).after (make_neg (entries_of w) d).number sup ≡ t
    member_is t e = sym (rw (same, number_is) at e)

    pub target_old : (t : Bool) → t ≡ union_member (entries_of v) n sup → t ≡ true → TargetIn (table w) sup d (Some sup) v
    target_old t e h =
        let q = target_sup sup (make_neg (entries_of w) d) (member_is t e ∙ h) in
        record {
          done = λ le. rw q (refl, shows);
          full = λ gt. absurd (omega (arith, ap (λ (j : Making). length j.after) q, made_fits (table w) d v n some));
        }

    -- it is no member, and a union of both is to be made
    module _ (t : Bool) (e : t ≡ union_member (entries_of v) n sup) (h : t ≡ false) (number cap : ℕ) (ne : number ≡ length (entries_of v)) (ce : cap ≡ (store_of v).capacities.entries) where
      made : target sup (make_neg (entries_of w) d) ≡ new_entry (make_neg (entries_of w) d).after union sup (make_neg (entries_of w) d).number
      made = target_union sup (make_neg (entries_of w) d) (member_is t e ∙ h)

      size : length (target sup (make_neg (entries_of w) d)).after ≡ length (entries_of v) + 1
      size =
          ap (λ (j : Making). length j.after) made ∙ new_length (make_neg (entries_of w) d).after union sup (make_neg (entries_of w) d).number
          ∙ ap (λ (l : List Entry). length l + 1) (sym same)

      pub target_none : cap ≤ number → TargetIn (table w) sup d None v
      target_none le = record {
        done = λ l. absurd (omega (arith, size, same_room));
        full = λ gt. (refl, ((make_neg (entries_of w) d).after, (shows, record { longer = grown.least; undo = grown.undo })));
      }

      pub target_room : number < cap → Shown v × (length (entries_of v) < (store_of v).capacities.entries)
      target_room lt = (shown shows, omega arith)

      pub target_new : number < cap → (x y : ℕ) → x ≡ spread_at (entries_of v) sup → y ≡ spread_at (entries_of v) n
          → (u : List ℕ) → Shows u (entries_to v (entries_of v ++ (entry_made union sup n 0 0 (1 + x + y) ∷ []))) → TargetIn (table w) sup d (Some number) u
      unfolding new_entry put_entry with_entries
      target_new lt x y ex ey u su =
          let us : List Entry = (make_neg (entries_of w) d).after in
          let k : ℕ = (make_neg (entries_of w) d).number in
          let spread : 1 + x + y ≡ spread_of us union sup k = rw (ex, ey, same, number_is) (sym (spread_both us union sup k (omega arith))) in
          let b : Shows u (entries_in (table w) (us ++ (entry_made union sup n 0 0 (1 + x + y) ∷ []))) =
          subst (λ (s : Table). Shows u (entries_in s (s.store.entries ++ (entry_made union sup n 0 0 (1 + x + y) ∷ [])))) (seen shows) su in
          let g : Shows u (entries_in (table w) (us ++ (entry_made union sup k 0 0 (spread_of us union sup k) ∷ []))) =
          subst (λ (i : ℕ). Shows u (entries_in (table w) (us ++ (entry_made union sup k 0 0 i ∷ [])))) spread
          (subst (λ (i : ℕ). Shows u (entries_in (table w) (us ++ (entry_made union sup i 0 0 (1 + x + y) ∷ [])))) number_is b) in
          let z : number ≡ length us = ne ∙ ap length same in
          record {
            done = λ le. rw made (ap (λ (i : ℕ). Some i) z, g);
            full = λ gt. absurd (omega (arith, size, same_room));
          }
