-- The six regions of a table by name, each a slot: the list that region k holds, and the table with another list there. What a push, a
-- pop and a put of one word leave is stated once, over any slot. Assumes nothing.
use Prim.Native.Nat.{ℕ, suc, ◌+◌, ◌-◌, ◌*◌, ◌≤◌, ◌<◌}
use native.Mathlib.Omega.{arith}
use mathlib.Core.Path.{◌≡◌, refl, sym, ap, ◌∙◌, subst}
use mathlib.Core.List.{List, [], ◌∷◌, ◌++◌}
use lib.ListN.{length, get_or, set, take, replicate, length-replicate}
use lib.Seq.{length-take-le, take-length, take-suc}
use Rattle.model.specs.Format.{regions, newest, entry_width, field_width, bound_width, visited_width, pending_width, equals_width}
use Rattle.model.specs.Format.{entries_region, fields_region, bounds_region, visited_region, pending_region, equals_region}
use Rattle.model.specs.Table.{Table, table_of, with_entries, with_fields, with_bounds, with_visited, with_equals}
use Rattle.model.specs.Parts.{offset, capacity, count, Part, image, InRegions, stored, pushed, part_of, change}
use Rattle.model.specs.Image.{entry_words, field_words, bound_words, visited_words, pending_words, equal_words, packed, front_as, parts_of, words_as}
use Rattle.laws.proofs.Regions.{Coded}
use Rattle.laws.proofs.Round.{front_length, fit_within, parts_fit}
use Rattle.image.specs.Laid.{At}
use Rattle.image.specs.Shown.{ShowsAs}
use Rattle.image.specs.Stores.{appended, removed}
use Rattle.image.specs.Reading.{before_end}
use Rattle.writes.specs.Placing.{ShowsParts, count_is, capacity_is, shows_at, shows_put, shows_stored, shows_pushed}
use Rattle.writes.specs.Packed.{packed_pushed, packed_popped, packed_put}

-- `holds`, `parts` and `front` are by refl
pub record Slot {A : Type 0} (code : A → List ℕ) (width k : ℕ) (room : Table → ℕ) (get : Table → List A) (put : List A → Table → Table) : Type 0 where
  pub low : 1 ≤ k
  pub high : k ≤ length (regions newest)
  pub holds : (t : Table) → part_of (parts_of t) k ≡ packed code width (room t) (get t)
  pub parts : (l : List A) (t : Table) → parts_of (put l t) ≡ set (parts_of t) (k - 1) (packed code width (room t) l)
  pub front : (state : ℕ) (l : List A) (t : Table) → front_as state (put l t) ≡ front_as state t

-- words that show a table show its parts
pub shows_parts : {state : ℕ} {w : List ℕ} {t : Table} → ShowsAs state w t → ShowsParts (regions newest) w (front_as state t) (parts_of t)
unfolding words_as
shows_parts {state} {w} {t} s = record { nine = front_length state t; fit = parts_fit t s.within; is = s.is }

module _ {A : Type 0} {code : A → List ℕ} {of : List ℕ → A} {width k : ℕ} {room : Table → ℕ} {get : Table → List A} {put : List A → Table → Table}
    (c : Coded code of width) (slot : Slot code width k room get put) {state : ℕ} {w : List ℕ} {t : Table} (s : ShowsAs state w t) where
  -- the region's own facts: where it lies, and its two numbers
  slot_wide : (part_of (parts_of t) k).width ≡ width
  unfolding packed
  slot_wide = ap (λ (p : Part). p.width) (slot.holds t)

  pub slot_at : At w k width
  slot_at = rw slot_wide at (shows_at (shows_parts s) k slot.low slot.high)

  pub slot_count : count w k ≡ length (get t)
  unfolding packed words_as
  slot_count = rw s.is (count_is (front_as state t) (front_length state t) (parts_fit t s.within) k slot.low slot.high ∙ ap (λ (p : Part). p.count) (slot.holds t))

  pub slot_room : capacity w k ≡ room t
  unfolding packed words_as
  slot_room = rw s.is (capacity_is (front_as state t) (front_length state t) (parts_fit t s.within) k slot.low slot.high ∙ ap (λ (p : Part). p.capacity) (slot.holds t))

  -- a change of the part that is one of the list: the words show the table with that list
  slot_changed : {v : List ℕ} (l : List A) (g : Part → Part) → g (packed code width (room t) (get t)) ≡ packed code width (room t) l
      → ShowsParts (regions newest) v (front_as state t) (change g k (parts_of t)) → ShowsAs state v (put l t)
  unfolding words_as
  slot_changed l g e n =
      let all : change g k (parts_of t) ≡ parts_of (put l t) =
      ap (λ (q : Part). set (parts_of t) (k - 1) q) (ap g (slot.holds t) ∙ e) ∙ sym (slot.parts l t) in
      record {
        within = fit_within (put l t) (subst (λ (x : List Part). InRegions (regions newest) x) all n.fit);
        is = n.is ∙ ap (λ (x : List ℕ). image x (change g k (parts_of t))) (sym (slot.front state l t)) ∙ ap (λ (x : List Part). image (front_as state (put l t)) x) all;
      }

  -- a record put behind the last
  pub slot_pushed : (a : A) → length (get t) < room t → ShowsAs state (appended w k width (code a)) (put (get t ++ (a ∷ [])) t)
  unfolding packed
  slot_pushed a h =
      let n = slot_count in
      let m = slot_room in
      let r : ShowsParts (regions newest) (appended w k width (code a)) (front_as state t) (change (pushed (code a)) k (parts_of t)) =
      subst (λ (x : ℕ). ShowsParts (regions newest) (appended w k x (code a)) (front_as state t) (change (pushed (code a)) k (parts_of t))) slot_wide
      (shows_pushed (shows_parts s) k slot.low slot.high (code a) (c.wide a ∙ sym slot_wide) (omega arith)) in
      slot_changed (get t ++ (a ∷ [])) (pushed (code a)) (packed_pushed c (room t) (get t) a h) r

  -- the last taken off
  pub slot_popped : A → 0 < length (get t) → ShowsAs state (removed w k width) (put (take (length (get t) - 1) (get t)) t)
  unfolding packed
  slot_popped d h =
      let l = get t in
      let j : ℕ = length l - 1 in
      let m : List A = take j l in
      let n : length m ≡ j = length-take-le j l (omega arith) in
      let e : suc j ≡ length l = omega arith in
      let all : l ≡ m ++ (get_or l j d ∷ []) = sym (take-length l) ∙ ap (λ (i : ℕ). take i l) (sym e) ∙ take-suc l j d (omega arith) in
      let x = slot_count in
      let y = slot_room in
      let at = slot_at in
      let b = before_end width (count w k - 1) (capacity w k) (omega (arith, at.held)) in
      let less : count w k - 1 ≡ length m = sym (n ∙ ap (λ (i : ℕ). i - 1) (sym x)) in
      let p = shows_parts s in
      let zeros : List ℕ = replicate width 0 in
      let fits : width * (count w k - 1) + length zeros ≤ (part_of (parts_of t) k).width * (part_of (parts_of t) k).capacity =
      rw (length-replicate {A = ℕ} width 0, slot.holds t, ← y) b in
      let r = shows_stored p k slot.low slot.high (width * (count w k - 1)) (replicate width 0) (count w k - 1) fits (omega (arith, at.held)) in
      slot_changed m (stored (width * (count w k - 1)) (replicate width 0) (count w k - 1))
      (ap (λ (i : ℕ). stored (width * i) (replicate width 0) i (packed code width (room t) l)) less
      ∙ ap (λ (q : List A). stored (width * length m) (replicate width 0) (length m) (packed code width (room t) q)) all
      ∙ packed_popped c (room t) m (get_or l j d) (omega (arith, at.held))) r

  -- word j of record i changed
  pub slot_put : (i j x : ℕ) (b d : A) → i < length (get t) → j < width → code b ≡ set (code (get_or (get t) i d)) j x
      → ShowsAs state (set w (offset w k + width * i + j) x) (put (set (get t) i b) t)
  unfolding packed
  slot_put i j x b d lt jt e =
      let l = get t in
      let n = slot_count in
      let y = slot_room in
      let at = slot_at in
      let m = before_end width i (capacity w k) (omega (arith, at.held)) in
      let fits : width * i + j + 1 ≤ (part_of (parts_of t) k).width * (part_of (parts_of t) k).capacity = rw (slot.holds t, ← y) (omega arith) in
      let same : offset w k + (width * i + j) ≡ offset w k + width * i + j = omega arith in
      let r : ShowsParts (regions newest) (set w (offset w k + width * i + j) x) (front_as state t) (change (λ p. stored (width * i + j) (x ∷ []) p.count p) k (parts_of t)) =
      rw same at (shows_put (shows_parts s) k slot.low slot.high (width * i + j) (x ∷ []) fits) in
      slot_changed (set l i b) (λ p. stored (width * i + j) (x ∷ []) p.count p) (packed_put c (room t) l i j x b d lt jt e) r

-- the six
pub entries_slot : Slot entry_words entry_width entries_region (λ t. t.store.capacities.entries) (λ t. t.store.entries) (λ l t. table_of (with_entries l t.store) t.pending)
unfolding parts_of front_as with_entries
entries_slot = record {
  low = omega arith;
  high = omega arith;
  holds = λ t. refl;
  parts = λ l t. refl;
  front = λ state l t. refl;
}

pub fields_slot : Slot field_words field_width fields_region (λ t. t.store.capacities.fields) (λ t. t.store.fields) (λ l t. table_of (with_fields l t.store) t.pending)
unfolding parts_of front_as with_fields
fields_slot = record {
  low = omega arith;
  high = omega arith;
  holds = λ t. refl;
  parts = λ l t. refl;
  front = λ state l t. refl;
}

pub bounds_slot : Slot bound_words bound_width bounds_region (λ t. t.store.capacities.bounds) (λ t. t.store.bounds) (λ l t. table_of (with_bounds l t.store) t.pending)
unfolding parts_of front_as with_bounds
bounds_slot = record {
  low = omega arith;
  high = omega arith;
  holds = λ t. refl;
  parts = λ l t. refl;
  front = λ state l t. refl;
}

pub visited_slot : Slot visited_words visited_width visited_region (λ t. t.store.capacities.visited) (λ t. t.store.visited) (λ l t. table_of (with_visited l t.store) t.pending)
unfolding parts_of front_as with_visited
visited_slot = record {
  low = omega arith;
  high = omega arith;
  holds = λ t. refl;
  parts = λ l t. refl;
  front = λ state l t. refl;
}

pub pending_slot : Slot pending_words pending_width pending_region (λ t. t.store.capacities.pending) (λ t. t.pending) (λ l t. table_of t.store l)
unfolding parts_of front_as
pending_slot = record {
  low = omega arith;
  high = omega arith;
  holds = λ t. refl;
  parts = λ l t. refl;
  front = λ state l t. refl;
}

pub equals_slot : Slot equal_words equals_width equals_region (λ t. t.store.capacities.equals) (λ t. t.store.equals) (λ l t. table_of (with_equals l t.store) t.pending)
unfolding parts_of front_as with_equals
equals_slot = record {
  low = omega arith;
  high = omega arith;
  holds = λ t. refl;
  parts = λ l t. refl;
  front = λ state l t. refl;
}
