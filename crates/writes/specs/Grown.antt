-- A table with a record more in one of its regions, and with its last record less there; what the words show then, region by region.
-- Assumes nothing.
use Prim.Native.Nat.{ℕ, ◌-◌, ◌<◌}
use native.Mathlib.Nat.{le_of_eq}
use mathlib.Core.Path.{◌≡◌, sym, ◌∙◌, subst}
use mathlib.Core.List.{List, [], ◌∷◌, ◌++◌}
use lib.ListN.{length, take}
use lib.Seq.{take_all}
use Rattle.model.specs.Format.{entry_width, field_width, bound_width, visited_width, pending_width, equals_width, entries_region, fields_region, bounds_region, visited_region, pending_region, equals_region}
use Rattle.model.specs.Table.{Entry, Field, Bound, Pair, Table, ◌⊑◌, no_entry}
use Rattle.model.specs.Image.{word, entry_of, field_of, bound_of, visited_of, pending_of, equal_of}
use Rattle.laws.proofs.Regions.{Coded, entry_coded, field_coded, bound_coded, visited_coded, pending_coded, equal_coded}
use Rattle.image.specs.Shown.{ShowsAs, ShownAs, store_of, entries_of, fields_in, bounds_all, visited_in, pending_in, equals_in}
use Rattle.image.specs.Shown.{entries_to, fields_to, bounds_to, visited_to, pending_to, equals_to}
use Rattle.image.specs.Stores.{appended, removed}
use Rattle.writes.specs.Slots.{entries_slot, fields_slot, bounds_slot, visited_slot, pending_slot, equals_slot, slot_pushed, slot_popped}

-- the record that a row says
abbrev pub entry_row : List ℕ → Entry
entry_row r = record { kind = word r 0; x = word r 1; y = word r 2; z = word r 3; flags = word r 4; spread = word r 5; negation = word r 6 }

abbrev pub field_row : List ℕ → Field
field_row r = record { name = word r 0; entry = word r 1; optional = word r 2 }

abbrev pub bound_row : List ℕ → Bound
bound_row r = record { variable = word r 0; side = word r 1; bound = word r 2 }

abbrev pub pair_row : List ℕ → Pair
pair_row r = word r 0 ⊑ word r 1

-- one record more
abbrev pub entries_pushed : List ℕ → List ℕ → Table
entries_pushed w r = entries_to w (entries_of w ++ (entry_row r ∷ []))

abbrev pub fields_pushed : List ℕ → List ℕ → Table
fields_pushed w r = fields_to w (fields_in w ++ (field_row r ∷ []))

abbrev pub bounds_pushed : List ℕ → List ℕ → Table
bounds_pushed w r = bounds_to w (bounds_all w ++ (bound_row r ∷ []))

abbrev pub visited_pushed : List ℕ → List ℕ → Table
visited_pushed w r = visited_to w (visited_in w ++ (pair_row r ∷ []))

abbrev pub pending_pushed : List ℕ → List ℕ → Table
pending_pushed w r = pending_to w (pending_in w ++ (pair_row r ∷ []))

abbrev pub equals_pushed : List ℕ → List ℕ → Table
equals_pushed w r = equals_to w (equals_in w ++ (pair_row r ∷ []))

-- the last record less
abbrev pub entries_popped : List ℕ → Table
entries_popped w = entries_to w (take (length (entries_of w) - 1) (entries_of w))

abbrev pub fields_popped : List ℕ → Table
fields_popped w = fields_to w (take (length (fields_in w) - 1) (fields_in w))

abbrev pub bounds_popped : List ℕ → Table
bounds_popped w = bounds_to w (take (length (bounds_all w) - 1) (bounds_all w))

abbrev pub visited_popped : List ℕ → Table
visited_popped w = visited_to w (take (length (visited_in w) - 1) (visited_in w))

abbrev pub pending_popped : List ℕ → Table
pending_popped w = pending_to w (take (length (pending_in w) - 1) (pending_in w))

abbrev pub equals_popped : List ℕ → Table
equals_popped w = equals_to w (take (length (equals_in w) - 1) (equals_in w))

-- a row is the words of the record that is read off it
row_is : {A : Type 0} {f : A → List ℕ} {of : List ℕ → A} {width : ℕ} → Coded f of width → (r : List ℕ) → length r ≡ width → f (of r) ≡ r
row_is {width = width} c r h = c.forth r (le_of_eq (sym h)) ∙ take_all width r (le_of_eq h)

module _ (state : ℕ) (w : List ℕ) (s : ShownAs state w) where
  -- the words with a record more
  pub entries_grown : (r : List ℕ) → length r ≡ entry_width → length (entries_of w) < (store_of w).capacities.entries → ShowsAs state (appended w entries_region entry_width r) (entries_pushed w r)
  unfolding entry_of
  entries_grown r n h = subst (λ (l : List ℕ). ShowsAs state (appended w entries_region entry_width l) (entries_pushed w r)) (row_is entry_coded r n) (slot_pushed entry_coded entries_slot s (entry_row r) h)

  pub fields_grown : (r : List ℕ) → length r ≡ field_width → length (fields_in w) < (store_of w).capacities.fields → ShowsAs state (appended w fields_region field_width r) (fields_pushed w r)
  unfolding field_of
  fields_grown r n h = subst (λ (l : List ℕ). ShowsAs state (appended w fields_region field_width l) (fields_pushed w r)) (row_is field_coded r n) (slot_pushed field_coded fields_slot s (field_row r) h)

  pub bounds_grown : (r : List ℕ) → length r ≡ bound_width → length (bounds_all w) < (store_of w).capacities.bounds → ShowsAs state (appended w bounds_region bound_width r) (bounds_pushed w r)
  unfolding bound_of
  bounds_grown r n h = subst (λ (l : List ℕ). ShowsAs state (appended w bounds_region bound_width l) (bounds_pushed w r)) (row_is bound_coded r n) (slot_pushed bound_coded bounds_slot s (bound_row r) h)

  pub visited_grown : (r : List ℕ) → length r ≡ visited_width → length (visited_in w) < (store_of w).capacities.visited → ShowsAs state (appended w visited_region visited_width r) (visited_pushed w r)
  unfolding visited_of
  visited_grown r n h = subst (λ (l : List ℕ). ShowsAs state (appended w visited_region visited_width l) (visited_pushed w r)) (row_is visited_coded r n) (slot_pushed visited_coded visited_slot s (pair_row r) h)

  pub pending_grown : (r : List ℕ) → length r ≡ pending_width → length (pending_in w) < (store_of w).capacities.pending → ShowsAs state (appended w pending_region pending_width r) (pending_pushed w r)
  unfolding pending_of
  pending_grown r n h = subst (λ (l : List ℕ). ShowsAs state (appended w pending_region pending_width l) (pending_pushed w r)) (row_is pending_coded r n) (slot_pushed pending_coded pending_slot s (pair_row r) h)

  pub equals_grown : (r : List ℕ) → length r ≡ equals_width → length (equals_in w) < (store_of w).capacities.equals → ShowsAs state (appended w equals_region equals_width r) (equals_pushed w r)
  unfolding equal_of
  equals_grown r n h = subst (λ (l : List ℕ). ShowsAs state (appended w equals_region equals_width l) (equals_pushed w r)) (row_is equal_coded r n) (slot_pushed equal_coded equals_slot s (pair_row r) h)

  -- and with the last record less
  pub entries_shrunk : 0 < length (entries_of w) → ShowsAs state (removed w entries_region entry_width) (entries_popped w)
  entries_shrunk h = slot_popped entry_coded entries_slot s no_entry h

  pub fields_shrunk : 0 < length (fields_in w) → ShowsAs state (removed w fields_region field_width) (fields_popped w)
  fields_shrunk h = slot_popped field_coded fields_slot s (field_row []) h

  pub bounds_shrunk : 0 < length (bounds_all w) → ShowsAs state (removed w bounds_region bound_width) (bounds_popped w)
  bounds_shrunk h = slot_popped bound_coded bounds_slot s (bound_row []) h

  pub visited_shrunk : 0 < length (visited_in w) → ShowsAs state (removed w visited_region visited_width) (visited_popped w)
  visited_shrunk h = slot_popped visited_coded visited_slot s (pair_row []) h

  pub pending_shrunk : 0 < length (pending_in w) → ShowsAs state (removed w pending_region pending_width) (pending_popped w)
  pending_shrunk h = slot_popped pending_coded pending_slot s (pair_row []) h

  pub equals_shrunk : 0 < length (equals_in w) → ShowsAs state (removed w equals_region equals_width) (equals_popped w)
  equals_shrunk h = slot_popped equal_coded equals_slot s (pair_row []) h
