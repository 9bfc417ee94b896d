-- The room for a store that a step would leave, told region by region; changes of a store that leave it the same room. Assumes nothing.
use Rattle.std.specs.Prelude.{Err, Ok, Result}
use Prim.Native.Nat.{ℕ, zero, suc, ◌+◌, ◌-◌, ◌≤◌, ◌<◌}
use native.Mathlib.Omega.{arith}
use mathlib.Core.Path.{◌≡◌, refl, sym, ap, ◌∙◌}
use mathlib.Core.List.{List, [], ◌∷◌, ◌++◌}
use mathlib.Core.Bool.{Bool, true, false, ◌&&◌, ◌||◌}
use lib.ListN.{length, length-append}
use lib.Seq.{length-take-le}
use lib.Dec.{T, eqb, ltb}
use borrow.Author.Tests.{lt-ltb, le-ltb, ltb-false}
use Rattle.model.specs.declared.Refusal.{Refusal}
use Rattle.instalments.specs.Machine.{enough}
use Rattle.model.specs.Lists.{any}
use Rattle.model.specs.Format.{bounds_region, visited_region, pending_region, spread_most, variable, upper}
use Rattle.model.specs.Table.{Entry, Bound, Pair, ◌⊑◌, Store, entry_at, is_at, is_broken, marked, with_visited, with_bounds, with_broken, with_entries}
use Rattle.model.specs.Formed.{well_formed}
use Rattle.model.specs.Making.{too_deep, bounds_in, repeats, add_bound, changed, with_mark, mark_entry}
use Rattle.model.specs.Rules.{visit, fill_break, pass_mark}
use Rattle.model.specs.Room.{first_lacking, deep_enough, fitting}
use Rattle.model.specs.declared.Failure.{Failure}
use Rattle.model.specs.declared.Refusal.TheVariants.{NoRoom}
use Rattle.laws.proofs.Entries.{changed_length}
use Rattle.laws.proofs.Formed.{sound_table}
use Rattle.laws.proofs.StepSound.{passes, fitting_enough}
use Rattle.laws.proofs.Stores.{by_test}
use Rattle.image.specs.Shown.{store_of, bounds_all, visited_in, pending_in}
use Rattle.step.specs.Taken.{before_last, room_in, RoomFor, RoomForBound}

-- what is left where the last pair is taken off
pub before_length : (w : List ℕ) → length (before_last w) ≡ length (pending_in w) - 1
before_length w = length-take-le (length (pending_in w) - 1) (pending_in w) (omega arith)

pub one_more : {A : Type 0} (l : List A) (x : A) → length (l ++ (x ∷ [])) ≡ length l + 1
one_more l x = simp length-append

-- room for a visited pair and so many consequences, by the numbers that are read
module _ (w : List ℕ) (good : T (well_formed w)) (more : ℕ) where
  pub lacks_visited : (store_of w).capacities.visited ≤ length (visited_in w) → RoomFor w (store_of w) more (Err (NoRoom visited_region))
  unfolding fitting first_lacking deep_enough visit with_visited
  lacks_visited h p =
      let k = (sound_table w good).store.held in
      sym (rw (le-ltb _ _ k.entries, le-ltb _ _ k.fields, le-ltb _ _ k.bounds, lt-ltb (store_of w).capacities.visited (length (visited_in w ++ (p ∷ []))) (omega (arith, one_more (visited_in w) p))))

  module _ (v : length (visited_in w) < (store_of w).capacities.visited) where
    pub lacks_pending : (store_of w).capacities.pending < length (before_last w) + more → RoomFor w (store_of w) more (Err (NoRoom pending_region))
    unfolding fitting first_lacking deep_enough visit with_visited
    lacks_pending h p =
        let k = (sound_table w good).store.held in
        sym (rw (
          le-ltb _ _ k.entries,
          le-ltb _ _ k.fields,
          le-ltb _ _ k.bounds,
          le-ltb (store_of w).capacities.visited (length (visited_in w ++ (p ∷ []))) (omega (arith, one_more (visited_in w) p)),
          lt-ltb (store_of w).capacities.pending (length (before_last w) + more) h,
        ))

    pub room_enough : length (before_last w) + more ≤ (store_of w).capacities.pending → RoomFor w (store_of w) more (Ok tt)
    unfolding visit with_visited
    room_enough h p =
        let s = (sound_table w good).store in
        let k = s.held in
        sym (fitting_enough (visit p (store_of w)) (length (before_last w) + more)
        (record { entries = k.entries; fields = k.fields; bounds = k.bounds; visited = omega (arith, one_more (visited_in w) p); equals = k.equals }) h s.shallow)

-- what has room passed every test
pub record RegionsFit (u : Store) (n : ℕ) : Type 0 where
  pub bounds : length u.bounds ≤ u.capacities.bounds
  pub visited : length u.visited ≤ u.capacities.visited
  pub pending : n ≤ u.capacities.pending

pub fits : (u : Store) (n : ℕ) → fitting u n ≡ enough → RegionsFit u n
unfolding fitting first_lacking deep_enough
fits u n e =
    let c = u.capacities in
    let entries = passes (ltb c.entries (length u.entries)) _ _ e in
    let fields = passes (ltb c.fields (length u.fields)) _ _ entries.1 in
    let bounds = passes (ltb c.bounds (length u.bounds)) _ _ fields.1 in
    let visited = passes (ltb c.visited (length u.visited)) _ _ bounds.1 in
    let pending = passes (ltb c.pending n) _ _ visited.1 in
    record {
      bounds = ltb-false c.bounds (length u.bounds) bounds.0;
      visited = ltb-false c.visited (length u.visited) visited.0;
      pending = ltb-false c.pending n pending.0;
    }

-- room was found for a store with its pair visited
pub room_found : (w : List ℕ) (s : Store) (more : ℕ) (r : Result (Unit {0}) Refusal) → r ≡ (Ok tt) → RoomFor w s more r → (p : Pair) → fitting (visit p s) (length (before_last w) + more) ≡ enough
room_found w s more r e q p = sym (q p) ∙ ap room_in e

pub visited_room : (w : List ℕ) (s : Store) (more : ℕ) (r : Result (Unit {0}) Refusal) → r ≡ (Ok tt) → RoomFor w s more r → length s.visited < s.capacities.visited
unfolding visit with_visited
visited_room w s more r e q =
    let p : Pair = 0 ⊑ 0 in
    omega (arith, one_more s.visited p, (fits (visit p s) (length (before_last w) + more) (room_found w s more r e q p)).visited)

-- the break words take no room
pub break_room : (f : Failure) (u : Store) (n : ℕ) → fitting (fill_break f u) n ≡ fitting u n
unfolding fill_break with_broken fitting first_lacking deep_enough
break_room f u n = by_test (λ (s : Store). fitting s n ≡ fitting u n) (is_broken u) (λ h. refl) (λ h. refl)

-- a bound, unless it repeats one
module _ (w : List ℕ) (good : T (well_formed w)) (repeated : Bool) (more : ℕ) where
  pub bound_repeats : repeated ≡ true → (r : Result (Unit {0}) Refusal) → RoomFor w (store_of w) more r → RoomForBound w repeated more r
  unfolding add_bound with_bounds
  bound_repeats t r q v side b e p =
      let z : repeats (bounds_in (bounds_all w) v side) b ≡ true = sym e ∙ t in
      rw z (q p)

  module _ (t : repeated ≡ false) where
    pub lacks_bounds : (store_of w).capacities.bounds ≤ length (bounds_all w) → RoomForBound w repeated more (Err (NoRoom bounds_region))
    unfolding fitting first_lacking deep_enough visit with_visited add_bound with_bounds
    lacks_bounds h v side b e p =
        let k = (sound_table w good).store.held in
        let z : repeats (bounds_in (bounds_all w) v side) b ≡ false = sym e ∙ t in
        let r : Bound = record { variable = v; side = side; bound = b } in
        sym (rw (z, le-ltb _ _ k.entries, le-ltb _ _ k.fields, lt-ltb (store_of w).capacities.bounds (length (bounds_all w ++ (r ∷ []))) (omega (arith, one_more (bounds_all w) r))))

    pub bound_more : length (bounds_all w) < (store_of w).capacities.bounds → (r : Result (Unit {0}) Refusal) → RoomFor w (store_of w) more r → RoomForBound w repeated more r
    unfolding fitting first_lacking deep_enough visit with_visited add_bound with_bounds
    bound_more h r q v side b e p =
        let k = (sound_table w good).store.held in
        let z : repeats (bounds_in (bounds_all w) v side) b ≡ false = sym e ∙ t in
        let x : Bound = record { variable = v; side = side; bound = b } in
        let y : fitting (visit p (store_of w)) (length (before_last w) + more) ≡ fitting (visit p (with_bounds (add_bound v side b (bounds_all w)) (store_of w))) (length (before_last w) + more) =
        rw (z, le-ltb _ _ k.bounds, le-ltb (store_of w).capacities.bounds (length (bounds_all w ++ (x ∷ []))) (omega (arith, one_more (bounds_all w) x))) in
        q p ∙ y

-- a mark takes no room
mark_deep : (es : List Entry) (n : ℕ) → too_deep (changed with_mark es n) ≡ too_deep es
unfolding too_deep any changed
mark_deep [] n = refl
mark_deep (e ∷ es) zero = refl
mark_deep (e ∷ es) (suc n) = ap (λ (t : Bool). ltb spread_most e.spread || t) (mark_deep es n)

marks_room : (b : ℕ) (s : Store) (p : Pair) (n : ℕ) → fitting (visit p (with_entries (mark_entry b s.entries) s)) n ≡ fitting (visit p s) n
unfolding fitting first_lacking deep_enough visit with_visited mark_entry with_entries
marks_room b s p n = rw (changed_length with_mark s.entries b, mark_deep s.entries b)

pub pass_room : (v side b : ℕ) (s : Store) (p : Pair) (n : ℕ) → fitting (visit p (with_entries (pass_mark v side b s.entries) s)) n ≡ fitting (visit p s) n
unfolding pass_mark with_entries
pass_room v side b s p n =
    by_test (λ (es : List Entry). fitting (visit p (with_entries es s)) n ≡ fitting (visit p s) n) (eqb side upper && is_at s.entries variable b && marked (entry_at s.entries v))
    (λ h. marks_room b s p n) (λ h. refl)
