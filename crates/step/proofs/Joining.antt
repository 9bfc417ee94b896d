-- A bound that joins a variable's, and the pairs that follow: what each change needs, and what the step answers. Assumes nothing.
use Rattle.std.specs.Prelude.{Err, Ok, Result}
use Prim.Native.Nat.{ℕ, ◌+◌, ◌-◌, ◌≤◌, ◌<◌}
use native.Mathlib.Omega.{arith}
use mathlib.Core.Path.{◌≡◌, refl, sym, ap, subst, ◌∙◌}
use mathlib.Core.List.{List, ◌++◌, map, reverse}
use lib.ListN.{length, take, length-map}
use Rattle.instalments.specs.Machine.{Outcome, goes}
use Rattle.model.specs.Format.{upper}
use Rattle.model.specs.Table.{Bound, Pair, ◌⊑◌, Store, Table, table_of, changed_to, with_graph, with_entries, with_bounds, with_visited}
use Rattle.model.specs.Image.{table}
use Rattle.model.specs.Making.{bounds_in, add_bound}
use Rattle.model.specs.Rules.{bound_pair, other_side, pass_mark, join_bounds, visit, outcome_of}
use Rattle.model.specs.Room.{fitting, room_for}
use Rattle.model.specs.declared.Failure.{Failure}
use Rattle.model.specs.declared.Refusal.{Refusal}
use Rattle.laws.proofs.Effects.{add_bounds}
use Rattle.image.specs.Shown.{Shows, Shown, store_of, graph_in, entries_of, bounds_all, visited_in, pending_in, entries_to, bounds_to, pending_to}
use Rattle.image.proofs.Laying.{seen, shown, shown_as}
use Rattle.step.specs.Taken.{before_last, Midway, room_in, RoomFor}
use Rattle.step.specs.declared.Step.TheVariants.{Went}
use Rattle.step.proofs.Rooms.{fits, room_found, visited_room, pass_room}
use Rattle.step.proofs.Taking.{Takes, refused, went}

pub bound_fits : (w : List ℕ) (v side b more : ℕ) (found : Result (Unit {0}) Refusal) → found ≡ (Ok tt) → RoomFor w (with_bounds (add_bound v side b (bounds_all w)) (store_of w)) more found
    → length (add_bound v side b (bounds_all w)) ≤ (store_of w).capacities.bounds
unfolding visit with_visited with_bounds
bound_fits w v side b more found e q =
    let u : Store = with_bounds (add_bound v side b (bounds_all w)) (store_of w) in
    let p : Pair = 0 ⊑ 0 in
    (fits (visit p u) (length (before_last w) + more) (room_found w u more found e q p)).bounds

-- the entries are as many as before
pub still_entry : (w u : List ℕ) (bs : List Bound) (n : ℕ) → Shows u (bounds_to w bs) → n < length (entries_of w) → n < length (entries_of u)
unfolding with_bounds
still_entry w u bs n s h = omega (arith, ap (λ (t : Table). length t.store.entries) (seen s))

-- b among the bounds of v on a side, and the mark passed on
abbrev pub with_bound : List ℕ → (v side b : ℕ) → Store
with_bound w v side b = with_entries (pass_mark v side b (entries_of w)) (with_bounds (add_bound v side b (bounds_all w)) (store_of w))

pub bound_marked : (w u x : List ℕ) (v side b : ℕ) → Shows u (bounds_to w (add_bound v side b (bounds_all w))) → Shows x (entries_to u (pass_mark v side b (entries_of u)))
    → Shows x (table_of (with_bound w v side b) (pending_in w))
unfolding with_bounds
bound_marked w u x v side b su sx = subst (λ (t : Table). Shows x (table_of (with_entries (pass_mark v side b t.store.entries) t.store) t.pending)) (seen su) sx

-- the pair taken off, over words that show a table
pub then_advance : {u x : List ℕ} {t : Table} → Shows u t → (p : Pair) → Midway x (table_of (visit p (store_of u)) (before_last u))
    → Midway x (table_of (visit p t.store) (take (length t.pending - 1) t.pending))
then_advance {u} {x} {t} s p h = subst (λ (y : Table). Midway x (table_of (visit p y.store) (take (length y.pending - 1) y.pending))) (seen s) h

-- what the step leaves, but for its pair: the room, and the pairs to come
pub record Joins (w : List ℕ) (after : Store) (v other more : ℕ) (found : Result (Unit {0}) Refusal) : Type 0 where
  pub room : RoomFor w after more found
  pub counted : length (bounds_in after.bounds v other) ≡ more

pub joins : (w : List ℕ) (v side b more : ℕ) (found : Result (Unit {0}) Refusal) → side ≤ upper → more ≡ length (bounds_in (bounds_all w) v (other_side side))
    → RoomFor w (with_bounds (add_bound v side b (bounds_all w)) (store_of w)) more found → Joins w (with_bound w v side b) v (other_side side) more found
unfolding with_bounds with_entries
joins w v side b more found le e q =
    let u : Store = with_bounds (add_bound v side b (bounds_all w)) (store_of w) in
    record {
      room = λ p. q p ∙ sym (pass_room v side b u p (length (before_last w) + more));
      counted = ap length (add_bounds (bounds_all w) v b v side le) ∙ sym e;
    }

module _ (w : List ℕ) (after : Store) (v other more : ℕ) (found : Result (Unit {0}) Refusal) (j : Joins w after v other more found) where
  module _ (e : found ≡ (Ok tt)) where
    pub advance_needs : (u : List ℕ) → Shows u (table_of after (pending_in w)) → 0 < length (pending_in w)
        → Shown u × ((length (visited_in u) < (store_of u).capacities.visited) × (0 < length (pending_in u)))
    advance_needs u s h = (
      shown s,
      (
        subst (λ (t : Table). length t.store.visited < t.store.capacities.visited) (sym (seen s)) (visited_room w after more found e j.room),
        subst (λ (t : Table). 0 < length t.pending) (sym (seen s)) h,
      ),
    )

    pub pairs_need : (p : Pair) (u : List ℕ) → Midway u (table_of (visit p after) (before_last w))
        → Midway u (table u) × (length (pending_in u) + length (bounds_in (bounds_all u) v other) ≤ (store_of u).capacities.pending)
    unfolding visit with_visited
    pairs_need p u s =
        let k : length (before_last w) + more ≤ after.capacities.pending = (fits (visit p after) (length (before_last w) + more) (room_found w after more found e j.room p)).pending in (
          shown_as s,
          subst (λ (t : Table). length t.pending + length (bounds_in t.store.bounds v other) ≤ t.store.capacities.pending) (sym (seen s)) (omega (arith, j.counted)),
        )

  room_is : (p : Pair) (f : ℕ → Pair) → room_for (length (before_last w)) (goes (visit p after) (map f (bounds_in after.bounds v other))) ≡ room_in found
  unfolding room_for
  room_is p f =
      ap (λ (n : ℕ). fitting (visit p after) (length (before_last w) + n)) (length-map (bounds_in after.bounds v other) f ∙ j.counted) ∙ sym (j.room p)

  pub join_refused : (p : Pair) (f : ℕ → Pair) (x : Refusal) → found ≡ Err x → Takes w (goes (visit p after) (map f (bounds_in after.bounds v other))) (Err x) w
  join_refused p f x e = refused w (goes (visit p after) (map f (bounds_in after.bounds v other))) x (room_is p f ∙ ap room_in e)

  pub joined : (p : Pair) (f : ℕ → Pair) → found ≡ (Ok tt) → (u x : List ℕ) → Midway u (table_of (visit p after) (before_last w))
      → Shows x (pending_to u (pending_in u ++ reverse (map f (bounds_in (bounds_all u) v other)))) → Takes w (goes (visit p after) (map f (bounds_in after.bounds v other))) (Ok Went) x
  unfolding visit with_visited
  joined p f e u x su sx =
      let a : Shows x (table_of (visit p after) (before_last w ++ reverse (map f (bounds_in after.bounds v other)))) =
      subst (λ (t : Table). Shows x (table_of t.store (t.pending ++ reverse (map f (bounds_in t.store.bounds v other))))) (seen su) sx in
      went w (visit p after) x (map f (bounds_in after.bounds v other)) (room_is p f ∙ ap room_in e) a

-- the rule
join_outcome : (w : List ℕ) (p : Pair) (v side b : ℕ)
    → goes (visit p (with_bound w v side b)) (map (bound_pair (other_side side) b) (bounds_in (with_bound w v side b).bounds v (other_side side)))
    ≡ outcome_of (visit p (store_of w)) p (join_bounds (graph_in w) v side b)
unfolding outcome_of join_bounds changed_to with_graph visit with_visited with_bounds with_entries
join_outcome w p v side b = refl

module _ (w : List ℕ) (p : Pair) (v side b more : ℕ) (found : Result (Unit {0}) Refusal) (j : Joins w (with_bound w v side b) v (other_side side) more found) where
  pub bound_refused : (x : Refusal) → found ≡ Err x → Takes w (outcome_of (visit p (store_of w)) p (join_bounds (graph_in w) v side b)) (Err x) w
  bound_refused x e =
      subst (λ (o : Outcome Store Pair Failure). Takes w o (Err x) w) (join_outcome w p v side b)
      (join_refused w _ v (other_side side) more found j p (bound_pair (other_side side) b) x e)

  pub bound_joined : found ≡ (Ok tt) → (u x : List ℕ) → Midway u (table_of (visit p (with_bound w v side b)) (before_last w))
      → Shows x (pending_to u (pending_in u ++ reverse (map (bound_pair (other_side side) b) (bounds_in (bounds_all u) v (other_side side)))))
      → Takes w (outcome_of (visit p (store_of w)) p (join_bounds (graph_in w) v side b)) (Ok Went) x
  bound_joined e u x su sx =
      subst (λ (o : Outcome Store Pair Failure). Takes w o (Ok Went) x) (join_outcome w p v side b)
      (joined w _ v (other_side side) more found j p (bound_pair (other_side side) b) e u x su sx)
