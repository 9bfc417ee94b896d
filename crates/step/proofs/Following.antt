-- Consequences that need nothing made: put on pending last first, and the step that goes on with them. Assumes nothing.
use Rattle.std.specs.Prelude.{Err, Ok, Result}
use Prim.Native.Nat.{ℕ, ◌+◌, ◌≤◌, ◌<◌}
use native.Mathlib.Omega.{arith}
use mathlib.Core.Path.{◌≡◌, refl, sym, ap, subst, ◌∙◌}
use mathlib.Core.List.{List, [], ◌∷◌, ◌++◌, reverse, append-nil, append_assoc}
use lib.ListN.{length, length-append}
use Rattle.instalments.specs.Machine.{goes}
use Rattle.model.specs.Table.{Field, Pair, ◌⊑◌, Table, table_of, with_visited}
use Rattle.model.specs.Image.{table}
use Rattle.model.specs.Rules.{visit}
use Rattle.model.specs.Room.{fitting, room_for}
use Rattle.model.specs.declared.Attrset.{Attrset}
use Rattle.model.specs.declared.Refusal.{Refusal}
use Rattle.image.specs.Shown.{Shows, store_of, fields_in, pending_in, pending_to}
use Rattle.image.proofs.Laying.{seen, shown_as}
use Rattle.disjoint.specs.Fields.{Inside}
use Rattle.constrain.specs.Fields.{field_pairs}
use Rattle.constrain.specs.Next.{pairs_in, PairsRight}
use Rattle.constrain.specs.declared.Pairs.{Pairs}
use Rattle.constrain.specs.declared.Pairs.TheVariants.{Nothing, One, Two, Fields}
use Rattle.step.specs.Taken.{before_last, Midway, room_in, RoomFor}
use Rattle.step.specs.Put.{count_in}
use Rattle.step.specs.declared.Step.TheVariants.{Went}
use Rattle.step.proofs.Rooms.{fits, room_found}
use Rattle.step.proofs.Taking.{Takes, refused, went}

-- as many as are told
pub count_right : (fs : List Field) (ps : Pairs) → PairsRight fs ps → count_in ps ≡ length (pairs_in fs ps)
count_right fs Nothing h = refl
count_right fs (One a b) h = refl
count_right fs (Two a b c d) h = refl
count_right fs (Fields a b n) h = h.2

module _ (w : List ℕ) (ps : Pairs) where
  -- there is room for them
  abbrev pub Fitting : Type 0
  Fitting = length (pending_in w) + length (pairs_in (fields_in w) ps) ≤ (store_of w).capacities.pending

  -- they are put
  abbrev pub Put : List ℕ → Type 0
  Put v = Midway v (pending_to w (pending_in w ++ reverse (pairs_in (fields_in w) ps)))

  pub put_none : ps ≡ Nothing → Midway w (table w) → Put w
  put_none e s = subst (λ (l : List Pair). Midway w (pending_to w l)) (sym (ap (λ (x : Pairs). pending_in w ++ reverse (pairs_in (fields_in w) x)) e ∙ append-nil (pending_in w))) s

  module _ (a b : ℕ) (e : ps ≡ One a b) where
    pub one_fits : Fitting → length (pending_in w) < (store_of w).capacities.pending
    one_fits h =
        let n : length (pairs_in (fields_in w) ps) ≡ 1 = rw e in
        omega arith

    pub put_one : (v : List ℕ) → Midway v (pending_to w (pending_in w ++ ((a ⊑ b) ∷ []))) → Put v
    put_one v s = rw e s

  module _ (a b c d : ℕ) (e : ps ≡ Two a b c d) where
    pub two_fit : Fitting → length (pending_in w) < (store_of w).capacities.pending
    two_fit h =
        let n : length (pairs_in (fields_in w) ps) ≡ 2 = rw e in
        omega arith

    module _ (v : List ℕ) (s : Midway v (pending_to w (pending_in w ++ ((c ⊑ d) ∷ [])))) where
      pub second_fits : Fitting → Midway v (table v) × (length (pending_in v) < (store_of v).capacities.pending)
      second_fits h =
          let n : length (pairs_in (fields_in w) ps) ≡ 2 = rw e in
          let m : length (pending_in w ++ ((c ⊑ d) ∷ [])) ≡ length (pending_in w) + 1 = length-append (pending_in w) ((c ⊑ d) ∷ []) in
          let goal : length (pending_in w ++ ((c ⊑ d) ∷ [])) < (store_of w).capacities.pending = omega arith in
          (shown_as s, subst (λ (t : Table). length t.pending < t.store.capacities.pending) (sym (seen s)) goal)

      pub put_two : (u : List ℕ) → Midway u (pending_to v (pending_in v ++ ((a ⊑ b) ∷ []))) → Put u
      put_two u su =
          let k : Midway u (pending_to w ((pending_in w ++ ((c ⊑ d) ∷ [])) ++ ((a ⊑ b) ∷ []))) = subst (λ (t : Table). Midway u (table_of t.store (t.pending ++ ((a ⊑ b) ∷ [])))) (seen s) su in
          let q : (pending_in w ++ ((c ⊑ d) ∷ [])) ++ ((a ⊑ b) ∷ []) ≡ pending_in w ++ ((c ⊑ d) ∷ (a ⊑ b) ∷ []) = append_assoc (pending_in w) ((c ⊑ d) ∷ []) ((a ⊑ b) ∷ []) in
          let l : Midway u (pending_to w (pending_in w ++ ((c ⊑ d) ∷ (a ⊑ b) ∷ []))) = subst (λ (x : List Pair). Midway u (pending_to w x)) q k in
          rw e l

  module _ (a b : Attrset) (n : ℕ) (e : ps ≡ Fields a b n) where
    pub fields_fit : Midway w (table w) → PairsRight (fields_in w) ps → Fitting
        → Midway w (table w) × (Inside (fields_in w) a × (Inside (fields_in w) b × (length (pending_in w) + length (field_pairs (fields_in w) a b) ≤ (store_of w).capacities.pending)))
    fields_fit s r h =
        let k : PairsRight (fields_in w) (Fields a b n) = subst (PairsRight (fields_in w)) e r in
        let l : length (pairs_in (fields_in w) ps) ≡ length (field_pairs (fields_in w) a b) = rw e in
        (s, (k.0, (k.1, omega arith)))

    pub put_fields : (v : List ℕ) → Midway v (pending_to w (pending_in w ++ reverse (field_pairs (fields_in w) a b))) → Put v
    put_fields v s = rw e s

-- the step
module _ (w : List ℕ) (p : Pair) (ps : Pairs) (right : PairsRight (fields_in w) ps) (k : ℕ) (counted : k ≡ count_in ps) (found : Result (Unit {0}) Refusal) (room : RoomFor w (store_of w) k found) where
  abbrev follows : List Pair
  follows = pairs_in (fields_in w) ps

  many : k ≡ length follows
  many = counted ∙ count_right (fields_in w) ps right

  follow_room : room_for (length (before_last w)) (goes (visit p (store_of w)) follows) ≡ room_in found
  unfolding room_for
  follow_room = ap (λ (n : ℕ). fitting (visit p (store_of w)) (length (before_last w) + n)) (sym many) ∙ sym (room p)

  pub follow_refused : (r : Refusal) → found ≡ Err r → Takes w (goes (visit p (store_of w)) follows) (Err r) w
  follow_refused r e = refused w (goes (visit p (store_of w)) follows) r (follow_room ∙ ap room_in e)

  module _ (e : found ≡ (Ok tt)) (v : List ℕ) (s : Midway v (table_of (visit p (store_of w)) (before_last w))) where
    pub follow_needs : Midway v (table v) × (PairsRight (fields_in v) ps × (length (pending_in v) + length (pairs_in (fields_in v) ps) ≤ (store_of v).capacities.pending))
    unfolding visit with_visited
    follow_needs =
        let f = fits (visit p (store_of w)) (length (before_last w) + k) (room_found w (store_of w) k found e room p) in
        let goal : length (before_last w) + length follows ≤ (store_of w).capacities.pending = omega (arith, many, f.pending) in
        (shown_as s, (subst (λ (t : Table). PairsRight t.store.fields ps) (sym (seen s)) right, subst (λ (t : Table). length t.pending + length (pairs_in t.store.fields ps) ≤ t.store.capacities.pending) (sym (seen s)) goal))

    pub follow_went : (u : List ℕ) → Shows u (pending_to v (pending_in v ++ reverse (pairs_in (fields_in v) ps))) → Takes w (goes (visit p (store_of w)) follows) (Ok Went) u
    unfolding visit with_visited
    follow_went u su =
        let k : Shows u (table_of (visit p (store_of w)) (before_last w ++ reverse follows)) = subst (λ (t : Table). Shows u (table_of t.store (t.pending ++ reverse (pairs_in t.store.fields ps)))) (seen s) su in
        went w (visit p (store_of w)) u follows (follow_room ∙ ap room_in e) k
