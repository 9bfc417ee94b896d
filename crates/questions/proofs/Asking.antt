-- A question by its refusals, one after the other; then the room for what it opens. Assumes nothing.
use Rattle.std.specs.Prelude.{Err, Ok, Result}
use Prim.Native.Nat.{ℕ, ◌+◌, ◌≤◌, ◌<◌}
use native.Mathlib.Omega.{arith}
use mathlib.Core.Path.{◌≡◌, refl, sym, ap, subst, ◌∙◌}
use mathlib.Core.List.{List, [], ◌∷◌, ◌++◌, append_assoc}
use mathlib.Core.Bool.{Bool, true, false, not, ◌&&◌, and-false}
use lib.ListN.{length, length-append}
use lib.Dec.{T, eqb}
use borrow.Author.Tests.{lt-ltb, le-ltb}
use Rattle.instalments.specs.Machine.{enough, lacks}
use Rattle.model.specs.Format.{idle, pending_region, equals_region}
use Rattle.model.specs.Table.{Pair, ◌⊑◌, Store, Table, table_of, state_of, is_asked, is_broken, with_equals}
use Rattle.model.specs.Image.{words, table}
use Rattle.model.specs.Formed.{well_formed, is_entry}
use Rattle.model.specs.Room.{first_lacking, deep_enough, fitting}
use Rattle.model.specs.Calls.{Response, Turn, refuse, leave, response_of, provided, when_asked, leave_by, leave_if_room, is_recorded, recorded, pairs_of, opened, broken_by, ask_turn, abandon_turn, work_turn}
use Rattle.model.specs.Told.{done, told_refusal}
use Rattle.model.specs.declared.Question.{Question}
use Rattle.model.specs.declared.Refusal.{Refusal}
use Rattle.model.specs.declared.Refusal.TheVariants.{BadNumber, Busy, Idle, Broken, NoRoom}
use Rattle.laws.specs.Good.{SoundStore}
use Rattle.laws.proofs.Tests.{no_test}
use Rattle.laws.proofs.Replies.{refused_by, passed_by}
use Rattle.laws.proofs.Stores.{by_test}
use Rattle.laws.proofs.Formed.{sound_table}
use Rattle.laws.proofs.StepSound.{fitting_enough}
use Rattle.image.proofs.Laying.{seen, shown}
use Rattle.writes.proofs.Pending.{while_idle}
use Rattle.questions.specs.Asking.{Roomy, Fitness, worked}
use Rattle.image.specs.Shown.{Shows, ShowsAs, ShownAs, store_of, entries_of, pending_in, pending_to, equals_to}

-- idle: nothing is pending
idle_empty : (w : List ℕ) → is_asked (table w) ≡ false → pending_in w ≡ []
unfolding is_asked state_of
idle_empty w e = by (pending_in w) e
  where
    by : (l : List Pair) → not (eqb (state_of l) idle) ≡ false → l ≡ []
    by [] z = refl
    by (p ∷ l) z = absurd (no_test true z tt)

-- asked: something is
pub asked_some : (w : List ℕ) → is_asked (table w) ≡ true → 0 < length (pending_in w)
unfolding is_asked state_of
asked_some w e = by (pending_in w) e
  where
    by : (l : List Pair) → not (eqb (state_of l) idle) ≡ true → 0 < length l
    by [] z = absurd (no_test true (sym z) tt)
    by (p ∷ l) z = omega arith

-- the test in code
pub is_broken_lem : (held t : Bool) (kind : ℕ) (s : Store) → kind ≡ s.broken.kind → (held && not (eqb kind 0)) ≡ t → (held && is_broken s) ≡ t
unfolding is_broken
is_broken_lem held t kind s k e = subst (λ (n : ℕ). (held && not (eqb n 0)) ≡ t) k e

module _ (w : List ℕ) (q : Question) where
  -- 3
  pub asked_already : is_asked (table w) ≡ true → ask_turn q (table w) ≡ refuse Busy
  unfolding ask_turn provided
  asked_already e = rw e

  module _ (i : is_asked (table w) ≡ false) where
    -- 8
    pub held_broken : (q.held && is_broken (store_of w)) ≡ true → (kind sub sup name : ℕ) → kind ≡ (store_of w).broken.kind → sub ≡ (store_of w).broken.sub
        → sup ≡ (store_of w).broken.sup → name ≡ (store_of w).broken.name → ask_turn q (table w) ≡ refuse (Broken kind sub sup name)
    unfolding ask_turn provided broken_by
    held_broken e kind sub sup name k l m n = rw (i, e, k, l, m, n)

    module _ (u : (q.held && is_broken (store_of w)) ≡ false) where
      -- 2
      pub no_first : length (entries_of w) ≤ q.left → ask_turn q (table w) ≡ refuse BadNumber
      unfolding ask_turn provided is_entry
      no_first h = rw (i, u, le-ltb q.left (length (entries_of w)) h)

      pub no_second : length (entries_of w) ≤ q.right → ask_turn q (table w) ≡ refuse BadNumber
      unfolding ask_turn provided is_entry
      no_second h = rw (i, u, le-ltb q.right (length (entries_of w)) h, and-false)

      -- 5, or what it opens
      pub fit : q.left < length (entries_of w) → q.right < length (entries_of w) → (x : Result (Unit {0}) Refusal) → Roomy w q x → Fitness w q x
      unfolding ask_turn provided is_entry leave_if_room leave_by opened
      fit h k (Err r) e = rw (i, u, lt-ltb q.left (length (entries_of w)) h, lt-ltb q.right (length (entries_of w)) k, e)
      fit h k (Ok tt) e =
          (e.0, idle_empty w i, rw (i, u, lt-ltb q.left (length (entries_of w)) h, lt-ltb q.right (length (entries_of w)) k, e.1))

-- a reply where a call is refused
pub refused_so : (w : List ℕ) (turn : Turn) (r : Refusal) → turn ≡ refuse r → (told_refusal r ≡ (response_of w turn).says) × (w ≡ (response_of w turn).words)
unfolding response_of
refused_so w turn r e =
    let q : response_of w (refuse r) ≡ response_of w turn = ap (response_of w) (sym e) in
    (ap (λ (x : Response). x.says) q, ap (λ (x : Response). x.words) q)

-- and where it leaves a table
pub left_so : (w v : List ℕ) (turn : Turn) (t : Table) → turn ≡ leave (done []) 0 t → v ≡ words t → (done [] ≡ (response_of w turn).says) × (v ≡ (response_of w turn).words)
unfolding response_of
left_so w v turn t e g =
    let q : response_of w (leave (done []) 0 t) ≡ response_of w turn = ap (response_of w) (sym e) in
    (ap (λ (x : Response). x.says) q, g ∙ ap (λ (x : Response). x.words) q)

-- "work or abandon while idle"
pub idle_so : (w : List ℕ) (turn : Turn) → is_asked (table w) ≡ false → when_asked (table w) turn ≡ refuse Idle
idle_so w turn = refused_by (is_asked (table w)) Idle turn

pub asked_so : (w : List ℕ) (turn : Turn) → is_asked (table w) ≡ true → when_asked (table w) turn ≡ turn
asked_so w turn = passed_by (is_asked (table w)) Idle turn

pub abandoned : (w v : List ℕ) → is_asked (table w) ≡ true → v ≡ words (table_of (store_of w) [])
    → (done [] ≡ (response_of w (abandon_turn (table w))).says) × (v ≡ (response_of w (abandon_turn (table w))).words)
unfolding response_of abandon_turn
abandoned w v e f =
    let q : response_of w (leave (done []) 0 (table_of (store_of w) [])) ≡ response_of w (abandon_turn (table w)) = ap (response_of w) (sym (asked_so w (leave (done []) 0 (table_of (store_of w) [])) e)) in
    (ap (λ (x : Response). x.says) q, f ∙ ap (λ (x : Response). x.words) q)

pub work_idle : (w : List ℕ) (budget : ℕ) → is_asked (table w) ≡ false
    → (told_refusal Idle ≡ (response_of w (work_turn budget (table w))).says)
    × ((0 ≡ (response_of w (work_turn budget (table w))).steps) × (w ≡ (response_of w (work_turn budget (table w))).words))
unfolding response_of work_turn
work_idle w budget e =
    let q : response_of w (refuse Idle) ≡ response_of w (work_turn budget (table w)) = ap (response_of w) (sym (idle_so w _ e)) in
    (ap (λ (x : Response). x.says) q, (ap (λ (x : Response). x.steps) q, ap (λ (x : Response). x.words) q))

pub work_asked : (w : List ℕ) (budget : ℕ) → is_asked (table w) ≡ true → worked w budget ≡ response_of w (work_turn budget (table w))
unfolding worked work_turn
work_asked w budget e = ap (response_of w) (sym (asked_so w _ e))

-- the room for what a question opens, region by region
module _ (w : List ℕ) (h : T (well_formed w)) (q : Question) where
  sound : SoundStore (store_of w)
  sound = (sound_table w h).store

  abbrev s : Store
  s = store_of w

  lacks_pending : s.capacities.pending < length (pairs_of q) → (ps : List Pair) → fitting (with_equals ps s) (length (pairs_of q)) ≡ lacks (NoRoom pending_region)
  unfolding fitting first_lacking deep_enough with_equals
  lacks_pending l ps =
      let e = sound.held in
      rw (le-ltb _ _ e.entries, le-ltb _ _ e.fields, le-ltb _ _ e.bounds, le-ltb _ _ e.visited, lt-ltb _ _ l)

  pub no_pending : s.capacities.pending < length (pairs_of q) → Roomy w q (Err (NoRoom pending_region))
  unfolding recorded with_equals
  no_pending l =
      by_test (λ (u : Store). fitting u (length (pairs_of q)) ≡ lacks (NoRoom pending_region)) (is_recorded q) (λ k. lacks_pending l _) (λ k. lacks_pending l s.equals)

  module _ (p : length (pairs_of q) ≤ s.capacities.pending) where
    pub no_equals : is_recorded q ≡ true → s.capacities.equals ≤ length s.equals → Roomy w q (Err (NoRoom equals_region))
    unfolding fitting first_lacking deep_enough recorded with_equals
    no_equals r l =
        let e = sound.held in
        let more : s.capacities.equals < length (s.equals ++ ((q.left ⊑ q.right) ∷ [])) = simp length-append (omega arith) in
        rw (r, le-ltb _ _ e.entries, le-ltb _ _ e.fields, le-ltb _ _ e.bounds, le-ltb _ _ e.visited, le-ltb _ _ p, lt-ltb _ _ more)

    pub room_plain : is_recorded q ≡ false → Roomy w q (Ok tt)
    unfolding recorded
    room_plain e = rw e (record { pairs = p; equals = rw e sound.held.equals }, fitting_enough s (length (pairs_of q)) sound.held p sound.shallow)

    pub room_one : is_recorded q ≡ true → length s.equals < s.capacities.equals → Roomy w q (Ok tt)
    unfolding recorded with_equals
    room_one e l =
        let k = sound.held in
        let u : Store = with_equals (s.equals ++ ((q.left ⊑ q.right) ∷ [])) s in
        let more : length (s.equals ++ ((q.left ⊑ q.right) ∷ [])) ≤ s.capacities.equals = simp length-append (omega arith) in
        let enough-room : fitting u (length (pairs_of q)) ≡ enough
        = fitting_enough u (length (pairs_of q)) (record { entries = k.entries; fields = k.fields; bounds = k.bounds; visited = k.visited; equals = more }) p sound.shallow in
        rw e (record { pairs = p; equals = rw e more }, enough-room)

-- what records a question
module _ (w : List ℕ) (q : Question) where
  pub none_recorded : is_recorded q ≡ false → Shows w (table w) → Shows w (table_of (recorded q (store_of w)) (pending_in w))
  unfolding recorded
  none_recorded e s = rw e s

  pub one_fits : is_recorded q ≡ true → length (recorded q (store_of w)).equals ≤ (store_of w).capacities.equals
      → length (store_of w).equals < (store_of w).capacities.equals
  unfolding recorded with_equals
  one_fits e h =
      let l : length ((store_of w).equals ++ ((q.left ⊑ q.right) ∷ [])) ≤ (store_of w).capacities.equals = rw e at h in
      let k = length-append (store_of w).equals ((q.left ⊑ q.right) ∷ []) in
      omega arith

  pub one_recorded : (v : List ℕ) → is_recorded q ≡ true → Shows v (equals_to w ((store_of w).equals ++ ((q.left ⊑ q.right) ∷ [])))
      → Shows v (table_of (recorded q (store_of w)) (pending_in w))
  unfolding recorded
  one_recorded v e s = rw e s

-- what puts its pairs
module _ (q : Question) where
  one_way : q.equal ≡ false → pairs_of q ≡ (q.left ⊑ q.right) ∷ []
  unfolding pairs_of
  one_way e = rw e

  two_ways : q.equal ≡ true → pairs_of q ≡ (q.right ⊑ q.left) ∷ (q.left ⊑ q.right) ∷ []
  unfolding pairs_of
  two_ways e = rw e

  module _ (w : List ℕ) (room : length (pending_in w) + length (pairs_of q) ≤ (store_of w).capacities.pending) where
    pub one_pair_fits : q.equal ≡ false → length (pending_in w) < (store_of w).capacities.pending
    one_pair_fits e = omega (arith, ap length (one_way e))

    pub first_fits : q.equal ≡ true → length (pending_in w) < (store_of w).capacities.pending
    first_fits e = omega (arith, ap length (two_ways e))

    module _ (v : List ℕ) (put : ShowsAs idle v (pending_to w (pending_in w ++ ((q.right ⊑ q.left) ∷ [])))) where
      pub second_fits : q.equal ≡ true → length (pending_in v) < (store_of v).capacities.pending
      second_fits e =
          let k : length (pending_in w ++ ((q.right ⊑ q.left) ∷ [])) < (store_of w).capacities.pending = simp length-append (omega (arith, ap length (two_ways e))) in
          subst (λ (t : Table). length t.pending < t.store.capacities.pending) (sym (seen put)) k

      pub two_put : (x : List ℕ) → q.equal ≡ true → ShowsAs idle x (pending_to v (pending_in v ++ ((q.left ⊑ q.right) ∷ []))) → ShowsAs idle x (pending_to w (pending_in w ++ pairs_of q))
      two_put x e s =
          let a : (pending_in w ++ ((q.right ⊑ q.left) ∷ [])) ++ ((q.left ⊑ q.right) ∷ []) ≡ pending_in w ++ pairs_of q
          = append_assoc (pending_in w) _ _ ∙ ap (λ (l : List Pair). pending_in w ++ l) (sym (two_ways e)) in
          let k = subst (λ (t : Table). ShowsAs idle x (table_of t.store (t.pending ++ ((q.left ⊑ q.right) ∷ [])))) (seen put) s in
          subst (λ (l : List Pair). ShowsAs idle x (pending_to w l)) a k

  pub one_put : (w v : List ℕ) → q.equal ≡ false → ShowsAs idle v (pending_to w (pending_in w ++ ((q.left ⊑ q.right) ∷ []))) → ShowsAs idle v (pending_to w (pending_in w ++ pairs_of q))
  one_put w v e s = rw (one_way e) s

  pub some_put : (w : List ℕ) {v : List ℕ} → ShowsAs idle v (pending_to w (pending_in w ++ pairs_of q)) → 0 < length (pending_in v)
  unfolding pairs_of
  some_put w put =
      let some : 0 < length (pairs_of q) = by_test (λ (l : List Pair). 0 < length l) q.equal (λ h. omega arith) (λ h. omega arith) in
      omega (arith, ap (λ (t : Table). length t.pending) (seen put), length-append (pending_in w) (pairs_of q), some)

  -- both, one after the other
  module _ (w v : List ℕ) (none : pending_in w ≡ []) (s : Shows v (table_of (recorded q (store_of w)) (pending_in w))) where
    recorded_seen : table v ≡ table_of (recorded q (store_of w)) []
    recorded_seen = seen s ∙ ap (λ (l : List Pair). table_of (recorded q (store_of w)) l) none

    pub still_idle : ShownAs idle v
    still_idle = while_idle (shown s) (omega (arith, ap (λ (t : Table). length t.pending) recorded_seen))

    pub pairs_fit : length (pairs_of q) ≤ (store_of w).capacities.pending → length (pending_in v) + length (pairs_of q) ≤ (store_of v).capacities.pending
    unfolding recorded with_equals
    pairs_fit l =
        let m : 0 + length (pairs_of q) ≤ (store_of w).capacities.pending = omega arith in
        let k : 0 + length (pairs_of q) ≤ (recorded q (store_of w)).capacities.pending = by_test (λ (u : Store). 0 + length (pairs_of q) ≤ u.capacities.pending) (is_recorded q) (λ h. m) (λ h. m) in
        subst (λ (t : Table). length t.pending + length (pairs_of q) ≤ t.store.capacities.pending) (sym recorded_seen) k

    pub question_open : (x : List ℕ) → Shows x (pending_to v (pending_in v ++ pairs_of q)) → x ≡ words (opened q (store_of w))
    unfolding opened
    question_open x p = p.is ∙ ap (λ (t : Table). words (table_of t.store (t.pending ++ pairs_of q))) recorded_seen
