-- What putting a bound, entering and leaving a level tell, and the words they leave. Assumes nothing.
use Prim.Native.Nat.{ℕ, suc, ◌+◌, ◌-◌, ◌≤◌, ◌<◌}
use native.Mathlib.Omega.{arith}
use mathlib.Core.Path.{◌≡◌, sym, ap, ◌∙◌}
use mathlib.Core.List.{List, [], ◌∷◌, ◌++◌}
use mathlib.Core.Bool.{Bool, true, false}
use lib.ListN.{length, length-append}
use lib.Dec.{T, eqb}
use borrow.Author.Tests.{lt-ltb, le-ltb, le-leb, lt-leb, ne_eqb}
use Rattle.model.specs.Lists.{any}
use Rattle.model.specs.Format.{word_end, bounds_region, scan_most}
use Rattle.model.specs.Table.{Bound, with_bounds}
use Rattle.model.specs.Image.{words, table}
use Rattle.model.specs.Formed.{well_formed}
use Rattle.model.specs.Making.{bounds_in, repeats, add_bound}
use Rattle.model.specs.Room.{first_lacking, deep_enough, fitting}
use Rattle.model.specs.Calls.{Response, response_of, leave_by, leave_if_room, provided, at_level}
use Rattle.model.specs.Told.{Told, done, refused}
use Rattle.laws.proofs.Formed.{sound_table}
use Rattle.laws.proofs.StepSound.{fitting_enough}
use Rattle.image.specs.Shown.{Shows, store_of, bounds_all, pending_in, bounds_to, level_to}
use Rattle.image.proofs.Laying.{formed_shown}
use Rattle.storage.specs.Replies.{bound_response, enter_response, exit_response}

-- a reply told, and its words left
abbrev pub Replied : Response → Told → List ℕ → Type 0
Replied r says v = (says ≡ r.says) × (v ≡ r.words)

replied : (r q : Response) → r ≡ q → Replied r q.says q.words
replied r q e = (ap (λ (s : Response). s.says) (sym e), ap (λ (s : Response). s.words) (sym e))

-- the list is scanned while it is short
pub scanned : (l : List ℕ) (b n : ℕ) (r : Bool) → n ≡ length l → n ≤ scan_most → r ≡ any (eqb b) l → r ≡ repeats l b
unfolding repeats
scanned l b n r e h q = q ∙ sym (rw (le-leb (length l) scan_most (omega arith)))

pub not_scanned : (l : List ℕ) (b n : ℕ) → n ≡ length l → scan_most < n → false ≡ repeats l b
unfolding repeats
not_scanned l b n e h = sym (rw (lt-leb (length l) scan_most (omega arith)))

-- a bound put
module _ (w : List ℕ) (v side b : ℕ) (good : T (well_formed w)) where
  module _ (r : repeats (bounds_in (bounds_all w) v side) b ≡ true) where
    same_reply : bound_response w v side b ≡ record { says = done []; steps = 0; words = words (table w) }
    unfolding response_of leave_if_room leave_by add_bound with_bounds
    same_reply =
        let s = sound_table w good in
        rw (r, fitting_enough (store_of w) (length (pending_in w)) s.store.held s.pending.held s.store.shallow)

    pub bound_same : Replied (bound_response w v side b) (done []) w
    bound_same = let q = replied _ _ same_reply in (q.0, (formed_shown w good).is ∙ q.1)

  module _ (r : repeats (bounds_in (bounds_all w) v side) b ≡ false) (n room : ℕ) (e : n ≡ length (bounds_all w)) (m : room ≡ (store_of w).capacities.bounds) where
    abbrev more : List Bound
    more = bounds_all w ++ (record { variable = v; side = side; bound = b } ∷ [])

    full_reply : (store_of w).capacities.bounds < length (bounds_all w ++ (record { variable = v; side = side; bound = b } ∷ []))
        → bound_response w v side b ≡ record { says = refused 5 (bounds_region ∷ []); steps = 0; words = w }
    unfolding response_of leave_if_room leave_by add_bound fitting first_lacking deep_enough with_bounds
    full_reply h =
        let k = (formed_shown w good).within.held in
        rw (r, le-ltb _ _ k.entries, le-ltb _ _ k.fields, lt-ltb (store_of w).capacities.bounds (length more) h)

    more_length : length (bounds_all w ++ (record { variable = v; side = side; bound = b } ∷ [])) ≡ length (bounds_all w) + 1
    more_length = simp length-append

    pub bound_full : room ≤ n → Replied (bound_response w v side b) (refused 5 (bounds_region ∷ [])) w
    bound_full h = replied _ _ (full_reply (omega (arith, more_length)))

    done_reply : length (bounds_all w) < (store_of w).capacities.bounds → bound_response w v side b ≡ record { says = done []; steps = 0; words = words (bounds_to w more) }
    unfolding response_of leave_if_room leave_by add_bound with_bounds
    done_reply h =
        let s = sound_table w good in
        let k = s.store.held in
        rw (
          r,
          fitting_enough (with_bounds more (store_of w)) (length (pending_in w))
              (record { entries = k.entries; fields = k.fields; bounds = omega (arith, more_length); visited = k.visited; equals = k.equals }) s.pending.held s.store.shallow,
        )

    pub bound_done : n < room → (u : List ℕ) → Shows u (bounds_to w (bounds_all w ++ (record { variable = v; side = side; bound = b } ∷ []))) → Replied (bound_response w v side b) (done []) u
    bound_done h u su = let q = replied _ _ (done_reply (omega arith)) in (q.0, su.is ∙ q.1)

-- a level entered, and left
module _ (w : List ℕ) (l : ℕ) (e : l ≡ (store_of w).level) where
  enter_last : l ≡ 4294967295 → enter_response w ≡ record { says = refused 10 []; steps = 0; words = w }
  unfolding response_of provided
  enter_last h = rw (le-ltb (suc (store_of w).level) word_end (omega arith))

  pub enter_refused : l ≡ 4294967295 → Replied (enter_response w) (refused 10 []) w
  enter_refused h = replied _ _ (enter_last h)

  enter_reply : l < 4294967295 → enter_response w ≡ record { says = done []; steps = 0; words = words (level_to w (l + 1)) }
  unfolding response_of provided at_level
  enter_reply h =
      let q : suc (store_of w).level ≡ l + 1 = omega arith in
      rw (lt-ltb (suc (store_of w).level) word_end (omega arith), q)

  pub entered : l < 4294967295 → (u : List ℕ) → Shows u (level_to w (l + 1)) → Replied (enter_response w) (done []) u
  entered h u su = let q = replied _ _ (enter_reply h) in (q.0, su.is ∙ q.1)

  exit_first : l ≡ 0 → exit_response w ≡ record { says = refused 10 []; steps = 0; words = w }
  unfolding response_of provided
  exit_first h = let z : (store_of w).level ≡ 0 = omega arith in rw z

  pub exit_refused : l ≡ 0 → Replied (exit_response w) (refused 10 []) w
  exit_refused h = replied _ _ (exit_first h)

  exit_reply : 0 < l → exit_response w ≡ record { says = done []; steps = 0; words = words (level_to w (l - 1)) }
  unfolding response_of provided at_level
  exit_reply h =
      let z : eqb (store_of w).level 0 ≡ false = ne_eqb (store_of w).level 0 (λ q. omega arith) in
      rw (z, ← e)

  pub exited : 0 < l → (u : List ℕ) → Shows u (level_to w (l - 1)) → Replied (exit_response w) (done []) u
  exited h u su = let q = replied _ _ (exit_reply h) in (q.0, su.is ∙ q.1)
