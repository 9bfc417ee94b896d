-- Steps that make entries: how deep these go, what a step comes to that has made them, and that undoing gives the words found. Assumes nothing.
use Rattle.std.specs.Prelude.{Ok, Err, Result}
use Prim.Native.Nat.{ℕ, ◌+◌, ◌-◌, ◌≤◌, ◌<◌}
use native.Mathlib.Omega.{arith}
use mathlib.Core.Path.{◌≡◌, refl, sym, ap, subst, ◌∙◌}
use mathlib.Core.List.{List, [], ◌∷◌, ◌++◌}
use mathlib.Core.Logic.{⊎_elim}
use mathlib.Core.Bool.{Bool, true, false, cond}
use lib.ListN.{length, take, length-append}
use lib.Seq.{get_or-take, length-take-le}
use lib.Dec.{T}
use borrow.Author.Tests.{lt-ltb, le-ltb}
use Rattle.instalments.specs.Machine.{goes, Room, lacks, enough}
use Rattle.model.specs.Format.{spread_most, entries_region, visited_region}
use Rattle.model.specs.Table.{Entry, Pair, Table, table_of, no_entry, with_entries, with_visited}
use Rattle.model.specs.Image.{words, table}
use Rattle.model.specs.Formed.{well_formed}
use Rattle.model.specs.Making.{spread_at, too_deep, undone}
use Rattle.model.specs.Rules.{visit}
use Rattle.model.specs.Room.{first_lacking, deep_enough, fitting, room_for}
use Rattle.model.specs.declared.Refusal.{Refusal}
use Rattle.model.specs.declared.Refusal.TheVariants.{NoRoom, TooDeep}
use Rattle.laws.specs.Good.{Shallow}
use Rattle.laws.specs.Growth.{EntriesKept}
use Rattle.laws.proofs.Entries.{lt_or_ge}
use Rattle.laws.proofs.StepSound.{none_deep}
use Rattle.laws.proofs.Formed.{sound_table}
use Rattle.image.specs.Shown.{Shows, Shown, Within, store_of, entries_of, visited_in, pending_in, entries_to, pending_to}
use Rattle.image.proofs.Laying.{formed_shown, seen, shown, shown_as}
use Rattle.type_table.specs.Made.{entries_in}
use Rattle.type_table.proofs.Replies.{some_deep}
use Rattle.step.specs.Taken.{Taken, taken_by, taken, before_last, Midway}
use Rattle.step.specs.Made.{settled}
use Rattle.step.specs.declared.Step.{Step}
use Rattle.step.specs.declared.Step.TheVariants.{Went}

-- the entries before i are not too deep
abbrev pub ShallowTo : ℕ → List Entry → Type 0
ShallowTo i es = (j : ℕ) → j < i → spread_at es j ≤ spread_most

pub shallow_old : (es : List Entry) (old : ℕ) → old ≤ length es → Shallow (take old es) → ShallowTo old es
shallow_old es old le h j lt =
    omega (arith, h j (omega (arith, length-take-le old es le)), ap (λ (d : Entry). d.spread) (get_or-take old es j no_entry lt))

pub shallow_next : (es : List Entry) (i x : ℕ) → ShallowTo i es → x ≡ spread_at es i → x ≤ spread_most → ShallowTo (i + 1) es
shallow_next es i x h e le j lt =
    ⊎_elim
    (λ (a : j < i). h j a)
    (λ (a : i ≤ j). let q : j ≡ i = omega arith in rw (q, ← e) le)
    (lt_or_ge j i)

pub deep_none : (es : List Entry) (i : ℕ) → ShallowTo i es → length es ≤ i → too_deep es ≡ false
deep_none es i h le = none_deep es (λ j lt. h j (omega arith))

pub deep_hit : (es : List Entry) (i n x : ℕ) → n ≡ length es → i < n → x ≡ spread_at es i → spread_most < x → too_deep es ≡ true
deep_hit es i n x e lt f h = some_deep es i (omega arith) (omega arith)

-- a step answers and leaves what it gives to
abbrev pub Gives : Taken → Result Step Refusal → List ℕ → Type 0
Gives t r v = (r ≡ t.says) × (v ≡ t.words)

pub gives : (t : Taken) (r : Result Step Refusal) (v : List ℕ) → t ≡ record { says = r; words = v } → Gives t r v
gives t r v e = (ap (λ (x : Taken). x.says) (sym e), ap (λ (x : Taken). x.words) (sym e))

-- what `settled` is, by the table
abbrev settled_in : Table → List Pair → ℕ → Pair → Pair → Taken
settled_in t before old p q =
    taken_by (fitting (visit p t.store) (length before + 1)) (words (entries_in t (undone old t.store.entries))) before (goes (visit p t.store) (q ∷ []))

module _ (t : Table) (before : List Pair) (old : ℕ) (p q : Pair) (k : Within t) (room : length before + 1 ≤ t.store.capacities.pending) where
  settled_full : t.store.capacities.visited ≤ length t.store.visited
      → settled_in t before old p q ≡ record { says = Err (NoRoom visited_region); words = words (entries_in t (undone old t.store.entries)) }
  unfolding taken_by fitting first_lacking deep_enough visit with_visited
  settled_full h =
      let n : length (t.store.visited ++ (p ∷ [])) ≡ length t.store.visited + 1 = length-append t.store.visited (p ∷ []) in
      rw (le-ltb _ _ k.held.entries, le-ltb _ _ k.held.fields, le-ltb _ _ k.held.bounds, lt-ltb t.store.capacities.visited (length (t.store.visited ++ (p ∷ []))) (omega arith))

  module _ (h : length t.store.visited < t.store.capacities.visited) where
    fits : length (t.store.visited ++ (p ∷ [])) ≤ t.store.capacities.visited
    fits = omega (arith, length-append t.store.visited (p ∷ []))

    fitted : fitting (visit p t.store) (length before + 1) ≡ cond (too_deep t.store.entries) (lacks TooDeep) enough
    unfolding fitting first_lacking deep_enough visit with_visited
    fitted =
        rw (le-ltb _ _ k.held.entries, le-ltb _ _ k.held.fields, le-ltb _ _ k.held.bounds, le-ltb t.store.capacities.visited (length (t.store.visited ++ (p ∷ []))) fits, le-ltb _ _ room, le-ltb _ _ k.held.equals)

    by_room : (r : Room Refusal) → cond (too_deep t.store.entries) (lacks TooDeep) enough ≡ r
        → settled_in t before old p q ≡ taken_by r (words (entries_in t (undone old t.store.entries))) before (goes (visit p t.store) (q ∷ []))
    by_room r e = ap (λ (x : Room Refusal). taken_by x (words (entries_in t (undone old t.store.entries))) before (goes (visit p t.store) (q ∷ []))) (fitted ∙ e)

    settled_deep : too_deep t.store.entries ≡ true
        → settled_in t before old p q ≡ record { says = Err TooDeep; words = words (entries_in t (undone old t.store.entries)) }
    unfolding taken_by
    settled_deep e = by_room (lacks TooDeep) (rw e)

    settled_well : too_deep t.store.entries ≡ false
        → settled_in t before old p q ≡ record { says = Ok Went; words = words (table_of (visit p t.store) (before ++ (q ∷ []))) }
    unfolding taken_by
    settled_well e = by_room enough (rw e)

-- the pair that is taken off makes room for one
module _ (w : List ℕ) (s : Shown w) (some : 0 < length (pending_in w)) where
  room : length (before_last w) + 1 ≤ (store_of w).capacities.pending
  room = omega (arith, length-take-le (length (pending_in w) - 1) (pending_in w) (omega arith), s.within.pending)

  pub settle_push : (p : Pair) (v : List ℕ) → Midway v (table_of (visit p (store_of w)) (before_last w)) → Midway v (table v) × (length (pending_in v) < (store_of v).capacities.pending)
  unfolding visit with_visited
  settle_push p v sv = (shown_as sv, omega (arith, ap (λ (t : Table). length t.pending) (seen sv), ap (λ (t : Table). t.store.capacities.pending) (seen sv), room))

-- the way that settle goes, with words w
module _ (w : List ℕ) (old : ℕ) (p q : Pair) (s : Shown w) (some : 0 < length (pending_in w)) where
  same : settled w old p q ≡ settled_in (table w) (before_last w) old p q
  unfolding room_for
  same = refl

  pub settle_full : (number cap : ℕ) → number ≡ length (visited_in w) → cap ≡ (store_of w).capacities.visited → cap ≤ number
      → (u : List ℕ) → Shows u (entries_to w (undone old (entries_of w))) → Gives (settled w old p q) (Err (NoRoom visited_region)) u
  settle_full number cap n c h u su =
      gives _ _ u (same ∙ settled_full (table w) (before_last w) old p q s.within (room w s some) (omega arith) ∙ ap (λ (x : List ℕ). record { says = Err (NoRoom visited_region); words = x }) (sym su.is))

  module _ (number cap : ℕ) (n : number ≡ length (visited_in w)) (c : cap ≡ (store_of w).capacities.visited) (h : number < cap) where
    pub settle_deep : (deep : Bool) → deep ≡ too_deep (entries_of w) → deep ≡ true
        → (u : List ℕ) → Shows u (entries_to w (undone old (entries_of w))) → Gives (settled w old p q) (Err TooDeep) u
    settle_deep deep e d u su =
        gives _ _ u (same ∙ settled_deep (table w) (before_last w) old p q s.within (room w s some) (omega arith) (sym e ∙ d) ∙ ap (λ (x : List ℕ). record { says = Err TooDeep; words = x }) (sym su.is))

    pub settle_went : (deep : Bool) → deep ≡ too_deep (entries_of w) → deep ≡ false
        → (v : List ℕ) → Midway v (table_of (visit p (store_of w)) (before_last w)) → (u : List ℕ) → Shows u (pending_to v (pending_in v ++ (q ∷ []))) → Gives (settled w old p q) (Ok Went) u
    settle_went deep e d v sv u su =
        let a : Shows u (table_of (visit p (store_of w)) (before_last w ++ (q ∷ []))) = subst (λ (t : Table). Shows u (table_of t.store (t.pending ++ (q ∷ [])))) (seen sv) su in
        gives _ _ u (same ∙ settled_well (table w) (before_last w) old p q s.within (room w s some) (omega arith) (sym e ∙ d) ∙ ap (λ (x : List ℕ). record { says = Ok Went; words = x }) (sym a.is))

-- entries us were made in a well formed image w
module _ (w : List ℕ) (good : T (well_formed w)) (us : List Entry) (p : Pair) where
  -- "5 before 6": there is no room for them, with every word as found
  pub made_none : (q : Pair) → (store_of w).capacities.entries < length us
      → taken w (goes (visit p (with_entries us (store_of w))) (q ∷ [])) ≡ record { says = Err (NoRoom entries_region); words = w }
  unfolding taken_by room_for fitting first_lacking deep_enough visit with_visited with_entries
  made_none q h = rw (lt-ltb (store_of w).capacities.entries (length us) h)

  module _ (v : List ℕ) (old : ℕ) (sv : Shows v (entries_to w us)) (e : old ≡ length (entries_of w)) where
    -- what settle asks
    pub made_settles : EntriesKept (entries_of w) us → 0 < length (pending_in w)
        → Shown v × ((0 < length (pending_in v)) × ((old ≤ length (entries_of v)) × Shallow (take old (entries_of v))))
    unfolding with_entries
    made_settles kept some =
        let t : table v ≡ entries_to w us = seen sv in
        let es : entries_of v ≡ us = ap (λ (u : Table). u.store.entries) t in
        let le : old ≤ length us = omega (arith, kept.longer) in
        let size : length (take old us) ≡ old = length-take-le old us le in
        let low : Shallow (take old us) = λ i lt.
        omega (arith, ap (λ (d : Entry). d.spread) (get_or-take old us i no_entry (omega arith)), (kept.kept i (omega arith)).spread, (sound_table w good).store.shallow i (omega arith)) in
        (shown sv, (omega (arith, ap (λ (u : Table). length u.pending) t), (rw es le, rw es low)))

    -- what it gives to
    pub made_settled : (q : Pair) → undone (length (entries_of w)) us ≡ entries_of w
        → settled v old p q ≡ taken w (goes (visit p (with_entries us (store_of w))) (q ∷ []))
    unfolding with_entries room_for
    made_settled q back =
        let t : table v ≡ entries_to w us = seen sv in
        let b : undone old us ≡ entries_of w = ap (λ (k : ℕ). undone k us) e ∙ back in
        let o = goes (visit p (with_entries us (store_of w))) (q ∷ []) in
        let x : words (entries_in (entries_to w us) (undone old us)) ≡ w = ap (λ (l : List Entry). words (entries_in (table w) l)) b ∙ sym (formed_shown w good).is in
        ap (λ (u : Table). settled_in u (take (length u.pending - 1) u.pending) old p q) t ∙ ap (λ (l : List ℕ). taken_by (room_for (length (before_last w)) o) l (before_last w) o) x
