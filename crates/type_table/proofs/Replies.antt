-- What a making replies, by the count of entries and the depth; how the depth is told by the last entry. Assumes nothing.
use Prim.Native.Nat.{ℕ, zero, suc, ◌≤◌, ◌<◌}
use native.Mathlib.Omega.{arith}
use mathlib.Core.Path.{◌≡◌, refl, ap}
use mathlib.Core.List.{List, [], ◌∷◌, ◌++◌}
use mathlib.Core.Bool.{Bool, true, false, cond, ◌||◌}
use mathlib.Core.Logic.{⊎_elim}
use lib.ListN.{length}
use lib.Dec.{ltb}
use borrow.Author.Tests.{lt-ltb, le-ltb, ltb-true, ltb-false}
use Rattle.model.specs.Lists.{any}
use Rattle.model.specs.Format.{entries_region, spread_most}
use Rattle.model.specs.Table.{Entry, Field, with_entries}
use Rattle.model.specs.Image.{words, table}
use Rattle.model.specs.Making.{Making, spread_at, spread_of, put_entry, make_neg, too_deep}
use Rattle.model.specs.Room.{first_lacking, deep_enough, fitting}
use Rattle.model.specs.Calls.{response_of, leave_by, leave_if_room, made_turn}
use Rattle.model.specs.Told.{done, refused}
use Rattle.laws.specs.Good.{EntriesGood, Shallow}
use Rattle.laws.specs.Growth.{EntriesKept}
use Rattle.laws.proofs.Entries.{lt_or_ge, more_length, more_old, more_last}
use Rattle.laws.proofs.StepSound.{none_deep}
use Rattle.laws.proofs.Negation.{Grown, neg_grown, neg_deep}
use Rattle.image.specs.Shown.{Within, store_of, entries_to}
use Rattle.type_table.specs.Made.{made_response}

module _ (w : List ℕ) (m : Making) where
  -- "5 before 6": no room, with every word as found
  pub made_full : (store_of w).capacities.entries < length m.after → made_response w m ≡ record { says = refused 5 (entries_region ∷ []); steps = 0; words = w }
  unfolding response_of made_turn leave_if_room leave_by fitting first_lacking deep_enough with_entries
  made_full h = rw (lt-ltb (store_of w).capacities.entries (length m.after) h)

  -- with room, by the depth
  made_by : (deep : Bool) → Within (table w) → length m.after ≤ (store_of w).capacities.entries → too_deep m.after ≡ deep
      → made_response w m ≡ cond deep (record { says = refused 6 []; steps = 0; words = w }) (record { says = done (m.number ∷ []); steps = 0; words = words (entries_to w m.after) })
  unfolding response_of made_turn leave_if_room leave_by fitting first_lacking deep_enough with_entries
  made_by true k h e =
      rw (le-ltb (store_of w).capacities.entries (length m.after) h, le-ltb _ _ k.held.fields, le-ltb _ _ k.held.bounds, le-ltb _ _ k.held.visited, le-ltb _ _ k.pending, le-ltb _ _ k.held.equals, e)
  made_by false k h e =
      rw (le-ltb (store_of w).capacities.entries (length m.after) h, le-ltb _ _ k.held.fields, le-ltb _ _ k.held.bounds, le-ltb _ _ k.held.visited, le-ltb _ _ k.pending, le-ltb _ _ k.held.equals, e)

  pub made_deep : Within (table w) → length m.after ≤ (store_of w).capacities.entries → too_deep m.after ≡ true
      → made_response w m ≡ record { says = refused 6 []; steps = 0; words = w }
  made_deep = made_by true

  pub made_done : Within (table w) → length m.after ≤ (store_of w).capacities.entries → too_deep m.after ≡ false
      → made_response w m ≡ record { says = done (m.number ∷ []); steps = 0; words = words (entries_to w m.after) }
  made_done = made_by false

-- how deep a list of entries is
pub some_deep : (es : List Entry) (i : ℕ) → i < length es → spread_most < spread_at es i → too_deep es ≡ true
unfolding too_deep any
some_deep [] i lt h = absurd (omega arith)
some_deep (e ∷ es) zero lt h = rw (lt-ltb spread_most e.spread h)
some_deep (e ∷ es) (suc i) lt h = rw (some_deep es i (omega arith) h) (or_true (ltb spread_most e.spread))
  where
    or_true : (b : Bool) → (b || true) ≡ true
    or_true true = refl
    or_true false = refl

-- all that is made lies under the entry answered
pub deep_by_last : (es : List Entry) (m : Making) → Shallow es → length es ≤ length m.after → EntriesKept es m.after → m.number < length m.after
    → ((i : ℕ) → length es ≤ i → i < length m.after → spread_at m.after i ≤ spread_at m.after m.number)
    → too_deep m.after ≡ ltb spread_most (spread_at m.after m.number)
deep_by_last es m s longer kept number deep = by (ltb spread_most (spread_at m.after m.number)) refl
  where
    by : (b : Bool) → ltb spread_most (spread_at m.after m.number) ≡ b → too_deep m.after ≡ b
    by true e = some_deep m.after m.number number (ltb-true spread_most (spread_at m.after m.number) e)
    by false e =
        none_deep m.after (λ i lt.
        ⊎_elim
        (λ (l : i < length es). rw (kept.kept i l).spread (s i l))
        (λ (l : length es ≤ i). omega (arith, deep i l lt, ltb-false spread_most (spread_at m.after m.number) e))
        (lt_or_ge i (length es)))

pub neg_too_deep : (es : List Entry) (fs : List Field) (names n : ℕ) → EntriesGood es fs names → Shallow es → n < length es
    → too_deep (make_neg es n).after ≡ ltb spread_most (spread_at (make_neg es n).after (make_neg es n).number)
neg_too_deep es fs names n g s h =
    let w : Grown es fs names n (make_neg es n) = neg_grown es fs names n g h in
    deep_by_last es (make_neg es n) s w.least w.kept w.number (neg_deep es fs names n g s h).deep

pub put_too_deep : (es : List Entry) (kind x y z flags : ℕ) → Shallow es → too_deep (put_entry es kind x y z flags).after ≡ ltb spread_most (spread_of es kind x y)
unfolding put_entry
put_too_deep es kind x y z flags s =
    let e : Entry = record { kind = kind; x = x; y = y; z = z; flags = flags; spread = spread_of es kind x y; negation = 0 } in
    by e (ltb spread_most e.spread) refl
  where
    by : (e : Entry) (b : Bool) → ltb spread_most e.spread ≡ b → too_deep (es ++ (e ∷ [])) ≡ b
    by e true h = some_deep (es ++ (e ∷ [])) (length es) (omega (arith, more_length es e)) (omega (arith, ap (λ (d : Entry). d.spread) (more_last es e), ltb-true spread_most e.spread h))
    by e false h =
        none_deep (es ++ (e ∷ [])) (λ i lt.
        ⊎_elim
        (λ (l : i < length es). omega (arith, ap (λ (d : Entry). d.spread) (more_old es (e ∷ []) i l), s i l))
        (λ (l : length es ≤ i). let q : i ≡ length es = omega (arith, more_length es e) in rw q (omega (arith, ap (λ (d : Entry). d.spread) (more_last es e), ltb-false spread_most e.spread h)))
        (lt_or_ge i (length es)))
