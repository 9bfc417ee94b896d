-- What making an entry comes to, at each way out of the code. Assumes nothing.
use Rattle.std.specs.Prelude.{None, Some}
use Prim.Native.Nat.{ℕ, suc, ◌+◌, ◌≤◌, ◌<◌}
use native.Mathlib.Omega.{arith}
use mathlib.Core.Path.{◌≡◌, refl, sym, ap, subst, ◌∙◌}
use mathlib.Core.List.{List, [], ◌∷◌, ◌++◌}
use lib.ListN.{length}
use lib.Dec.{T}
use borrow.Author.Tests.{le-leb, lt-leb, lt-ltb, le-ltb}
use Rattle.model.specs.Format.{spread_most, attrset, neg, entries_region}
use Rattle.model.specs.Table.{Entry, Table, with_entries}
use Rattle.model.specs.Image.{words, table}
use Rattle.model.specs.Formed.{well_formed}
use Rattle.model.specs.Making.{Making, spread_at, spread_of, put_entry, new_entry, changed, with_negation}
use Rattle.model.specs.Calls.{Response}
use Rattle.model.specs.Told.{Told, done, refused}
use Rattle.laws.proofs.Entries.{more_length}
use Rattle.laws.proofs.NewEntries.{new_length}
use Rattle.laws.proofs.Formed.{sound_table}
use Rattle.image.specs.Shown.{Shows, Shown, store_of, entries_of, entries_to}
use Rattle.image.specs.Records.{entry_made}
use Rattle.image.proofs.Laying.{formed_shown, seen}
use Rattle.type_table.specs.Made.{made_response, entries_in, Added}
use Rattle.type_table.proofs.Replies.{made_full, made_deep, made_done, put_too_deep}

-- the spread by the kind
module _ (es : List Entry) (kind x y : ℕ) where
  pub spread_none : kind ≤ attrset → spread_of es kind x y ≡ 1
  unfolding spread_of
  spread_none h = rw (le-leb kind attrset h)

  pub spread_inner : attrset < kind → kind ≤ neg → spread_of es kind x y ≡ 1 + spread_at es x
  unfolding spread_of
  spread_inner l h = rw (lt-leb kind attrset l, le-leb kind neg h)

  pub spread_both : neg < kind → spread_of es kind x y ≡ 1 + spread_at es x + spread_at es y
  unfolding spread_of
  spread_both h = rw (lt-leb kind attrset (omega arith), lt-leb kind neg h)

-- what is told, and the words left
abbrev pub MakesReply : List ℕ → Making → Told → List ℕ → Type 0
MakesReply w m says v = (says ≡ (made_response w m).says) × (v ≡ (made_response w m).words)

pub replied : (w : List ℕ) (m : Making) (r : Response) → made_response w m ≡ r → MakesReply w m r.says r.words
replied w m r e = (ap (λ (q : Response). q.says) (sym e), ap (λ (q : Response). q.words) (sym e))

module _ (w : List ℕ) (kind x y : ℕ) (good : T (well_formed w)) where
  pub make_full : (number room : ℕ) → number ≡ length (entries_of w) → room ≡ (store_of w).capacities.entries → room ≤ number
      → MakesReply w (new_entry (entries_of w) kind x y) (refused 5 (entries_region ∷ [])) w
  make_full number room n r h =
      replied w (new_entry (entries_of w) kind x y) _ (made_full w (new_entry (entries_of w) kind x y) (omega (arith, new_length (entries_of w) kind x y)))

  module _ (number room spread : ℕ) (n : number ≡ length (entries_of w)) (r : room ≡ (store_of w).capacities.entries) (h : number < room)
      (s : spread ≡ spread_of (entries_of w) kind x y) where
    fits : length (new_entry (entries_of w) kind x y).after ≤ (store_of w).capacities.entries
    fits = omega (arith, new_length (entries_of w) kind x y)

    pub make_deep : spread_most < spread → MakesReply w (new_entry (entries_of w) kind x y) (refused 6 []) w
    unfolding new_entry
    make_deep d =
        replied w (new_entry (entries_of w) kind x y) _ (made_deep w (new_entry (entries_of w) kind x y) (formed_shown w good).within fits
        (put_too_deep (entries_of w) kind x y 0 0 (sound_table w good).store.shallow ∙ lt-ltb spread_most (spread_of (entries_of w) kind x y) (omega arith)))

    pub make_done : spread ≤ spread_most → (v : List ℕ) → Shows v (entries_to w (entries_of w ++ (entry_made kind x y 0 0 spread ∷ [])))
        → MakesReply w (new_entry (entries_of w) kind x y) (done (number ∷ [])) v
    unfolding new_entry put_entry
    make_done d v shows =
        let m : Making = new_entry (entries_of w) kind x y in
        let q = replied w m _ (made_done w m (formed_shown w good).within fits
        (put_too_deep (entries_of w) kind x y 0 0 (sound_table w good).store.shallow ∙ le-ltb spread_most (spread_of (entries_of w) kind x y) (omega arith))) in (
          ap (λ (i : ℕ). done (i ∷ [])) n ∙ q.0,
          shows.is ∙ ap (λ (i : ℕ). words (entries_to w (entries_of w ++ (entry_made kind x y 0 0 i ∷ [])))) s ∙ q.1,
        )

-- an entry added and cached
module _ (w : List ℕ) (kind x y spread n number room : ℕ) (shows : Shown w) (e : number ≡ length (entries_of w)) (r : room ≡ (store_of w).capacities.entries) where
  pub add_full : room ≤ number → Added (table w) kind x y spread n None w
  add_full h = record { done = λ l. absurd (omega arith); full = λ l. (refl, shows) }

  module _ (v : List ℕ) (sv : Shows v (entries_to w (entries_of w ++ (entry_made kind x y 0 0 spread ∷ [])))) where
    pub add_index : n < length (entries_of w) → n < length (entries_of v)
    unfolding with_entries
    add_index h = omega (arith, ap (λ (t : Table). length t.store.entries) (seen sv), more_length (entries_of w) (entry_made kind x y 0 0 spread))

    pub add_done : number < room → (u : List ℕ) → Shows u (entries_to v (changed (with_negation (number + 1)) (entries_of v) n)) → Added (table w) kind x y spread n (Some number) u
    unfolding with_entries
    add_done h u su =
        let es : List Entry = entries_of w ++ (entry_made kind x y 0 0 spread ∷ []) in
        let q : suc (length (entries_of w)) ≡ number + 1 = omega arith in
        let a : Shows u (entries_to w (changed (with_negation (number + 1)) es n)) =
        subst (λ (t : Table). Shows u (entries_in t (changed (with_negation (number + 1)) t.store.entries n))) (seen sv) su in
        record {
          done = λ l. (ap (λ (i : ℕ). Some i) e, rw q a);
          full = λ l. absurd (omega arith);
        }
