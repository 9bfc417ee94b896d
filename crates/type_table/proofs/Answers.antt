-- The answer of making Neg(n), and the words it leaves: a refusal leaves every word as found. Assumes nothing.
use Rattle.std.specs.Prelude.{None, Option, Some}
use Prim.Native.Nat.{ℕ, ◌≤◌, ◌<◌}
use native.Mathlib.Omega.{arith}
use mathlib.Core.Path.{◌≡◌, sym, ap, subst, ◌∙◌}
use mathlib.Core.List.{List, [], ◌∷◌}
use mathlib.Core.Bool.{true, false}
use lib.ListN.{length}
use lib.Dec.{T, ltb}
use borrow.Author.Tests.{lt-ltb, le-ltb}
use Rattle.model.specs.Format.{spread_most, entries_region}
use Rattle.model.specs.Table.{Entry, Table, with_entries}
use Rattle.model.specs.Image.{table}
use Rattle.model.specs.Formed.{well_formed}
use Rattle.model.specs.Making.{Making, spread_at, make_neg, too_deep, undone}
use Rattle.model.specs.Told.{done, refused}
use Rattle.laws.specs.Good.{SoundStore}
use Rattle.laws.proofs.Entries.{negation_known_lem}
use Rattle.laws.proofs.Formed.{sound_table}
use Rattle.laws.proofs.Undone.{Undoable, undo_exact}
use Rattle.laws.proofs.Negation.{Grown, neg_grown, shallow_low}
use Rattle.image.specs.Shown.{Shows, Shown, store_of, entries_of, fields_in, entries_to}
use Rattle.image.proofs.Laying.{formed_shown, seen, shown}
use Rattle.type_table.specs.Made.{entries_in, Negatable, NegatedIn}
use Rattle.type_table.proofs.Replies.{made_full, made_deep, made_done, neg_too_deep}
use Rattle.type_table.proofs.WaysOut.{MakesReply, replied}
use Rattle.type_table.proofs.Undoing.{seen_entries}
use Rattle.type_table.proofs.Negating.{full_lacks, made_fits, made_number, made_shows}

-- a well formed image whose entries were added to and changed as making does, and then undone, has every word as found
pub words_back : (w v u : List ℕ) (us : List Entry) (old : ℕ) → T (well_formed w) → Shows v (entries_to w us) → Undoable (entries_of w) us → old ≡ length (entries_of w)
    → Shows u (entries_to v (undone old (entries_of v))) → u ≡ w
unfolding with_entries
words_back w v u us old good sv undo e su =
    let es : List Entry = entries_of w in
    let q : undone old us ≡ es =
    ap (λ (k : ℕ). undone k us) e ∙ undo_exact es us (negation_known_lem es (fields_in w) (store_of w).names (sound_table w good).store.good.entries) undo in
    let a : Shows u (entries_to w (undone old us)) = subst (λ (t : Table). Shows u (entries_in t (undone old t.store.entries))) (seen sv) su in
    let r : Shows u (entries_to w es) = subst (λ (x : List Entry). Shows u (entries_to w x)) q a in
    r.is ∙ sym (formed_shown w good).is

module _ (w : List ℕ) (n : ℕ) (good : T (well_formed w)) (below : n < length (entries_of w)) where
  pub negatable : Negatable w n
  negatable =
      let s : SoundStore (store_of w) = (sound_table w good).store in
      record {
        shows = formed_shown w good;
        good = s.good.entries;
        low = shallow_low (entries_of w) (fields_in w) (store_of w).names s.good.entries s.shallow;
        below = below;
        shallow = s.shallow n below;
      }

  grown : Grown (entries_of w) (fields_in w) (store_of w).names n (make_neg (entries_of w) n)
  grown = neg_grown (entries_of w) (fields_in w) (store_of w).names n (sound_table w good).store.good.entries below

  deep : too_deep (make_neg (entries_of w) n).after ≡ ltb spread_most (spread_at (make_neg (entries_of w) n).after (make_neg (entries_of w) n).number)
  deep = neg_too_deep (entries_of w) (fields_in w) (store_of w).names n (sound_table w good).store.good.entries (sound_table w good).store.shallow below

  module _ (old : ℕ) (e : old ≡ length (entries_of w)) (a : Option ℕ) (v : List ℕ) (d : NegatedIn (table w) n a v) where
    -- there was no room
    module _ (f : a ≡ None) where
      none : NegatedIn (table w) n None v
      none = subst (λ (b : Option ℕ). NegatedIn (table w) n b v) f d

      pub full_undo : Shown v × (old ≤ length (entries_of v))
      full_undo =
          let b = (none.full (full_lacks (table w) n v none)).1 in
          (shown b.1.0, omega (arith, ap length (seen_entries (table w) v b.0 b.1.0), b.1.1.longer))

      pub full_told : (u : List ℕ) → Shows u (entries_to v (undone old (entries_of v))) → MakesReply w (make_neg (entries_of w) n) (refused 5 (entries_region ∷ [])) u
      full_told u su =
          let m : Making = make_neg (entries_of w) n in
          let l = full_lacks (table w) n v none in
          let b = (none.full l).1 in
          let q = replied w m _ (made_full w m l) in
          (q.0, words_back w v u b.0 old good b.1.0 b.1.1.undo e su ∙ q.1)

    -- all is made
    module _ (k : ℕ) (f : a ≡ Some k) where
      some : NegatedIn (table w) n (Some k) v
      some = subst (λ (b : Option ℕ). NegatedIn (table w) n b v) f d

      number : k ≡ (make_neg (entries_of w) n).number
      number = made_number (table w) n v k some

      shows : Shows v (entries_to w (make_neg (entries_of w) n).after)
      shows = made_shows (table w) n v k some

      same : entries_of v ≡ (make_neg (entries_of w) n).after
      same = seen_entries (table w) v (make_neg (entries_of w) n).after shows

      fits : length (make_neg (entries_of w) n).after ≤ (store_of w).capacities.entries
      fits = made_fits (table w) n v k some

      pub made_part : Shown v × (k < length (entries_of v))
      made_part = (shown shows, rw (same, number) grown.number)

      pub made_undo : Shown v × (old ≤ length (entries_of v))
      made_undo = (shown shows, omega (arith, ap length same, grown.least))

      spread_is : spread_at (entries_of v) k ≡ spread_at (make_neg (entries_of w) n).after (make_neg (entries_of w) n).number
      spread_is = rw (same, number)

      pub deep_told : spread_most < spread_at (entries_of v) k → (u : List ℕ) → Shows u (entries_to v (undone old (entries_of v)))
          → MakesReply w (make_neg (entries_of w) n) (refused 6 []) u
      deep_told h u su =
          let m : Making = make_neg (entries_of w) n in
          let z : too_deep m.after ≡ true = deep ∙ lt-ltb spread_most (spread_at m.after m.number) (omega (arith, spread_is)) in
          let q = replied w m _ (made_deep w m (formed_shown w good).within fits z) in
          (q.0, words_back w v u m.after old good shows grown.undo e su ∙ q.1)

      pub made_told : spread_at (entries_of v) k ≤ spread_most → MakesReply w (make_neg (entries_of w) n) (done (k ∷ [])) v
      made_told h =
          let m : Making = make_neg (entries_of w) n in
          let z : too_deep m.after ≡ false = deep ∙ le-ltb spread_most (spread_at m.after m.number) (omega (arith, spread_is)) in
          let q = replied w m _ (made_done w m (formed_shown w good).within fits z) in
          (ap (λ (i : ℕ). done (i ∷ [])) number ∙ q.0, shows.is ∙ q.1)
