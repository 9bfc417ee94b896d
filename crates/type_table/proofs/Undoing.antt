-- Entries taken off and cached numbers taken back, one by one: what the loops of undo keep. Assumes nothing.
use Prim.Native.Nat.{ℕ, ◌+◌, ◌-◌, ◌≤◌, ◌<◌}
use native.Mathlib.Omega.{arith}
use mathlib.Core.Path.{◌≡◌, refl, ap, subst, ◌∙◌}
use mathlib.Core.List.{List}
use mathlib.Core.Logic.{⊎_elim}
use lib.ListN.{length, take}
use lib.Seq.{take-take, take-length, length-take-le, get_or-take}
use borrow.Author.Tests.{lt-ltb, le-ltb}
use Rattle.model.specs.Table.{Entry, Table, no_entry, entry_at, with_entries}
use Rattle.model.specs.Image.{table}
use Rattle.model.specs.Making.{changed, with_negation, reset, undone}
use Rattle.laws.proofs.Entries.{lt_or_ge, same_or_not, changed_length, changed_at, changed_other}
use Rattle.laws.proofs.Undone.{undone_is}
use Rattle.image.specs.Shown.{Shows, Shown, entries_of, entries_to}
use Rattle.image.proofs.Laying.{seen, shown}
use Rattle.writes.proofs.Pending.{same_size}
use Rattle.type_table.specs.Made.{entries_in}

-- as many words, and the entries that they show
pub same_length : (w v : List ℕ) (es : List Entry) → Shown w → Shows v (entries_to w es) → length v ≡ length w
unfolding with_entries
same_length w v es s r = same_size r s refl

pub seen_entries : (t : Table) (v : List ℕ) (es : List Entry) → Shows v (entries_in t es) → entries_of v ≡ es
unfolding with_entries
seen_entries t v es s = ap (λ (u : Table). u.store.entries) (seen s)

-- the loop that takes entries off
pub record Popped (w₀ : List ℕ) (old : ℕ) (w : List ℕ) : Type 0 where
  pub shows : Shows w (entries_to w₀ (take (length (entries_of w)) (entries_of w₀)))
  pub from : old ≤ length (entries_of w)
  pub upto : length (entries_of w) ≤ length (entries_of w₀)

pub popped_start : (w : List ℕ) (old : ℕ) → Shown w → old ≤ length (entries_of w) → Popped w old w
unfolding with_entries
popped_start w old s h = record { shows = rw (take-length (entries_of w)) s; from = h; upto = omega arith }

module _ (w₀ : List ℕ) (old : ℕ) (w : List ℕ) (p : Popped w₀ old w) where
  pub popped_shows : Shown w
  popped_shows = shown p.shows

  pub popped_more : (v : List ℕ) → old < length (entries_of w) → Shows v (entries_to w (take (length (entries_of w) - 1) (entries_of w)))
      → Popped w₀ old v × (length (entries_of v) < length (entries_of w))
  unfolding with_entries
  popped_more v lt sv =
      let n : ℕ = length (entries_of w) in
      let es : List Entry = entries_of w₀ in
      let q : table w ≡ entries_to w₀ (take n es) = seen p.shows in
      let a : Shows v (entries_to w₀ (take (n - 1) (take n es))) =
      subst (λ (t : Table). Shows v (entries_in t (take (n - 1) t.store.entries))) q sv in
      let d : Shows v (entries_to w₀ (take (n - 1) es)) = rw (take-take (n - 1) n es (omega arith)) at a in
      let k : length (entries_of v) ≡ n - 1 = ap length (seen_entries (table w₀) v (take (n - 1) es) d) ∙ length-take-le (n - 1) es (omega (arith, p.upto)) in
      (record { shows = rw k d; from = omega arith; upto = omega (arith, p.upto) }, omega arith)

  pub popped_end : length (entries_of w) ≤ old → Shows w (entries_to w₀ (take old (entries_of w₀)))
  popped_end h = let e : length (entries_of w) ≡ old = omega (arith, p.from) in rw e at p.shows

-- the loop that takes cached numbers back: before entry i it is done
pub record Put (t : Table) (old i : ℕ) (w : List ℕ) : Type 0 where
  pub shows : Shows w (entries_in t (entries_of w))
  pub size : length (entries_of w) ≡ old
  pub done : (j : ℕ) → j < i → entry_at (entries_of w) j ≡ reset old (entry_at t.store.entries j)
  pub left : (j : ℕ) → i ≤ j → entry_at (entries_of w) j ≡ entry_at t.store.entries j
  pub upto : i ≤ old

pub put_start : (w : List ℕ) (old : ℕ) → Shown w → length (entries_of w) ≡ old → Put (table w) old 0 w
unfolding with_entries
put_start w old s n = record { shows = s; size = n; done = λ j lt. absurd (omega arith); left = λ j ge. refl; upto = omega arith }

not_last : (i j : ℕ) → j < i + 1 → (j ≡ i → ⊥) → j < i
not_last i j l a = ⊎_elim (λ (b : j < i). b) (λ (b : i ≤ j). absurd (a (omega arith))) (lt_or_ge j i)

module _ (t : Table) (old i : ℕ) (w : List ℕ) (p : Put t old i w) where
  pub put_shows : Shown w
  put_shows = shown p.shows

  pub put_skip : i < old → (entry_at (entries_of w) i).negation ≤ old → Put t old (i + 1) w
  unfolding reset
  put_skip lt le = record {
    shows = p.shows;
    size = p.size;
    done = λ j l.
        ⊎_elim
        (λ (a : j < i). p.done j a)
        (λ (a : i ≤ j).
        let q : j ≡ i = omega arith in
        let e : entry_at (entries_of w) j ≡ entry_at t.store.entries j = p.left j a in
        let n : (entry_at t.store.entries j).negation ≤ old = rw (← e, q) le in
        e ∙ rw (le-ltb old (entry_at t.store.entries j).negation n))
        (lt_or_ge j i);
    left = λ j g. p.left j (omega arith);
    upto = omega arith;
  }

  pub put_set : (v : List ℕ) → i < old → old < (entry_at (entries_of w) i).negation → Shows v (entries_to w (changed (with_negation 0) (entries_of w) i)) → Put t old (i + 1) v
  unfolding with_entries reset
  put_set v lt gt sv =
      let f : Entry → Entry = with_negation 0 in
      let us : List Entry = changed f (entries_of w) i in
      let su : Shows v (entries_in t us) = subst (λ (u : Table). Shows v (entries_in u us)) (seen p.shows) sv in
      let e : entries_of v ≡ us = seen_entries t v us su in
      let here : entry_at (entries_of w) i ≡ entry_at t.store.entries i = p.left i (omega arith) in
      let high : old < (entry_at t.store.entries i).negation = rw (← here) gt in
      let was : with_negation 0 (entry_at t.store.entries i) ≡ reset old (entry_at t.store.entries i) = rw (lt-ltb old (entry_at t.store.entries i).negation high) in
      record {
        shows = rw e su;
        size = ap length e ∙ changed_length f (entries_of w) i ∙ p.size;
        done = λ j l.
            ap (λ (x : List Entry). entry_at x j) e
            ∙ ⊎_elim
            (λ (a : j ≡ i). rw a (changed_at f (entries_of w) i (omega (arith, p.size)) ∙ ap f here ∙ was))
            (λ (a : j ≡ i → ⊥). changed_other f (entries_of w) i j a ∙ p.done j (not_last i j l a))
            (same_or_not j i);
        left = λ j g. ap (λ (x : List Entry). entry_at x j) e ∙ changed_other f (entries_of w) i j (λ a. omega arith) ∙ p.left j (omega arith);
        upto = omega arith;
      }

pub put_at : (t : Table) (old i : ℕ) (v w : List ℕ) → v ≡ w → Put t old i w → Put t old i v
put_at t old i v w e p = rw e p

module _ (w₀ w : List ℕ) (old : ℕ) (s : Shows w (entries_to w₀ (take old (entries_of w₀)))) (le : old ≤ length (entries_of w₀)) where
  pub popped_size : length (entries_of w) ≡ old
  popped_size = ap length (seen_entries (table w₀) w (take old (entries_of w₀)) s) ∙ length-take-le old (entries_of w₀) le

  pub undo_end : (i : ℕ) (v : List ℕ) → Put (table w) old i v → old ≤ i → Shows v (entries_to w₀ (undone old (entries_of w₀)))
  unfolding with_entries
  undo_end i v p h =
      let es : List Entry = entries_of w₀ in
      let q : table w ≡ entries_to w₀ (take old es) = seen s in
      let r : Put (entries_to w₀ (take old es)) old i v = subst (λ (t : Table). Put t old i v) q p in
      let m : length (entries_of v) ≡ old = r.size in
      let e : undone old es ≡ entries_of v =
      undone_is old es (entries_of v) (omega arith)
      (λ j l. r.done j (omega arith) ∙ ap (λ (d : Entry). reset old d) (get_or-take old es j no_entry l)) in
      rw e r.shows
