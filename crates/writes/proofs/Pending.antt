-- The state word, which the question's doors write; the break and the level, which are words of the header alone; and pending
-- pairs taken off one by one. Assumes nothing.
use Prim.Native.Nat.{ℕ, ◌-◌, ◌≤◌, ◌<◌}
use native.Mathlib.Omega.{arith}
use mathlib.Core.Path.{◌≡◌, refl, sym, ap, ◌∙◌, subst}
use mathlib.Core.List.{List, [], ◌∷◌}
use lib.ListN.{length, set, take}
use lib.Seq.{length-take-le}
use Rattle.model.specs.Format.{state_at, break_kind_at, break_sub_at, break_sup_at, break_name_at, level_at, idle, asked, pending_region}
use Rattle.model.specs.Table.{Pair, Break, Store, Table, table_of, state_of, with_broken, with_level}
use Rattle.model.specs.Parts.{image, count}
use Rattle.model.specs.Image.{front_as, parts_of, words_as, table, image_length}
use Rattle.laws.proofs.Round.{fit_within, parts_fit}
use Rattle.image.specs.Shown.{Shows, Shown, ShowsAs, ShownAs, store_of, pending_in, pending_to, broken_to, level_to}
use Rattle.image.proofs.Laying.{seen, shown_size}
use Rattle.writes.proofs.Places.{facts}

pub state_asked : (l : List Pair) → 0 < length l → state_of l ≡ asked
unfolding state_of
state_asked [] h = absurd (omega arith)
state_asked (p ∷ l) h = refl

pub state_idle : (l : List Pair) → length l ≤ 0 → state_of l ≡ idle
unfolding state_of
state_idle [] h = refl
state_idle (p ∷ l) h = absurd (omega arith)

module _ {w : List ℕ} {t : Table} (s : Shows w t) where
  -- the state word of words that show a table
  pub while_asked : 0 < length t.pending → ShowsAs asked w t
  while_asked h = subst (λ (k : ℕ). ShowsAs k w t) (state_asked t.pending h) s

  pub while_idle : length t.pending ≤ 0 → ShowsAs idle w t
  while_idle h = subst (λ (k : ℕ). ShowsAs k w t) (state_idle t.pending h) s

module _ {state : ℕ} {w : List ℕ} {t : Table} (s : ShowsAs state w t) where
  -- it is the table's already, or is written
  pub state_right : state_of t.pending ≡ state → Shows w t
  state_right e = subst (λ (k : ℕ). ShowsAs k w t) (sym e) s

  pub state_put : (new : ℕ) → state_of t.pending ≡ new → Shows (set w state_at new) t
  unfolding words_as image front_as
  state_put new e = record { within = s.within; is = ap (λ (v : List ℕ). set v state_at new) s.is ∙ ap (λ (k : ℕ). words_as k t) (sym e) }

module _ (w : List ℕ) (s : ShownAs asked w) where
  -- a question with nothing pending is ended; any other stays
  pub ended : count w pending_region ≡ 0 → Shows (set w state_at idle) (table w)
  ended e =
      let f = facts s in
      state_put s idle (state_idle _ (omega (arith, e)))

  pub not_ended : (count w pending_region ≡ 0 → ⊥) → Shown w
  not_ended n =
      let f = facts s in
      state_right s (state_asked _ (omega (arith, n)))

-- a question opened or ended: the table shown is the one that stood there
pub stated : {state : ℕ} {v w : List ℕ} {t : Table} → ShowsAs state v t → Shows w (table v) → Shows w t
stated {w = w} a s = subst (λ (u : Table). Shows w u) (seen a) s

module _ (w : List ℕ) (s : Shown w) where
  pub shows_broken : (b : Break) → Shows (set (set (set (set w break_kind_at b.kind) break_sub_at b.sub) break_sup_at b.sup) break_name_at b.name) (broken_to w b)
  unfolding words_as image front_as parts_of with_broken
  shows_broken b =
      record {
        within = fit_within _ (parts_fit (table w) s.within);
        is = ap (λ (v : List ℕ). set (set (set (set v break_kind_at b.kind) break_sub_at b.sub) break_sup_at b.sup) break_name_at b.name) s.is;
      }

  pub shows_level : (l : ℕ) → Shows (set w level_at l) (level_to w l)
  unfolding words_as image front_as parts_of with_level
  shows_level l =
      record {
        within = fit_within _ (parts_fit (table w) s.within);
        is = ap (λ (v : List ℕ). set v level_at l) s.is;
      }

-- words of one length: those that show tables with the same capacities
module _ {j k : ℕ} {v w : List ℕ} {t u : Table} (a : ShowsAs j v t) (b : ShowsAs k w u) where
  pub same_size_as : t.store.capacities ≡ u.store.capacities → length v ≡ length w
  same_size_as e = shown_size a ∙ ap image_length e ∙ sym (shown_size b)

pub same_size : {v w : List ℕ} {t u : Table} → Shows v t → Shows w u → t.store.capacities ≡ u.store.capacities → length v ≡ length w
same_size a b e = same_size_as a b e

-- while pending pairs are taken off, the rest stays as it was
pub record Emptying (w₀ w : List ℕ) : Type 0 where
  pub shows : ShowsAs asked w (pending_to w₀ (pending_in w))

pub emptying_start : {w : List ℕ} → ShownAs asked w → Emptying w w
emptying_start s = record { shows = s }

module _ {w₀ w : List ℕ} (e : Emptying w₀ w) where
  store : store_of w ≡ store_of w₀
  store = ap (λ (t : Table). t.store) (seen e.shows)

  module _ {v : List ℕ} (s : ShowsAs asked v (pending_to w (take (length (pending_in w) - 1) (pending_in w)))) where
    left : pending_in v ≡ take (length (pending_in w) - 1) (pending_in w)
    left = ap (λ (t : Table). t.pending) (seen s)

    pub emptying_more : Emptying w₀ v
    emptying_more = record { shows = subst (λ (ps : List Pair). ShowsAs asked v (pending_to w₀ ps)) (sym left) (subst (λ (x : Store). ShowsAs asked v (table_of x (take (length (pending_in w) - 1) (pending_in w)))) store s) }

    pub emptying_less : 0 < count w pending_region → count v pending_region < count w pending_region
    emptying_less h =
        let f = facts s in
        let g = facts e.shows in
        let n = ap length left ∙ length-take-le (length (pending_in w) - 1) (pending_in w) (omega arith) in
        omega arith

  pub emptying_end : count w pending_region ≤ 0 → ShowsAs asked w (pending_to w₀ [])
  emptying_end h =
      let f = facts e.shows in
      subst (λ (ps : List Pair). ShowsAs asked w (pending_to w₀ ps)) (none (pending_in w) (omega arith)) e.shows
    where
      none : (l : List Pair) → length l ≤ 0 → l ≡ []
      none [] k = refl
      none (p ∷ l) k = absurd (omega arith)

  pub emptying_size : ShownAs asked w₀ → length w ≡ length w₀
  emptying_size s = same_size_as e.shows s refl
