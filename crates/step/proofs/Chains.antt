-- Words after several changes, one after the other: the table that they show, and what the next change needs. Assumes nothing.
use Prim.Native.Nat.{ℕ, ◌-◌, ◌≤◌, ◌<◌}
use native.Mathlib.Omega.{arith}
use mathlib.Core.Path.{◌≡◌, sym, ap, subst, ◌∙◌}
use mathlib.Core.List.{List, [], ◌∷◌, ◌++◌}
use mathlib.Core.Bool.{Bool, true, false}
use lib.ListN.{length, take}
use lib.Dec.{eqb}
use borrow.Author.Tests.{eq-eqb, ne_eqb}
use Rattle.model.specs.Format.{unbroken, variable, lower, upper}
use Rattle.model.specs.Table.{Bound, Pair, ◌⊑◌, Table, table_of, entry_at, is, is_at, is_broken, marked, with_bounds, with_entries}
use Rattle.model.specs.Image.{table}
use Rattle.model.specs.Making.{bounds_in, repeats, add_bound, changed, with_mark, mark_entry}
use Rattle.model.specs.Rules.{visit, break_of, fill_break, bound_pair, pass_mark}
use Rattle.model.specs.declared.Failure.{Failure}
use Rattle.image.specs.Shown.{Shows, Shown, store_of, entries_of, bounds_all, visited_in, pending_in, visited_to, bounds_to, entries_to, pending_to, broken_to}
use Rattle.image.specs.Records.{says_mark}
use Rattle.image.proofs.Laying.{seen, shown}
use Rattle.writes.proofs.Pending.{while_asked}
use Rattle.step.specs.Taken.{before_last, Midway}
use Rattle.step.proofs.Rooms.{one_more}

-- a pair visited, then the last one taken off pending
module _ (w v : List ℕ) (p : Pair) (s : Shows v (visited_to w (visited_in w ++ (p ∷ [])))) where
  pub visited_pending : 0 < length (pending_in w) → Midway v (table v) × (0 < length (pending_in v))
  visited_pending h =
      let some : 0 < length (pending_in v) = subst (λ (t : Table). 0 < length t.pending) (sym (seen s)) h in
      (while_asked (shown s) some, some)

  pub advanced : (u : List ℕ) → Midway u (pending_to v (take (length (pending_in v) - 1) (pending_in v))) → Midway u (table_of (visit p (store_of w)) (before_last w))
  unfolding visit
  advanced u su = subst (λ (t : Table). Midway u (table_of t.store (take (length t.pending - 1) t.pending))) (seen s) su

-- the break words, where none stands there
module _ (w : List ℕ) (f : Failure) (k : ℕ) (e : k ≡ (store_of w).broken.kind) where
  pub break_stands : 0 < k → Shown w → Shows w (table_of (fill_break f (store_of w)) (pending_in w))
  unfolding fill_break is_broken
  break_stands h s =
      let z : eqb (store_of w).broken.kind unbroken ≡ false = ne_eqb (store_of w).broken.kind unbroken (λ (q : (store_of w).broken.kind ≡ unbroken). let y : ⊥ = omega arith in y) in
      rw z s

  pub break_filled : k ≡ 0 → (g : Failure) → f ≡ g → (u : List ℕ) → Shows u (broken_to w (break_of g)) → Shows u (table_of (fill_break f (store_of w)) (pending_in w))
  unfolding fill_break is_broken
  break_filled h g q u su =
      let z : eqb (store_of w).broken.kind unbroken ≡ true = eq-eqb (store_of w).broken.kind unbroken (omega arith) in
      rw (z, q) su

-- a bound, unless it repeats one
module _ (w : List ℕ) (repeated : Bool) (v side b : ℕ) (e : repeated ≡ repeats (bounds_in (bounds_all w) v side) b) where
  pub bound_kept : repeated ≡ true → Shown w → Shows w (bounds_to w (add_bound v side b (bounds_all w)))
  unfolding add_bound with_bounds
  bound_kept t s = let z : repeats (bounds_in (bounds_all w) v side) b ≡ true = sym e ∙ t in rw z s

  module _ (t : repeated ≡ false) where
    pub bound_push : length (add_bound v side b (bounds_all w)) ≤ (store_of w).capacities.bounds → length (bounds_all w) < (store_of w).capacities.bounds
    unfolding add_bound
    bound_push h =
        let x : Bound = record { variable = v; side = side; bound = b } in
        let z : repeats (bounds_in (bounds_all w) v side) b ≡ false = sym e ∙ t in
        let n : length (bounds_all w ++ (x ∷ [])) ≤ (store_of w).capacities.bounds = rw z at h in
        omega (arith, one_more (bounds_all w) x)

    pub bound_put : (u : List ℕ) → Shows u (bounds_to w (bounds_all w ++ (record { variable = v; side = side; bound = b } ∷ []))) → Shows u (bounds_to w (add_bound v side b (bounds_all w)))
    unfolding add_bound
    bound_put u su = let z : repeats (bounds_in (bounds_all w) v side) b ≡ false = sym e ∙ t in rw z su

-- a mark passed on
module _ (w : List ℕ) (v side b : ℕ) where
  pub not_upper : (side ≡ upper → ⊥) → Shown w → Shows w (entries_to w (pass_mark v side b (entries_of w)))
  unfolding pass_mark with_entries
  not_upper n s = let z : eqb side upper ≡ false = ne_eqb side upper n in rw z s

  module _ (u : side ≡ upper) (kind : ℕ) (e : kind ≡ (entry_at (entries_of w) b).kind) where
    is_upper : eqb side upper ≡ true
    is_upper = eq-eqb side upper u

    pub no_variable : 0 < kind → Shown w → Shows w (entries_to w (pass_mark v side b (entries_of w)))
    unfolding pass_mark is_at is with_entries
    no_variable h s =
        let z : eqb (entry_at (entries_of w) b).kind variable ≡ false = ne_eqb (entry_at (entries_of w) b).kind variable (λ (q : (entry_at (entries_of w) b).kind ≡ variable). let y : ⊥ = omega arith in y) in
        rw (is_upper, z) s

    module _ (h : kind ≡ 0) (flags : ℕ) (f : flags ≡ (entry_at (entries_of w) v).flags) (says : Bool) (t : says ≡ says_mark flags) where
      is_variable : eqb (entry_at (entries_of w) b).kind variable ≡ true
      is_variable = eq-eqb (entry_at (entries_of w) b).kind variable (omega arith)

      told : says_mark (entry_at (entries_of w) v).flags ≡ says
      told = ap says_mark (sym f) ∙ sym t

      pub mark_none : says ≡ false → Shown w → Shows w (entries_to w (pass_mark v side b (entries_of w)))
      unfolding pass_mark is_at is marked with_entries
      mark_none n s =
          let z : says_mark (entry_at (entries_of w) v).flags ≡ false = told ∙ n in
          rw (is_upper, is_variable, z) s

      pub mark_passed : says ≡ true → (x : List ℕ) → Shows x (entries_to w (changed with_mark (entries_of w) b)) → Shows x (entries_to w (pass_mark v side b (entries_of w)))
      unfolding pass_mark is_at is marked mark_entry
      mark_passed m x sx =
          let z : says_mark (entry_at (entries_of w) v).flags ≡ true = told ∙ m in
          rw (is_upper, is_variable, z) sx

-- a pair put by the side of a bound
module _ (w u : List ℕ) (side b x : ℕ) where
  pub pair_lower : side ≡ 0 → Midway u (pending_to w (pending_in w ++ ((x ⊑ b) ∷ []))) → Midway u (pending_to w (pending_in w ++ (bound_pair side b x ∷ [])))
  pair_lower h s = let z : eqb side lower ≡ true = eq-eqb side lower h in rw z s

  pub pair_upper : (side ≡ 0 → ⊥) → Midway u (pending_to w (pending_in w ++ ((b ⊑ x) ∷ []))) → Midway u (pending_to w (pending_in w ++ (bound_pair side b x ∷ [])))
  pair_upper h s = let z : eqb side lower ≡ false = ne_eqb side lower h in rw z s
