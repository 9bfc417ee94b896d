-- A step by what its pair comes to, and at the last pending pair. Assumes nothing.
use Rattle.std.specs.Prelude.{Ok, Result}
use Prim.Native.Nat.{ℕ, ◌+◌, ◌-◌, ◌≤◌, ◌<◌}
use native.Mathlib.Omega.{arith}
use mathlib.Core.Path.{◌≡◌, sym, ap, subst, ◌∙◌}
use mathlib.Core.List.{List, [], append-nil}
use mathlib.Core.Bool.{Bool, true, false, cond, or-true}
use lib.ListN.{length, take}
use lib.Dec.{T, eqb}
use borrow.Author.Tests.{eq-eqb, ne_eqb}
use Rattle.model.specs.declared.Refusal.{Refusal}
use Rattle.instalments.specs.Machine.{Outcome, goes, enough}
use Rattle.model.specs.Format.{lower, upper}
use Rattle.model.specs.Table.{Pair, ◌⊑◌, Store, table_of, graph_of, with_graph, with_visited}
use Rattle.model.specs.Image.{word, pending_words, table}
use Rattle.model.specs.Formed.{well_formed, is_entry, pair_right}
use Rattle.model.specs.Rules.{join_bounds, pair_rule, is_visited, visit, failing, outcome_of, rule}
use Rattle.model.specs.Room.{fitting, room_for}
use Rattle.model.specs.declared.Failure.{Failure}
use Rattle.model.specs.declared.Failure.TheVariants as F
use Rattle.laws.specs.Good.{Sound}
use Rattle.laws.proofs.Tests.{first, second, all_at, lt_of}
use Rattle.laws.proofs.Formed.{sound_table}
use Rattle.laws.proofs.StepSound.{fitting_enough}
use Rattle.image.specs.Shown.{Shows, store_of, graph_in, entries_of, pending_in, pending_to}
use Rattle.image.specs.Records.{pending_at}
use Rattle.constrain.specs.Next.{pairs_in, effect_of, Comes}
use Rattle.constrain.specs.declared.Next.{Next}
use Rattle.constrain.specs.declared.Next.TheVariants as N
use Rattle.constrain.specs.declared.Pairs.{Pairs}
use Rattle.step.specs.Taken.{before_last, last_pair, outcome_for}
use Rattle.step.specs.declared.Step.{Step}
use Rattle.step.specs.declared.Step.TheVariants.{Went}
use Rattle.step.proofs.Rooms.{before_length}
use Rattle.step.proofs.Taking.{Takes, went}

module _ (p : Pair) (s : Store) where
  -- "Equal numbers: nothing. Pair visited: nothing."
  rule_equal : p.sub ≡ p.sup → rule s p ≡ goes s []
  unfolding rule
  rule_equal e = rw (eq-eqb p.sub p.sup e)

  rule_visited : is_visited s p ≡ true → rule s p ≡ goes s []
  unfolding rule
  rule_visited e = rw e (ap (λ (t : Bool). cond t (goes s []) (outcome_of (visit p s) p (pair_rule (graph_of s) p.sub p.sup))) (or-true (eqb p.sub p.sup)))

  -- "Else record it, then": what the pair comes to
  rule_comes : (next : Next) → (p.sub ≡ p.sup → ⊥) → is_visited s p ≡ false → effect_of (graph_of s) p next ≡ pair_rule (graph_of s) p.sub p.sup
      → rule s p ≡ outcome_for s p next
  unfolding rule outcome_for
  rule_comes next n v e = rw (ne_eqb p.sub p.sup n, v) (ap (outcome_of (visit p s) p) (sym e))

-- the outcome, case by case
module _ (w : List ℕ) (p : Pair) (next : Next) (r : Result Step Refusal) (v : List ℕ) where
  pub applied_as : (x : Next) → next ≡ x → Takes w (outcome_for (store_of w) p x) r v → Takes w (outcome_for (store_of w) p next) r v
  applied_as x e = subst (λ (y : Next). Takes w (outcome_for (store_of w) p y) r v) (sym e)

  pub applied_mismatch : next ≡ N.Mismatch → Takes w (failing (visit p (store_of w)) (F.Mismatch p.sub p.sup)) r v → Takes w (outcome_for (store_of w) p next) r v
  unfolding outcome_for outcome_of
  applied_mismatch e k = applied_as N.Mismatch e k

  pub applied_missing : (name : ℕ) → next ≡ N.Missing name → Takes w (failing (visit p (store_of w)) (F.MissingField p.sub p.sup name)) r v
      → Takes w (outcome_for (store_of w) p next) r v
  unfolding outcome_for outcome_of
  applied_missing name e k = applied_as (N.Missing name) e k

  pub applied_follow : (ps : Pairs) → next ≡ N.Follow ps → Takes w (goes (visit p (store_of w)) (pairs_in (store_of w).fields ps)) r v
      → Takes w (outcome_for (store_of w) p next) r v
  unfolding outcome_for outcome_of with_graph visit with_visited
  applied_follow ps e k = applied_as (N.Follow ps) e k

  -- a bound: on the upper side of sub, or the lower side of sup
  pub applied_upper : next ≡ N.Upper → Takes w (outcome_of (visit p (store_of w)) p (join_bounds (graph_in w) p.sub upper p.sup)) r v
      → Takes w (outcome_for (store_of w) p next) r v
  unfolding outcome_for
  applied_upper e k = applied_as N.Upper e k

  pub applied_lower : next ≡ N.Lower → Takes w (outcome_of (visit p (store_of w)) p (join_bounds (graph_in w) p.sup lower p.sub)) r v
      → Takes w (outcome_for (store_of w) p next) r v
  unfolding outcome_for
  applied_lower e k = applied_as N.Lower e k

-- the words of the last pair
pub last_sub : (ps : List Pair) (n x : ℕ) → n ≡ length ps → x ≡ word (pending_words (pending_at ps (n - 1))) 0 → x ≡ (pending_at ps (length ps - 1)).sub
last_sub ps n x e f = f ∙ ap (λ (k : ℕ). (pending_at ps (k - 1)).sub) e

pub last_sup : (ps : List Pair) (n x : ℕ) → n ≡ length ps → x ≡ word (pending_words (pending_at ps (n - 1))) 1 → x ≡ (pending_at ps (length ps - 1)).sup
last_sup ps n x e f = f ∙ ap (λ (k : ℕ). (pending_at ps (k - 1)).sup) e

module _ (w : List ℕ) (h : T (well_formed w)) (some : 0 < length (pending_in w)) (sub sup : ℕ) (a : sub ≡ (last_pair w).sub) (b : sup ≡ (last_pair w).sup) where
  last_is : last_pair w ≡ (sub ⊑ sup)
  last_is =
      let x : ((last_pair w).sub ⊑ (last_pair w).sup) ≡ (sub ⊑ (last_pair w).sup) = ap (λ (n : ℕ). n ⊑ (last_pair w).sup) (sym a) in
      let y : (sub ⊑ (last_pair w).sup) ≡ (sub ⊑ sup) = ap (λ (n : ℕ). sub ⊑ n) (sym b) in
      x ∙ y

  sound : Sound (table w)
  sound = sound_table w h

  pub last_known : (sub < length (entries_of w)) × (sup < length (entries_of w))
  unfolding pair_right is_entry
  last_known =
      let k : T (pair_right (entries_of w) (sub ⊑ sup)) = subst (λ (p : Pair). T (pair_right (entries_of w) p)) last_is (all_at (pair_right (entries_of w)) (0 ⊑ 0) (pending_in w) sound.pending.right (length (pending_in w) - 1) (omega arith)) in
      (lt_of sub (length (entries_of w)) (first (is_entry (entries_of w) sub) (is_entry (entries_of w) sup) k), lt_of sup (length (entries_of w)) (second (is_entry (entries_of w) sub) (is_entry (entries_of w) sup) k))

  -- the rule at the last pair
  at_last : {r : (Result Step Refusal)} {v : List ℕ} (o : Outcome Store Pair Failure) → rule (store_of w) (sub ⊑ sup) ≡ o → Takes w o r v → Takes w (rule (store_of w) (last_pair w)) r v
  at_last {r} {v} o e = subst (λ (x : Outcome Store Pair Failure). Takes w x r v) (sym (ap (rule (store_of w)) last_is ∙ e))

  taken_off : (v : List ℕ) → Shows v (pending_to w (take (length (pending_in w) - 1) (pending_in w))) → Takes w (goes (store_of w) []) (Ok Went) v
  unfolding room_for
  taken_off v s =
      let n : length (before_last w) + 0 ≤ (store_of w).capacities.pending = omega (arith, before_length w, sound.pending.held) in
      let e : fitting (store_of w) (length (before_last w) + 0) ≡ enough = fitting_enough (store_of w) (length (before_last w) + 0) sound.store.held n sound.store.shallow in
      went w (store_of w) v [] e (subst (λ (l : List Pair). Shows v (table_of (store_of w) l)) (sym (append-nil (before_last w))) s)

  module _ (v : List ℕ) (s : Shows v (pending_to w (take (length (pending_in w) - 1) (pending_in w)))) where
    pub step_equal : sub ≡ sup → Takes w (rule (store_of w) (last_pair w)) (Ok Went) v
    step_equal e = at_last (goes (store_of w) []) (rule_equal (sub ⊑ sup) (store_of w) e) (taken_off v s)

    pub step_visited : is_visited (store_of w) (sub ⊑ sup) ≡ true → Takes w (rule (store_of w) (last_pair w)) (Ok Went) v
    step_visited e = at_last (goes (store_of w) []) (rule_visited (sub ⊑ sup) (store_of w) e) (taken_off v s)

  pub step_applied : (next : Next) (r : Result Step Refusal) (v : List ℕ) → (sub ≡ sup → ⊥) → is_visited (store_of w) (sub ⊑ sup) ≡ false
      → Comes (graph_in w) (sub ⊑ sup) next (pair_rule (graph_in w) sub sup) → Takes w (outcome_for (store_of w) (sub ⊑ sup) next) r v
      → Takes w (rule (store_of w) (last_pair w)) r v
  step_applied next r v n e c k = at_last (outcome_for (store_of w) (sub ⊑ sup) next) (rule_comes (sub ⊑ sup) (store_of w) next n e c.means) k
