-- The type of the field `__functor` under a lambda: the two lambdas made for it, and what the code comes to at each way out. Assumes nothing.
use Rattle.std.specs.Prelude.{Err, Result}
use Prim.Native.Nat.{ℕ, ◌+◌, ◌-◌, ◌≤◌, ◌<◌}
use native.Mathlib.Omega.{arith}
use mathlib.Core.Path.{◌≡◌, refl, sym, ap, subst, ◌∙◌}
use mathlib.Core.List.{List, [], ◌∷◌, ◌++◌}
use lib.ListN.{length, take}
use lib.Dec.{T}
use Rattle.model.specs.declared.Refusal.{Refusal}
use Rattle.instalments.specs.Machine.{Outcome, goes}
use Rattle.model.specs.Format.{lambda, entries_region}
use Rattle.model.specs.Table.{Entry, Pair, ◌⊑◌, Store, Table, changed_to, with_graph, with_entries, with_visited}
use Rattle.model.specs.Formed.{well_formed}
use Rattle.model.specs.Making.{spread_of, put_entry, new_entry, undone}
use Rattle.model.specs.Rules.{follow_made, visit, outcome_of}
use Rattle.model.specs.declared.Failure.{Failure}
use Rattle.model.specs.declared.Refusal.TheVariants.{NoRoom}
use Rattle.laws.specs.Good.{Shallow}
use Rattle.laws.specs.Growth.{EntriesKept}
use Rattle.laws.proofs.Entries.{kept_trans, more_length, append_kept, negation_known_lem}
use Rattle.laws.proofs.Formed.{sound_table}
use Rattle.laws.proofs.Undone.{undone_append, undoable_trans, undo_exact}
use Rattle.image.specs.Shown.{Shows, Shown, store_of, entries_of, fields_in, pending_in, entries_to}
use Rattle.image.specs.Records.{entry_made}
use Rattle.image.proofs.Laying.{formed_shown, seen, shown}
use Rattle.type_table.specs.Made.{entries_in}
use Rattle.constrain.specs.declared.Next.TheVariants.{Functor}
use Rattle.step.specs.Taken.{Taken, taken, outcome_for}
use Rattle.step.specs.Made.{settled}
use Rattle.step.specs.declared.Step.{Step}
use Rattle.step.proofs.Settling.{Gives, gives, made_none, made_settles, made_settled}

-- the entries with a lambda more
abbrev pub with_lambda : List Entry → ℕ → ℕ → List Entry
with_lambda es param body = es ++ (entry_made lambda param body 0 0 1 ∷ [])

-- lambda(param, body), then lambda(sub, that)
abbrev with_both : List Entry → ℕ → ℕ → ℕ → List Entry
with_both es param body sub = with_lambda (with_lambda es param body) sub (length es)

module _ (es : List Entry) (param body sub : ℕ) where
  one_length : length (with_lambda es param body) ≡ length es + 1
  one_length = more_length es (entry_made lambda param body 0 0 1)

  both_length : length (with_both es param body sub) ≡ length es + 2
  both_length = let n = more_length (with_lambda es param body) (entry_made lambda sub (length es) 0 0 1) in omega (arith, one_length)

  both_kept : EntriesKept es (with_both es param body sub)
  both_kept =
      kept_trans (append_kept es (entry_made lambda param body 0 0 1 ∷ []))
      (append_kept (with_lambda es param body) (entry_made lambda sub (length es) 0 0 1 ∷ []))

  both_undo : (k : ℕ) → k ≤ length es → undone k (with_both es param body sub) ≡ undone k es
  both_undo =
      undoable_trans es (with_lambda es param body) (with_both es param body sub) (omega (arith, one_length))
      (λ k le. undone_append k es (entry_made lambda param body 0 0 1 ∷ []) le)
      (λ k le. undone_append k (with_lambda es param body) (entry_made lambda sub (length es) 0 0 1 ∷ []) le)

module _ (w : List ℕ) (sub sup f param body : ℕ) (good : T (well_formed w)) (old cap : ℕ) (e : old ≡ length (entries_of w)) (ce : cap ≡ (store_of w).capacities.entries) where
  outcome : outcome_for (store_of w) (sub ⊑ sup) (Functor f param body)
      ≡ goes (visit (sub ⊑ sup) (with_entries (with_both (entries_of w) param body sub) (store_of w))) ((f ⊑ length (with_lambda (entries_of w) param body)) ∷ [])
  unfolding outcome_for outcome_of follow_made changed_to with_graph with_entries visit with_visited new_entry put_entry spread_of
  outcome = refl

  -- the old ones have room
  pub functor_held : old ≤ cap
  functor_held = omega (arith, (formed_shown w good).within.held.entries)

  pub functor_full : cap - old < 2 → Gives (taken w (outcome_for (store_of w) (sub ⊑ sup) (Functor f param body))) (Err (NoRoom entries_region)) w
  functor_full h =
      gives _ _ w
      (ap (λ (o : Outcome Store Pair Failure). taken w o) outcome
      ∙ made_none w good (with_both (entries_of w) param body sub) (sub ⊑ sup) (f ⊑ length (with_lambda (entries_of w) param body)) (omega (arith, both_length (entries_of w) param body sub)))

  module _ (h : 2 ≤ cap - old) where
    pub functor_first : Shown w × (length (entries_of w) < (store_of w).capacities.entries)
    functor_first = (formed_shown w good, omega arith)

    module _ (v : List ℕ) (sv : Shows v (entries_to w (with_lambda (entries_of w) param body))) where
      pub functor_second : Shown v × (length (entries_of v) < (store_of v).capacities.entries)
      unfolding with_entries
      functor_second =
          (shown sv, omega (arith, ap (λ (t : Table). length t.store.entries) (seen sv), ap (λ (t : Table). t.store.capacities.entries) (seen sv), one_length (entries_of w) param body sub))

      module _ (u : List ℕ) (su : Shows u (entries_to v (with_lambda (entries_of v) sub old))) where
        shows : Shows u (entries_to w (with_both (entries_of w) param body sub))
        unfolding with_entries
        shows =
            let a : Shows u (entries_to w (with_lambda (with_lambda (entries_of w) param body) sub old)) = subst (λ (t : Table). Shows u (entries_in t (with_lambda t.store.entries sub old))) (seen sv) su in
            subst (λ (k : ℕ). Shows u (entries_to w (with_lambda (with_lambda (entries_of w) param body) sub k))) e a

        pub functor_settle : 0 < length (pending_in w) → Shown u × ((0 < length (pending_in u)) × ((old ≤ length (entries_of u)) × Shallow (take old (entries_of u))))
        functor_settle some = made_settles w good (with_both (entries_of w) param body sub) (sub ⊑ sup) u old shows e (both_kept (entries_of w) param body sub) some

        same : settled u old (sub ⊑ sup) (f ⊑ (old + 1)) ≡ taken w (outcome_for (store_of w) (sub ⊑ sup) (Functor f param body))
        same =
            let n : old + 1 ≡ length (with_lambda (entries_of w) param body) = omega (arith, one_length (entries_of w) param body sub) in
            ap (λ (i : ℕ). settled u old (sub ⊑ sup) (f ⊑ i)) n
            ∙ made_settled w good (with_both (entries_of w) param body sub) (sub ⊑ sup) u old shows e (f ⊑ length (with_lambda (entries_of w) param body))
            (undo_exact (entries_of w) (with_both (entries_of w) param body sub) (negation_known_lem (entries_of w) (fields_in w) (store_of w).names (sound_table w good).store.good.entries) (both_undo (entries_of w) param body sub))
            ∙ ap (λ (o : Outcome Store Pair Failure). taken w o) (sym outcome)

        pub functor_told : (x : Result Step Refusal) (z : List ℕ) → Gives (settled u old (sub ⊑ sup) (f ⊑ (old + 1))) x z → Gives (taken w (outcome_for (store_of w) (sub ⊑ sup) (Functor f param body))) x z
        functor_told x z k = subst (λ (t : Taken). Gives t x z) same k
