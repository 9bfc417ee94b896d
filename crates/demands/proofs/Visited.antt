-- In a table started by us no pair is visited twice: a step records its pair only where it was not visited yet, and nothing else records
-- one. So a step adds one record at most. Assumes nothing.
use Prim.Native.Nat.{ℕ}
use mathlib.Core.Path.{◌≡◌, refl, sym, ap, ◌∙◌, subst}
use mathlib.Core.List.{List, [], ◌∷◌, ◌++◌}
use mathlib.Core.Bool.{Bool, true, false, not, ◌||◌}
use mathlib.Core.Logic.{◌⊎◌, inl, inr}
use lib.Dec.{T, eqb}
use Rattle.instalments.specs.Machine.{Outcome, fails, goes}
use Rattle.histories.specs.Histories.{Event, opens, steps, breaks, quits, changes, History, begun, next}
use Rattle.model.specs.Table.{Pair, Store, Table, table_of, graph_of, is_broken, with_visited, with_graph, with_broken}
use Rattle.model.specs.Image.{table}
use Rattle.model.specs.Rules.{Effect, mismatch, missing, follow, pair_rule, is_visited, visit, fill_break, failing, outcome_of, rule}
use Rattle.model.specs.Calls.{empty_table, opened}
use Rattle.model.specs.declared.Failure.{Failure}
use Rattle.laws.proofs.Stores.{by_test}
use Rattle.laws.proofs.Refused.{record_spares}
use Rattle.demands.specs.Started.{model_calls, Once, no_more, once_more, Ours}
use Rattle.demands.proofs.Events.{changed_spares}
use Rattle.demands.proofs.Started.{ours_past}

-- the pair is passed over, or recorded last
abbrev Recorded : Store → Pair → Store → Type 0
Recorded s p u = (u.visited ≡ s.visited) ⊎ ((is_visited s p ≡ false) × (u.visited ≡ s.visited ++ (p ∷ [])))

abbrev RecordedBy : Store → Pair → Outcome Store Pair Failure → Type 0
RecordedBy s p (goes u qs) = Recorded s p u
RecordedBy s p (fails f u) = Recorded s p u

fill_visited : (f : Failure) (s : Store) → (fill_break f s).visited ≡ s.visited
unfolding fill_break with_broken
fill_visited f s = by_test (λ (u : Store). u.visited ≡ s.visited) (is_broken s) (λ h. refl) (λ h. refl)

outcome_records : (s : Store) (p : Pair) (e : Effect) → is_visited s p ≡ false → RecordedBy s p (outcome_of (visit p s) p e)
unfolding outcome_of failing visit with_visited with_graph
outcome_records s p mismatch n = inr (n, fill_visited _ (visit p s))
outcome_records s p (missing name) n = inr (n, fill_visited _ (visit p s))
outcome_records s p (follow g qs) n = inr (n, refl)

neither : (a b : Bool) → T (not (a || b)) → b ≡ false
neither true b h = absurd h
neither false true h = absurd h
neither false false h = refl

pub rule_records : (s : Store) (p : Pair) → RecordedBy s p (rule s p)
unfolding rule
rule_records s p =
    by_test (RecordedBy s p) (eqb p.sub p.sup || is_visited s p) (λ h. inl refl)
    (λ h. outcome_records s p (pair_rule (graph_of s) p.sub p.sup) (neither (eqb p.sub p.sup) (is_visited s p) h))

once_by : (s u : Store) (p : Pair) → Recorded s p u → Once s.visited → Once u.visited
unfolding is_visited
once_by s u p (inl e) h = subst Once (sym e) h
once_by s u p (inr e) h = subst Once (sym e.1) (once_more p h e.0)

event_once : {t u : Store} {r q : List Pair} → Event rule model_calls t r u q → Once t.visited → Once u.visited
unfolding opened
event_once {t} {u} (opens e k) h = subst Once (sym (sym (ap (λ (x : Table). x.store.visited) k.1) ∙ (record_spares (table_of t []) k.0).1)) h
event_once {t} {u} (steps before p qs e g d) h = once_by t u p (subst (λ (o : Outcome Store Pair Failure). RecordedBy t p o) g (rule_records t p)) h
event_once {t} {u} (breaks before p f e g d) h = once_by t u p (subst (λ (o : Outcome Store Pair Failure). RecordedBy t p o) g (rule_records t p)) h
event_once {t} {u} (quits k d) h = subst Once (sym (ap (λ (x : Store). x.visited) k)) h
event_once {t} {u} (changes k e d) h = subst Once (sym (changed_spares t u k).visited) h

history_once : {s : Store} {r : List Pair} → History rule model_calls s r → Once s.visited
unfolding empty_table
history_once (begun k) = subst Once (sym (ap (λ (x : Store). x.visited) k.empty)) no_more
history_once (next h e) = event_once e (history_once h)

pub ours_visited_once : {ws : List ℕ} → Ours ws → Once (table ws).store.visited
ours_visited_once o = history_once (ours_past o).0
