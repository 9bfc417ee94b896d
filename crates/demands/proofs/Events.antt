-- What each event of a history does to the break words: over every history they are those of the first failure. Assumes nothing.
use Rattle.std.specs.Prelude.{None, Option, Some}
use mathlib.Core.Path.{◌≡◌, sym, ap, ◌∙◌, subst}
use mathlib.Core.List.{List, []}
use mathlib.Core.Bool.{not}
use lib.Dec.{eqb}
use Rattle.histories.specs.Histories.{Event, opens, steps, breaks, quits, changes, History, begun, next, first_of, failure_of, first_failure}
use Rattle.histories.proofs.Worked.{first_none}
use Rattle.model.specs.Format.{unbroken}
use Rattle.model.specs.Table.{Pair, Store, Table, table_of, is_broken}
use Rattle.model.specs.Rules.{break_of, rule}
use Rattle.model.specs.Calls.{Turn, empty_table, opened}
use Rattle.model.specs.declared.Failure.{Failure}
use Rattle.laws.specs.Turns.{Spares, Plainly}
use Rattle.laws.specs.Refusals.{break_after}
use Rattle.laws.proofs.Tests.{true_of}
use Rattle.laws.proofs.Refused.{record_spares, plainly}
use Rattle.laws.proofs.Breaks.{goes_break, fails_break, break_kind}
use Rattle.demands.specs.Started.{Changed, model_calls, StorePast, break_by}

-- a failure's break is one, so that a later failure does not fill it
after_first : (o : Option Failure) (g : Failure) (s : Store) → s.broken ≡ break_by o → break_after g s ≡ break_by (first_of o (Some g))
unfolding is_broken break_by first_of
after_first None g s e = rw e
after_first (Some f) g s e = rw (e, true_of (not (eqb (break_of f).kind unbroken)) (break_kind f))

-- a call that finds a table idle and leaves it so
pub changed_spares : (s u : Store) → Changed s u → Spares (table_of s []) (table_of u [])
changed_spares s u h = (subst (λ (turn : Turn). Plainly (table_of s []) turn) h.leaves (plainly h.call h.plain h.words (table_of s []))).2

kept : (o : Option Failure) → break_by o ≡ break_by (first_of o None)
kept o = ap break_by (sym (first_none o))

event_break : {t u : Store} {r q : List Pair} (e : Event rule model_calls t r u q) (o : Option Failure) → t.broken ≡ break_by o → u.broken ≡ break_by (first_of o (failure_of e))
unfolding failure_of opened
event_break {t} {u} (opens e k) o h =
    sym (ap (λ (x : Table). x.store.broken) k.1) ∙ (record_spares (table_of t []) k.0).0 ∙ h ∙ kept o
event_break {t} {u} (steps before p qs e g d) o h = goes_break t u qs p g ∙ h ∙ kept o
event_break {t} {u} (breaks before p f e g d) o h = fails_break t u p f g ∙ after_first o f t h
event_break {t} {u} (quits k d) o h = ap (λ (x : Store). x.broken) k ∙ h ∙ kept o
event_break {t} {u} (changes k e d) o h = (changed_spares t u k).broken ∙ h ∙ kept o

history_break : {s : Store} {r : List Pair} (h : History rule model_calls s r) → s.broken ≡ break_by (first_failure h)
unfolding first_failure break_by empty_table
history_break (begun k) = ap (λ (x : Store). x.broken) k.empty
history_break (next h e) = event_break e (first_failure h) (history_break h)

pub past_break : {o : Option Failure} {s : Store} {r : List Pair} → StorePast o s r → s.broken ≡ break_by o
past_break h = history_break h.0 ∙ ap break_by h.1
