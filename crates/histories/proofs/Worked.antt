-- Work goes on with a history, whatever it answers, and only its failure counts as one. Assumes nothing.
use Rattle.std.specs.Prelude.{None, Option, Some}
use mathlib.Core.Path.{◌≡◌, refl, ap, ◌∙◌}
use mathlib.Core.List.{List, []}
use Prim.Native.Nat.{ℕ}
use Rattle.instalments.specs.Machine.{Outcome, Room, work}
use Rattle.instalments.proofs.Kept.{Kept, work_kept}
use Rattle.histories.specs.Histories.{Calls, Event, steps, breaks, next, first_of, failure_of, first_failure, Past}

pub first_none : {F : Type 0} (o : Option F) → first_of o None ≡ o
unfolding first_of
first_none (Some f) = refl
first_none None = refl

module _ {T P F : Type 0} (rule : T → P → Outcome T P F) (calls : Calls T P) where
  -- one event more
  pub past_next : {o : Option F} {t u : T} {r q : List P} → Past rule calls o t r → (e : Event rule calls t r u q) → Past rule calls (first_of o (failure_of e)) u q
  unfolding first_failure
  past_next h e = (next h.0 e, ap (λ (x : Option F). first_of x (failure_of e)) h.1)

  -- that is no failure
  pub past_on : {o : Option F} {t u : T} {r q : List P} → Past rule calls o t r → (e : Event rule calls t r u q) → failure_of e ≡ None → Past rule calls o u q
  past_on {o} h e n = let k = past_next h e in (k.0, k.1 ∙ ap (first_of o) n ∙ first_none o)

  module _ {R : Type 0} (room : T → P → List P → Room R) where
    pub work_history : {o : Option F} (n : ℕ) (t : T) (r : List P) → Past rule calls o t r
        → Kept (Past rule calls o) (λ f u. Past rule calls (first_of o (Some f)) u []) (work rule room n t r)
    unfolding failure_of
    work_history {o} =
        work_kept rule room (Past rule calls o) (λ f u. Past rule calls (first_of o (Some f)) u [])
        (λ t u before qs p h e g. past_on h (steps before p qs refl g refl) refl)
        (λ t u before p f h e g. past_next h (breaks before p f refl g refl))
