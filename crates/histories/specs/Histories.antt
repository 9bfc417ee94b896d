-- Histories: a table from its start on, through questions opened, steps, failures, questions given up and other calls. One notion for
-- whatever is said of "any sequence of calls": a promise about history is a function or a law by recursion on it. Assumes nothing.
use Rattle.std.specs.Prelude.{◌≡◌, List, [], ◌∷◌, ◌++◌, reverse, None, Option, Some}
use Rattle.instalments.specs.Machine.{Outcome, fails, goes}

-- what the calls may do besides steps: a table started; from an idle table, a question opened, with the pairs that are pending then; a
-- question given up; any other call, which finds and leaves a table idle
pub record Calls (T P : Type 0) : Type 1 where
  pub Starts : T → Type 0
  pub Opens : T → T → List P → Type 0
  pub Quits : T → T → Type 0
  pub Changes : T → T → Type 0

module _ {T P F : Type 0} (rule : T → P → Outcome T P F) (calls : Calls T P) where
  -- one thing that happens, from the table t with r pending to the table u with q pending
  pub data Event (t : T) (r : List P) (u : T) (q : List P) : Type 0 where
    opens : r ≡ [] → calls.Opens t u q → Event t r u q
    steps : (before : List P) (p : P) (qs : List P) → r ≡ before ++ (p ∷ []) → rule t p ≡ goes u qs → q ≡ before ++ reverse qs → Event t r u q
    breaks : (before : List P) (p : P) (f : F) → r ≡ before ++ (p ∷ []) → rule t p ≡ fails f u → q ≡ [] → Event t r u q
    quits : calls.Quits t u → q ≡ [] → Event t r u q
    changes : calls.Changes t u → r ≡ [] → q ≡ [] → Event t r u q

  -- the table now, and what is pending
  pub data History : T → List P → Type 0 where
    begun : {t : T} → calls.Starts t → History t []
    next : {t u : T} {r q : List P} → History t r → Event t r u q → History u q

-- the first that there is
unfoldable pub first_of : {F : Type 0} → Option F → Option F → Option F
first_of (Some f) o = Some f
first_of None o = o

module _ {T P F : Type 0} {rule : T → P → Outcome T P F} {calls : Calls T P} where
  -- the first failure, where a question has failed
  unfoldable pub failure_of : {t u : T} {r q : List P} → Event rule calls t r u q → Option F
  failure_of (opens e o) = None
  failure_of (steps before p qs e g d) = None
  failure_of (breaks before p f e g d) = Some f
  failure_of (quits o d) = None
  failure_of (changes o e d) = None

  unfoldable pub first_failure : {t : T} {r : List P} → History rule calls t r → Option F
  first_failure (begun s) = None
  first_failure (next h e) = first_of (first_failure h) (failure_of e)

-- a history with this first failure
module _ {T P F : Type 0} (rule : T → P → Outcome T P F) (calls : Calls T P) where
  abbrev pub Past : Option F → T → List P → Type 0
  Past o t r = (h : History rule calls t r) × (first_failure h ≡ o)
