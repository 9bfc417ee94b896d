-- Tables started by us. An image is ours when it was started and then changed by calls alone. Its history is that of the model's
-- calls, and its first failure is the first that a call told. Assumes nothing.
use Rattle.std.specs.Prelude.{ℕ, ◌<◌, ◌≡◌, List, [], ◌∷◌, ◌++◌, false, cond, get_or, T, eqb, None, Option, Some}
use Rattle.histories.specs.Histories.{Calls, first_of, Past}
use Rattle.model.specs.Format.{word_end, unbroken, mismatched}
use Rattle.model.specs.Table.{Pair, Break, Capacities, Store, table_of}
use Rattle.model.specs.Lists.{any}
use Rattle.model.specs.Rules.{same_pair, break_of, rule}
use Rattle.model.specs.Told.{Told, done, yes, more, failed, refused, unopened}
use Rattle.model.specs.Calls.{leave, empty_table, capacities_right, start, opened, Call, turn_of, perform}
use Rattle.model.specs.declared.Question.{Question}
use Rattle.model.specs.declared.Failure.{Failure}
use Rattle.model.specs.declared.Failure.TheVariants as F
use Rattle.laws.specs.Turns.{stored_argument}
use Rattle.laws.specs.Refusals.{takes_steps}

-- a call that takes no step, found a table idle and left it so
pub record Changed (s u : Store) : Type 0 where
  pub call : Call
  pub plain : takes_steps call ≡ false
  pub words : List ℕ
  pub told : Told
  pub steps : ℕ
  pub leaves : turn_of call words (table_of s []) ≡ leave told steps (table_of u [])

-- a store as start makes it
pub record Started (s : Store) : Type 0 where
  pub names : ℕ
  pub functor : ℕ
  pub capacities : Capacities
  pub words : List ℕ
  pub right : T (capacities_right names functor capacities words)
  pub empty : s ≡ (empty_table names functor capacities).store

abbrev pub model_calls : Calls Store Pair
model_calls = record {
  Starts = Started;
  Opens = λ s u ps. (q : Question) × (opened q s ≡ table_of u ps);
  Quits = λ s u. u ≡ s;
  Changes = Changed;
}

-- a store and what is pending, from its start on, with this first failure
abbrev pub StorePast : Option Failure → Store → List Pair → Type 0
StorePast = Past rule model_calls

-- an image that is ours
pub data Ours : List ℕ → Type 0 where
  started : (names functor : ℕ) (c : Capacities) (ws : List ℕ) → T (capacities_right names functor c ws) → Ours (start names functor c ws).words
  called : {ws : List ℕ} (c : Call) → stored_argument c < word_end → Ours ws → Ours (perform c ws).words

-- the failure that is told, if one is
unfoldable pub failure_in : Told → Option Failure
failure_in (done l) = None
failure_in yes = None
failure_in more = None
failure_in (failed n l) = Some (cond (eqb n mismatched) (F.Mismatch (get_or l 0 0) (get_or l 1 0)) (F.MissingField (get_or l 0 0) (get_or l 1 0) (get_or l 2 0)))
failure_in (refused n l) = None
failure_in (unopened n l) = None

-- the first failure that a call told
unfoldable pub first_told : {ws : List ℕ} → Ours ws → Option Failure
first_told (started names functor c ws h) = None
first_told (called {ws = ws} c fits o) = first_of (first_told o) (failure_in (perform c ws).says)

-- the break words that it leaves; none where there is none
unfoldable pub break_by : Option Failure → Break
break_by None = record { kind = unbroken; sub = 0; sup = 0; name = 0 }
break_by (Some f) = break_of f

-- pairs of which each is none of those before it
pub data Once : List Pair → Type 0 where
  no_more : Once []
  once_more : {ps : List Pair} (p : Pair) → Once ps → any (same_pair p) ps ≡ false → Once (ps ++ (p ∷ []))
