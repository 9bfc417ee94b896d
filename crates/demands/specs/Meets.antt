-- What the contract of a call says: what is told, the steps and the words after are the model's. The contracts of every face are of this
-- form (crates/sheafwinch/proofs/Contracts.antt, crates/capi/proofs/Contracts.antt), so that each demand is stated once, over it. Assumes nothing.
use Rattle.std.specs.Prelude.{ℕ, ◌+◌, ◌<◌, ◌≡◌, List, [], ◌∷◌, false}
use Rattle.instalments.specs.Machine.{total}
use Rattle.instalments.specs.Whole.{well, broken, Whole, Partly}
use Rattle.model.specs.Format.{word_end}
use Rattle.model.specs.Table.{Pair, Capacities, Store, table_of}
use Rattle.model.specs.Image.{words, table}
use Rattle.model.specs.Rules.{rule}
use Rattle.model.specs.Told.{Told, yes, more, told_refusal, told_failure}
use Rattle.model.specs.Calls.{Call, opens, works, start, perform}
use Rattle.model.specs.declared.Question.{Question}
use Rattle.model.specs.declared.Failure.{Failure}
use Rattle.model.specs.declared.Refusal.{Refusal}
use Rattle.laws.specs.Demands.{is_more}
use Rattle.laws.specs.Turns.{stored_argument}

-- a call on the image `before` that told this, after so many steps, and left the image `after`
pub record Meets (c : Call) (before : List ℕ) (told : Told) (steps : ℕ) (after : List ℕ) : Type 0 where
  pub tells : told ≡ (perform c before).says
  pub counts : steps ≡ (perform c before).steps
  pub leaves : after ≡ (perform c before).words

-- and start
pub record MeetsStart (names functor : ℕ) (c : Capacities) (before : List ℕ) (told : Told) (after : List ℕ) : Type 0 where
  pub tells : told ≡ (start names functor c before).says
  pub leaves : after ≡ (start names functor c before).words

-- the image at some later time: after any calls but start; a label or a level, which is stored as it is, is a word
pub data Later (v : List ℕ) : List ℕ → Type 0 where
  at_once : Later v v
  later : {u w : List ℕ} {a : Told} {n : ℕ} (c : Call) → stored_argument c < word_end → Meets c u a n w → Later v u → Later v w

-- calls of work one after the other, with these budgets, going on while it answers MORE: the last answer, the steps in all, the image after
pub data Run : (budgets before : List ℕ) → Told → (steps : ℕ) → (after : List ℕ) → Type 0 where
  none : {v : List ℕ} → Run [] v more 0 v
  ends : {bs v w : List ℕ} {a : Told} {n : ℕ} (b : ℕ) → Meets (works b) v a n w → is_more a ≡ false → Run (b ∷ bs) v a n w
  goes_on : {bs v u w : List ℕ} {a : Told} {n m : ℕ} (b : ℕ) → Meets (works b) v more n u → Run bs u a m w → Run (b ∷ bs) v a (n + m) w

-- a question from its opening on, which is its first instalment: the first budget is the opening's, the others are of calls of work
pub data Course (q : Question) : (budgets before : List ℕ) → Told → (steps : ℕ) → (after : List ℕ) → Type 0 where
  at_opening : {bs v w : List ℕ} {a : Told} {n : ℕ} (b : ℕ) → Meets (opens q b) v a n w → is_more a ≡ false → Course q (b ∷ bs) v a n w
  worked_on : {bs v u w : List ℕ} {a : Told} {n m : ℕ} (b : ℕ) → Meets (opens q b) v more n u → Run bs u a m w → Course q (b ∷ bs) v a (n + m) w

-- Demand 3 in the customer's words: a question that began with the store `s` and the pairs `ps`, in the order in which they are worked,
-- after instalments that answered `a`, took `n` steps and left the words `w`.
pub record Instalments (budgets : List ℕ) (s : Store) (ps : List Pair) (a : Told) (n : ℕ) (w : List ℕ) : Type 0 where
  -- yes, or a failure: the rules without a pause end so, in as many steps, and every word is theirs
  pub to_yes : a ≡ yes → (u : Store) × Whole rule s ps n (well u) × (w ≡ words (table_of u []))
  pub to_failure : (f : Failure) → a ≡ told_failure f → (u : Store) × Whole rule s ps n (broken f u) × (w ≡ words (table_of u []))
  -- MORE: every budget is used, and the store is that of the nested rules stopped after just that many steps
  pub to_more : a ≡ more → (u : Store) × (n ≡ total budgets) × Partly rule s ps n u × ((table w).store ≡ u)
  -- refused by 5 or 6: the same after the steps that it tells
  pub to_refusal : (r : Refusal) → a ≡ told_refusal r → (u : Store) × Partly rule s ps n u × ((table w).store ≡ u)
