-- A question's refusals, and what it opens where there is none; what an instalment replies where a question is asked. Assumes nothing.
use Rattle.std.specs.Prelude.{ℕ, ◌≤◌, ◌≡◌, List, [], length, Err, Ok, Result}
use Rattle.model.specs.declared.Refusal.{Refusal}
use Rattle.instalments.specs.Machine.{enough, lacks}
use Rattle.instalments.specs.Machine as machine
use Rattle.model.specs.Image.{table}
use Rattle.model.specs.Rules.{rule}
use Rattle.model.specs.Room.{fitting, room}
use Rattle.model.specs.Calls.{Response, response_of, refuse, leave, recorded, pairs_of, opened, ask_turn, worked_turn}
use Rattle.model.specs.Told.{done}
use Rattle.model.specs.declared.Question.{Question}

-- the records of a question have room
pub record HasRoom (w : List ℕ) (q : Question) : Type 0 where
  pub pairs : length (pairs_of q) ≤ (table w).store.capacities.pending
  pub equals : length (recorded q (table w).store).equals ≤ (table w).store.capacities.equals

-- the room for what a question opens, or the region that lacks a record
abbrev pub Roomy : List ℕ → Question → Result (Unit {0}) Refusal → Type 0
Roomy w q (Err r) = fitting (recorded q (table w).store) (length (pairs_of q)) ≡ lacks r
Roomy w q (Ok tt) = HasRoom w q × (fitting (recorded q (table w).store) (length (pairs_of q)) ≡ enough)

-- refused; or the image is idle, there is room, and the question opens
abbrev pub Fitness : List ℕ → Question → Result (Unit {0}) Refusal → Type 0
Fitness w q (Err r) = ask_turn q (table w) ≡ refuse r
Fitness w q (Ok tt) = HasRoom w q × ((table w).pending ≡ []) × (ask_turn q (table w) ≡ leave (done []) 0 (opened q (table w).store))

unfoldable pub worked : List ℕ → ℕ → Response
worked w budget = response_of w (worked_turn budget (machine.work rule room budget (table w).store (table w).pending))
