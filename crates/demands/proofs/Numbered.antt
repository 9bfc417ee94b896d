-- What a call tells by number is a failure or a refusal of 01's: there is no other number. So a face that tells numbers tells which.
-- Assumes nothing.
use Prim.Native.Nat.{ℕ}
use mathlib.Core.Path.{◌≡◌, refl}
use mathlib.Core.List.{List}
use Rattle.instalments.specs.Machine.{yes_in, fail_in, more_at, Roomed, answered, refused_in}
use Rattle.instalments.specs.Machine as machine
use Rattle.model.specs.Table.{Pair, Store, Table, is_asked}
use Rattle.model.specs.Image.{table}
use Rattle.model.specs.Rules.{rule}
use Rattle.model.specs.Room.{room}
use Rattle.model.specs.Told.{Told, done, yes, more, failed, refused, unopened, told_refusal, told_failure, told_unopened}
use Rattle.model.specs.Calls.{Response, Turn, refuse, tell, leave, response_of, ask_turn, worked_turn, work_turn, then_work, open_turn, Call, denies, turn_of, perform}
use Rattle.model.specs.declared.Question.{Question}
use Rattle.model.specs.declared.Failure.{Failure}
use Rattle.model.specs.declared.Failure.TheVariants.{Mismatch, MissingField}
use Rattle.model.specs.declared.Refusal.{Refusal}
use Rattle.laws.specs.Turns.{IsDone, Plainly}
use Rattle.laws.proofs.Replies.{by_provided, by_admission, by_denial}
use Rattle.laws.proofs.Refused.{plainly, by_call}
use Rattle.laws.proofs.Questions.{Asks, ask_turn_lem}

abbrev pub Numbered : Told → Type 0
Numbered (done l) = Unit {0}
Numbered yes = Unit {0}
Numbered more = Unit {0}
Numbered (failed n l) = (f : Failure) × (failed n l ≡ told_failure f)
Numbered (refused n l) = (r : Refusal) × (refused n l ≡ told_refusal r)
Numbered (unopened n l) = (r : Refusal) × (unopened n l ≡ told_unopened r)

failure_numbered : (f : Failure) → Numbered (told_failure f)
failure_numbered (Mismatch sub sup) = (Mismatch sub sup, refl)
failure_numbered (MissingField sub sup name) = (MissingField sub sup name, refl)

done_numbered : (a : Told) → IsDone a → Numbered a
done_numbered (done l) h = tt
done_numbered yes h = tt
done_numbered more h = tt
done_numbered (failed n l) h = absurd h
done_numbered (refused n l) h = absurd h
done_numbered (unopened n l) h = absurd h

-- a turn, by what it says
abbrev Says : Turn → Type 0
Says (refuse r) = Unit {0}
Says (tell a) = Numbered a
Says (leave a k u) = Numbered a

plain_says : (t : Table) (turn : Turn) → Plainly t turn → Says turn
plain_says t (refuse r) h = tt
plain_says t (tell a) h = done_numbered a h
plain_says t (leave a k u) h = done_numbered a h.0

worked_says : (budget : ℕ) (x : Roomed Store Pair Failure Refusal) → Says (worked_turn budget x)
unfolding worked_turn
worked_says budget (answered (yes_in k u)) = tt
worked_says budget (answered (fail_in k f u)) = failure_numbered f
worked_says budget (answered (more_at u q)) = tt
worked_says budget (refused_in k w u q) = (w, refl)

work_says : (budget : ℕ) (t : Table) → Says (work_turn budget t)
unfolding work_turn
work_says budget t = by_provided Says (is_asked t) (λ h. tt) (λ h. worked_says budget (machine.work rule room budget t.store t.pending))

opening_says : (q : Question) (t : Table) (budget : ℕ) (turn : Turn) → Asks q t turn → Says (then_work budget turn)
unfolding then_work
opening_says q t budget (refuse r) h = (r, refl)
opening_says q t budget (tell a) h = absurd h
opening_says q t budget (leave a k u) h = work_says budget u

turn_says : (c : Call) (ws : List ℕ) (t : Table) → Says (turn_of c ws t)
unfolding turn_of open_turn
turn_says c ws t =
    by_call (λ (d : Call). Says (turn_of d ws t)) (λ d n. plain_says t (turn_of d ws t) (plainly d n ws t))
    (λ q b. opening_says q t b (ask_turn q t) (ask_turn_lem q t)) (λ b. work_says b t) c

reply_says : (ws : List ℕ) (turn : Turn) → Says turn → Numbered (response_of ws turn).says
unfolding response_of
reply_says ws (refuse r) h = (r, refl)
reply_says ws (tell a) h = h
reply_says ws (leave a k u) h = h

pub numbered : (c : Call) (ws : List ℕ) → Numbered (perform c ws).says
numbered c ws =
    by_admission (λ (r : Response). Numbered r.says) c ws (λ r h. reply_says ws (tell (denies c r)) (by_denial Numbered c r (r, refl) (r, refl)))
    (λ h. reply_says ws (turn_of c ws (table ws)) (turn_says c ws (table ws)))
