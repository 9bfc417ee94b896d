-- Demand 1 of the model, openings: refused at the opening, no step is done and every word is as found; refused by a step of the first
-- instalment, the words are those of the steps before, their number is told, and the question is asked. Assumes nothing.
use Prim.Native.Nat.{ℕ, suc}
use native.Mathlib.Omega.{arith}
use mathlib.Core.Path.{◌≡◌, refl, sym, ap, ◌∙◌}
use mathlib.Core.List.{List}
use mathlib.Core.Bool.{true, not}
use lib.Dec.{T}
use Rattle.instalments.specs.Machine.{yes_in, fail_in, more_at, Roomed, answered, refused_in}
use Rattle.instalments.specs.Machine as machine
use Rattle.model.specs.Table.{Pair, Store, Table, is_asked}
use Rattle.model.specs.Image.{table}
use Rattle.model.specs.Formed.{well_formed}
use Rattle.model.specs.Rules.{rule}
use Rattle.model.specs.Room.{room}
use Rattle.model.specs.Calls.{Response, Turn, refuse, tell, leave, response_of, worked_turn, work_turn, opens, works, turn_of, perform, asked}
use Rattle.model.specs.Told.{Told, told_refusal, told_unopened}
use Rattle.model.specs.declared.Question.{Question}
use Rattle.model.specs.declared.Failure.{Failure}
use Rattle.model.specs.declared.Refusal.{Refusal}
use Rattle.model.specs.declared.Refusal.TheVariants as R
use Rattle.laws.specs.Refusals.{for_room, KeepsEarlier}
use Rattle.laws.proofs.Tests.{true_of}
use Rattle.laws.proofs.Replies.{passed_by, perform_formed}
use Rattle.laws.proofs.Questions.{Opened, opened_works, opened_stays, says_unopened, says_opened}
use Rattle.laws.proofs.Refused.{WorkRefuses, worked_by, work_refused_keeps, work_refused_stays}

-- a turn that leaves a table
abbrev Leaving : Turn → Type 0
Leaving (refuse r) = ⊥
Leaving (tell a) = ⊥
Leaving (leave a k u) = Unit {0}

worked_leaves : (budget : ℕ) (x : Roomed Store Pair Failure Refusal) → Leaving (worked_turn budget x)
unfolding worked_turn
worked_leaves budget (answered (yes_in k u)) = tt
worked_leaves budget (answered (fail_in k f u)) = tt
worked_leaves budget (answered (more_at u q)) = tt
worked_leaves budget (refused_in k w u q) = tt

refusal_not_unopened : (r w : Refusal) → ◌≡◌ {A = Told} (told_refusal r) (told_unopened w) → ⊥
refusal_not_unopened r w e = let z : ◌≡◌ {A = ℕ} 0 1 = cc in omega arith

-- work of a well formed image that is asked is refused by 5 or 6 alone
worked_for_room : (b : ℕ) (ws : List ℕ) (turn : Turn) → WorkRefuses b turn → (r : Refusal) → (response_of ws turn).says ≡ told_refusal r → Leaving turn → T (for_room r)
unfolding response_of
worked_for_room b ws (refuse w) h r e l = absurd l
worked_for_room b ws (tell a) h r e l = absurd h
worked_for_room b ws (leave a k u) h r e l = (h r e).0

asked_for_room : (b : ℕ) (ws : List ℕ) → T (well_formed ws) → T (is_asked (table ws)) → (r : Refusal) → (perform (works b) ws).says ≡ told_refusal r → T (for_room r)
unfolding turn_of work_turn
asked_for_room b ws h a r e =
    let t : Table = table ws in
    let x : Roomed Store Pair Failure Refusal = machine.work rule room b t.store t.pending in
    let taken : work_turn b t ≡ worked_turn b x = passed_by (is_asked t) R.Idle (worked_turn b x) (true_of (is_asked t) a) in
    worked_for_room b ws (worked_turn b x) (worked_by b t x refl) r (ap (λ (turn : Turn). (response_of ws turn).says) (sym taken) ∙ (rw (perform_formed (works b) ws h) at e)) (worked_leaves b x)

-- Refused at the opening: no step, and every word as found.
pub opening_refused_as_found : (q : Question) (b : ℕ) (ws : List ℕ) (r : Refusal) → (perform (opens q b) ws).says ≡ told_unopened r
    → ((perform (opens q b) ws).words ≡ ws) × ((perform (opens q b) ws).steps ≡ 0)
opening_refused_as_found q b ws r e =
    let k = (says_unopened q ws b r e).opening b in
    (ap (λ (x : Response). x.words) k, ap (λ (x : Response). x.steps) k)

-- Refused by a step of the first instalment: by 5 or 6; the image was idle; the words of the steps before, their number, and it is asked;
-- and worked again, with any budget but 0, it is refused again, with nothing done.
module _ (q : Question) (b : ℕ) (ws : List ℕ) (r : Refusal) (e : (perform (opens q b) ws).says ≡ told_refusal r) where
  is_opened : Opened q ws
  is_opened = says_opened q ws b (λ w g. refusal_not_unopened r w (sym e ∙ g))

  abbrev v : List ℕ
  v = (asked q ws).words

  as_work : perform (opens q b) ws ≡ perform (works b) v
  as_work = opened_works q ws is_opened b

  work_says : (perform (works b) v).says ≡ told_refusal r
  work_says = sym (ap (λ (x : Response). x.says) as_work) ∙ e

  pub opening_for_room : for_room r ≡ true
  opening_for_room = true_of (for_room r) (asked_for_room b v is_opened.stays (opened_stays q ws is_opened) r work_says)

  pub opening_was_idle : T (not (is_asked (table ws)))
  opening_was_idle = is_opened.idle

  pub opening_refused_keeps : KeepsEarlier (opens q) b ws (perform (opens q b) ws).steps (perform (opens q b) ws).words
  opening_refused_keeps =
      let k = work_refused_keeps b v r opening_for_room work_says in
      rw as_work (record {
        formed = is_opened.formed;
        fewer = k.fewer;
        earlier = opened_works q ws is_opened (perform (works b) v).steps ∙ k.earlier;
        stays = k.stays;
      })

  pub opening_refused_stays : (n : ℕ) → perform (works (suc n)) (perform (opens q b) ws).words ≡ record { says = told_refusal r; steps = 0; words = (perform (opens q b) ws).words }
  opening_refused_stays = rw as_work (work_refused_stays b v r opening_for_room work_says)
