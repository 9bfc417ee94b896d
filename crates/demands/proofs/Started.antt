-- An image that is ours is well formed and has a history, whose first failure is the first that a call told. So refusal 1 never comes
-- there, and a held question is refused with 8 exactly when an earlier question has failed, with that first failure. Assumes nothing.
use Rattle.std.specs.Prelude.{None, Option, Some}
use Prim.Native.Nat.{ℕ, ◌<◌}
use mathlib.Core.Path.{◌≡◌, refl, sym, ap, ◌∙◌, subst}
use mathlib.Core.List.{List, [], ◌∷◌}
use mathlib.Core.Bool.{true, not, false}
use lib.Dec.{T}
use Rattle.instalments.specs.Machine.{yes_in, fail_in, more_at, Roomed, answered, refused_in}
use Rattle.instalments.specs.Machine as machine
use Rattle.instalments.proofs.Kept.{Kept}
use Rattle.histories.specs.Histories.{opens, quits, changes, begun, first_of, failure_of, first_failure}
use Rattle.histories.proofs.Worked.{first_none, past_on, work_history}
use Rattle.model.specs.Format.{word_end}
use Rattle.model.specs.Table.{Pair, Break, Capacities, Store, Table, table_of, is_asked, is_broken}
use Rattle.model.specs.Image.{words, table}
use Rattle.model.specs.Formed.{well_formed}
use Rattle.model.specs.Rules.{break_of, rule}
use Rattle.model.specs.Room.{room}
use Rattle.model.specs.Told.{Told, done, yes, more, failed, refused, told_failure, unopened, told_unopened}
use Rattle.model.specs.Calls.{Turn, refuse, tell, leave, response_of, provided, empty_table, capacities_right, start, broken_by, ask_turn, worked_turn, work_turn, then_work, open_turn, Call, turn_of, perform}
use Rattle.model.specs.Calls as model
use Rattle.model.specs.declared.Question.{Question}
use Rattle.model.specs.declared.Failure.{Failure}
use Rattle.model.specs.declared.Failure.TheVariants.{Mismatch, MissingField}
use Rattle.model.specs.declared.Refusal.{Refusal}
use Rattle.model.specs.declared.Refusal.TheVariants as R
use Rattle.laws.specs.Turns.{TurnSound, stored_argument, Way, IsDone, Plainly}
use Rattle.laws.specs.Turns as way
use Rattle.laws.specs.Refusals.{takes_steps, plain, perform_all, AllFit}
use Rattle.laws.proofs.Tests.{true_of}
use Rattle.laws.proofs.Replies.{by_provided, perform_formed}
use Rattle.laws.proofs.Formed.{sound_table}
use Rattle.laws.proofs.Calls.{turn_sound, read_back, call_formed, start_formed}
use Rattle.laws.proofs.Refused.{idle_pending, plainly, by_call}
use Rattle.laws.proofs.Questions.{Asks, ask_turn_lem}
use Rattle.laws.proofs.Runs.{formed_back}
use Rattle.laws.proofs.Breaks.{break_kind, held_refused, refused_broken, held_as_plain}
use Rattle.demands.specs.Started.{model_calls, StorePast, Ours, started, called, failure_in, first_told, break_by}
use Rattle.demands.proofs.Events.{past_break}

-- what is told is a failure only where work fails
told_again : (f : Failure) → failure_in (told_failure f) ≡ Some f
unfolding failure_in
told_again (Mismatch a b) = refl
told_again (MissingField a b n) = refl

done_tells_none : (a : Told) → IsDone a → failure_in a ≡ None
unfolding failure_in
done_tells_none (done l) h = refl
done_tells_none yes h = refl
done_tells_none more h = refl
done_tells_none (failed n l) h = absurd h
done_tells_none (refused n l) h = refl
done_tells_none (unopened n l) h = refl

-- what a turn leaves has a past, with the failure that it tells
abbrev LeavesPast : Option Failure → Turn → Type 0
LeavesPast o (refuse r) = Unit {0}
LeavesPast o (tell a) = failure_in a ≡ None
LeavesPast o (leave a k u) = StorePast (first_of o (failure_in a)) u.store u.pending

module _ {o : Option Failure} (t : Table) (h : StorePast o t.store t.pending) where
  by_way : (c : Call) → takes_steps c ≡ false → (ws : List ℕ) (a : Told) (k : ℕ) (u : Table) → turn_of c ws t ≡ leave a k u → Way t u → StorePast o u.store u.pending
  unfolding failure_of
  by_way c p ws a k u e (way.quits d) = past_on rule model_calls h (quits (ap (λ (x : Table). x.store) d) (ap (λ (x : Table). x.pending) d)) refl
  by_way c p ws a k u e (way.changes n m) =
      let f : turn_of c ws (table_of t.store []) ≡ leave a k u = subst (λ (q : List Pair). turn_of c ws (table_of t.store q) ≡ leave a k u) n e in
      let g : turn_of c ws (table_of t.store []) ≡ leave a k (table_of u.store []) = subst (λ (q : List Pair). turn_of c ws (table_of t.store []) ≡ leave a k (table_of u.store q)) m f in
      past_on rule model_calls h (changes (record { call = c; plain = p; words = ws; told = a; steps = k; leaves = g }) n m) refl

  -- what is told is no failure
  no_failure : (x : Option Failure) (s : Store) (ps : List Pair) → x ≡ None → StorePast o s ps → StorePast (first_of o x) s ps
  no_failure x s ps e k = subst (λ (y : Option Failure). StorePast y s ps) (sym (ap (first_of o) e ∙ first_none o)) k

  plain_on : (c : Call) → takes_steps c ≡ false → (ws : List ℕ) (turn : Turn) → turn_of c ws t ≡ turn → Plainly t turn → LeavesPast o turn
  plain_on c d ws (refuse r) e p = tt
  plain_on c d ws (tell a) e p = done_tells_none a p
  plain_on c d ws (leave a k u) e p = no_failure (failure_in a) u.store u.pending (done_tells_none a p.0) (by_way c d ws a k u e p.2.way)

  worked_on : (budget : ℕ) (x : Roomed Store Pair Failure Refusal) → Kept (StorePast o) (λ f u. StorePast (first_of o (Some f)) u []) x → LeavesPast o (worked_turn budget x)
  unfolding worked_turn failure_in
  worked_on budget (answered (yes_in k u)) j = no_failure None u [] refl j
  worked_on budget (answered (fail_in k f u)) j = subst (λ (x : Option Failure). StorePast (first_of o x) u []) (sym (told_again f)) j
  worked_on budget (answered (more_at u q)) j = no_failure None u q refl j
  worked_on budget (refused_in k w u q) j = no_failure None u q refl j

  work_on : (budget : ℕ) → LeavesPast o (work_turn budget t)
  unfolding work_turn
  work_on budget =
      by_provided (LeavesPast o) (is_asked t) (λ k. tt)
      (λ k. worked_on budget (machine.work rule room budget t.store t.pending) (work_history rule model_calls room budget t.store t.pending h))

-- a question opened, and then worked
opening_on : {o : Option Failure} (t : Table) → StorePast o t.store t.pending → (q : Question) (budget : ℕ) (turn : Turn) → Asks q t turn → LeavesPast o (then_work budget turn)
unfolding then_work failure_in failure_of
opening_on t h q budget (refuse r) k = refl
opening_on t h q budget (tell a) k = absurd k
opening_on t h q budget (leave a i u) k = work_on u (past_on rule model_calls h (opens (idle_pending t k.3) (q, sym k.2)) refl) budget

-- every call
turn_on : {o : Option Failure} (t : Table) → StorePast o t.store t.pending → (c : Call) (ws : List ℕ) → LeavesPast o (turn_of c ws t)
unfolding turn_of open_turn
turn_on {o} t h c ws =
    by_call (λ (d : Call). LeavesPast o (turn_of d ws t)) (λ d n. plain_on t h d n ws (turn_of d ws t) refl (plainly d n ws t))
    (λ q b. opening_on t h q b (ask_turn q t) (ask_turn_lem q t)) (work_on t h) c

-- in the words
abbrev pub ImagePast : Option Failure → List ℕ → Type 0
ImagePast o ws = StorePast o (table ws).store (table ws).pending

reply_past : (o : Option Failure) (ws : List ℕ) (turn : Turn) → ImagePast o ws → TurnSound (table ws) turn → LeavesPast o turn
    → ImagePast (first_of o (failure_in (response_of ws turn).says)) (response_of ws turn).words
unfolding response_of failure_in
reply_past o ws (refuse r) h s k = subst (λ (x : Option Failure). ImagePast x ws) (sym (first_none o)) h
reply_past o ws (tell a) h s k = subst (λ (x : Option Failure). ImagePast x ws) (sym (ap (first_of o) k ∙ first_none o)) h
reply_past o ws (leave a n u) h s k = rw (read_back u s.0) k

call_past : (o : Option Failure) (c : Call) → stored_argument c < word_end → (ws : List ℕ) → T (well_formed ws) → ImagePast o ws
    → ImagePast (first_of o (failure_in (perform c ws).says)) (perform c ws).words
call_past o c fits ws f h =
    rw (perform_formed c ws f) (reply_past o ws (turn_of c ws (table ws)) h (turn_sound c fits ws (table ws) (sound_table ws f)) (turn_on (table ws) h c ws))

start_past : (names functor : ℕ) (c : Capacities) (ws : List ℕ) → T (capacities_right names functor c ws) → ImagePast None (start names functor c ws).words
unfolding start provided response_of empty_table first_failure
start_past names functor c ws h =
    let e : (start names functor c ws).words ≡ words (empty_table names functor c) = rw (true_of (capacities_right names functor c ws) h) in
    let f : T (well_formed (words (empty_table names functor c))) = rw e at (start_formed names functor c ws h) in
    rw e (rw (formed_back (empty_table names functor c) f) (begun (record { names = names; functor = functor; capacities = c; words = ws; right = h; empty = refl }), refl))

-- a table started by us and changed by calls alone is well formed at all times
pub ours_formed : {ws : List ℕ} → Ours ws → T (well_formed ws)
ours_formed (started names functor c ws h) = start_formed names functor c ws h
ours_formed (called {ws = ws} c fits o) = call_formed c fits ws (ours_formed o)

-- and has a history, whose first failure is the first that was told
pub ours_past : {ws : List ℕ} (o : Ours ws) → ImagePast (first_told o) ws
unfolding first_told
ours_past (started names functor c ws h) = start_past names functor c ws h
ours_past (called {ws = ws} c fits o) = call_past (first_told o) c fits ws (ours_formed o) (ours_past o)

-- any calls after it leave one
unfoldable pub ours_after : {ws : List ℕ} → Ours ws → (cs : List Call) → AllFit cs → Ours (perform_all cs ws)
unfolding perform_all
ours_after o [] fits = o
ours_after {ws = ws} o (c ∷ cs) fits = ours_after {ws = (perform c ws).words} (called c fits.0 o) cs fits.1

-- so every call is its turn, and none refuses the image
pub ours_admitted : {ws : List ℕ} → Ours ws → (c : Call) → perform c ws ≡ response_of ws (turn_of c ws (table ws))
ours_admitted {ws} o c = perform_formed c ws (ours_formed o)

-- its break words are those of the first failure
pub ours_break : {ws : List ℕ} (o : Ours ws) → (table ws).store.broken ≡ break_by (first_told o)
ours_break o = past_break (ours_past o)

-- A held question, where none is asked: refused with 8 exactly when an earlier question has failed; the refusal carries the first
-- failure; and with none it is the plain question.
module _ {ws : List ℕ} (o : Ours ws) (q : Question) (b : ℕ) (held : q.held ≡ true) (idle : T (not (is_asked (table ws)))) where
  pub held_carries_first : (f : Failure) → first_told o ≡ Some f → (perform (model.opens q b) ws).says ≡ told_unopened (broken_by (break_of f))
  unfolding break_by is_broken
  held_carries_first f e =
      let k : (table ws).store.broken ≡ break_of f = ours_break o ∙ ap break_by e in
      held_refused q b held ws (ours_formed o) idle (rw k (break_kind f)) ∙ ap (λ (x : Break). told_unopened (broken_by x)) k

  pub held_none_failed : first_told o ≡ None → perform (model.opens q b) ws ≡ perform (model.opens (plain q) b) ws
  unfolding break_by is_broken
  held_none_failed e = held_as_plain q b ws (rw (ours_break o ∙ ap break_by e))

  no_break : first_told o ≡ None → T (is_broken (table ws).store) → ⊥
  unfolding break_by is_broken
  no_break e h = rw (ours_break o ∙ ap break_by e) at h

  pub held_refused_failed : (k x y n : ℕ) → (perform (model.opens q b) ws).says ≡ told_unopened (R.Broken k x y n) → (f : Failure) × (first_told o ≡ Some f)
  held_refused_failed k x y n e = which (first_told o) refl
    where
      which : (a : Option Failure) → first_told o ≡ a → (f : Failure) × (first_told o ≡ Some f)
      which (Some f) d = (f, d)
      which None d = absurd (no_break d (refused_broken q b ws k x y n e).broken)
