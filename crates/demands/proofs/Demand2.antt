-- Demand 2: "Plain questions give the answer, entries, bounds and visited pairs that the Rust gives: proved against the rules of document
-- 01." What a question comes to, however it is worked; what a failure leaves; and when a held question is refused: of any image that is
-- well formed, and of the tables started by us. Over any outcomes that the calls' contracts allow. Assumes nothing.
use Rattle.std.specs.Prelude.{None, Some}
use Prim.Native.Nat.{ℕ, ◌<◌}
use native.Mathlib.Omega.{arith}
use mathlib.Core.Path.{◌≡◌, refl, sym, ap, ◌∙◌, subst}
use mathlib.Core.List.{List, [], reverse}
use mathlib.Core.Bool.{true, false, not}
use mathlib.Core.Logic.{◌↔◌}
use lib.Dec.{T}
use Rattle.instalments.specs.Whole.{well, broken, Whole}
use Rattle.model.specs.Format.{word_end}
use Rattle.model.specs.Table.{Pair, Break, Capacities, Store, table_of, is_asked, is_broken}
use Rattle.model.specs.Image.{table}
use Rattle.model.specs.Formed.{well_formed}
use Rattle.model.specs.Rules.{break_of, rule}
use Rattle.model.specs.Told.{Told, yes, told_unopened, told_failure}
use Rattle.model.specs.Calls.{recorded, pairs_of, broken_by, Call, opens, capacities_right, perform}
use Rattle.model.specs.declared.Question.{Question}
use Rattle.model.specs.declared.Failure.{Failure}
use Rattle.model.specs.declared.Refusal.{Refusal}
use Rattle.model.specs.declared.Refusal.TheVariants as R
use Rattle.laws.specs.Turns.{stored_argument}
use Rattle.laws.specs.Refusals.{break_after, plain}
use Rattle.laws.proofs.Calls.{call_formed}
use Rattle.laws.proofs.Runs.{read_as}
use Rattle.laws.proofs.Breaks.{call_keeps_break, failed_formed, failed_fills, failed_broken, same_broken, plain_never_broken, held_refused_exactly}
use Rattle.demands.specs.Started.{Ours, started, called, first_told}
use Rattle.demands.specs.Meets.{Meets, MeetsStart, Later, at_once, later, Course}
use Rattle.demands.proofs.Started as ours
use Rattle.demands.proofs.Demand1.{opening_leaves_all}
use Rattle.demands.proofs.Demand3.{unopened_not_failure, opened_in_instalments, course_formed}

-- From the question to its end, however it is worked: the answer is what 01's rules come to from the store as it was and the question's
-- pairs, and the store after, so its entries, bounds and visited pairs, is theirs; nothing is pending.
pub record Answered (s : Store) (ps : List Pair) (a : Told) (n : ℕ) (w : List ℕ) : Type 0 where
  pub to_yes : a ≡ yes → (u : Store) × Whole rule s ps n (well u) × (table w ≡ table_of u [])
  pub to_failure : (f : Failure) → a ≡ told_failure f → (u : Store) × Whole rule s ps n (broken f u) × (table w ≡ table_of u [])

yes_not_unopened : (r : Refusal) → ◌≡◌ {A = Told} yes (told_unopened r) → ⊥
yes_not_unopened r e = let z : ◌≡◌ {A = ℕ} 0 1 = cc in omega arith

pub question_answered : {bs v w : List ℕ} {a : Told} {n : ℕ} (q : Question) → Course q bs v a n w → Answered (recorded q (table v).store) (reverse (pairs_of q)) a n w
question_answered {w = w} {a} q course =
    let i = opened_in_instalments q course in
    record {
      to_yes = λ e.
          let p = i.to_yes e in
          (p.0, p.1, read_as w (table_of p.0 []) (course_formed q (λ r g. yes_not_unopened r (sym e ∙ g)) course) p.2);
      to_failure = λ f e.
          let p = i.to_failure f e in
          (p.0, p.1, read_as w (table_of p.0 []) (course_formed q (λ r g. unopened_not_failure r f (sym g ∙ e)) course) p.2);
    }

-- A plain question is never refused by 8.
pub plain_not_broken : {b n : ℕ} {v w : List ℕ} (q : Question) → q.held ≡ false → (k x y z : ℕ) → Meets (opens q b) v (told_unopened (R.Broken k x y z)) n w → ⊥
plain_not_broken {b} {v = v} q p k x y z m = plain_never_broken q b v k x y z p (sym m.tells)

-- A held question of any well formed image that is idle is refused with the break exactly when its kind is not 0.
pub held_exactly : {b n : ℕ} {v w : List ℕ} {a : Told} (q : Question) → q.held ≡ true → T (well_formed v) → T (not (is_asked (table v))) → Meets (opens q b) v a n w
    → a ≡ told_unopened (broken_by (table v).store.broken) ↔ T (is_broken (table v).store)
held_exactly {b} {v = v} q held h idle m =
    let k = held_refused_exactly q b held v h idle in
    (λ e. k.0 (sym m.tells ∙ e), λ b. m.tells ∙ k.1 b)

-- A question that fails, at its opening or in work, leaves a break: the one that was, or its own.
pub failed_break : {n : ℕ} {v w : List ℕ} (c : Call) → stored_argument c < word_end → (f : Failure) → Meets c v (told_failure f) n w
    → T (well_formed w) × ((table w).store.broken ≡ break_after f (table v).store) × T (is_broken (table w).store)
failed_break {v = v} c fits f m =
    let e = sym m.tells in
    rw m.leaves (call_formed c fits v (failed_formed c fits v f e), failed_fills c fits v f e, failed_broken c fits v f e)

-- a break that is there stays, whatever is called but start
abbrev pub BreakStays : List ℕ → List ℕ → Type 0
BreakStays v w = T (well_formed w) × ((table w).store.broken ≡ (table v).store.broken) × T (is_broken (table w).store)

pub break_stays : {v w : List ℕ} → T (well_formed v) → T (is_broken (table v).store) → Later v w → BreakStays v w
break_stays h b at_once = (h, refl, b)
break_stays {v} h b (later {u = u} {w = w} c fits m l) =
    let k = break_stays h b l in
    let e = call_keeps_break c fits u k.0 k.2 in
    rw m.leaves (call_formed c fits u k.0, e ∙ k.1, same_broken (table u).store (table (perform c u).words).store e k.2)

-- so from a failure on, every held question, where none is asked, is refused with it, until start
pub held_after_failure : {b n l : ℕ} {v u w x : List ℕ} {a : Told} (c : Call) → stored_argument c < word_end → (f : Failure) → Meets c v (told_failure f) n u → Later u w
    → (q : Question) → q.held ≡ true → T (not (is_asked (table w))) → Meets (opens q b) w a l x → a ≡ told_unopened (broken_by (break_after f (table v).store))
held_after_failure c fits f m after q held idle p =
    let k = failed_break c fits f m in
    let s = break_stays k.0 k.2 after in
    (held_exactly q held s.0 idle p).1 s.2 ∙ ap (λ (z : Break). told_unopened (broken_by z)) (s.1 ∙ k.1)

-- Tables started by us: the image after start, and after any calls.
pub ours_started : {v w : List ℕ} (names functor : ℕ) (c : Capacities) → T (capacities_right names functor c v) → {a : Told} → MeetsStart names functor c v a w → Ours w
ours_started {v} names functor c h m = subst Ours (sym m.leaves) (started names functor c v h)

pub ours_later : {v w : List ℕ} → Ours v → Later v w → Ours w
ours_later o at_once = o
ours_later o (later c fits m l) = subst Ours (sym m.leaves) (called c fits (ours_later o l))

-- A held question there, where none is asked: refused with 8 exactly when an earlier question has failed, and with the first failure;
-- with none, it is the plain question.
module _ {b n : ℕ} {v w : List ℕ} {a : Told} (o : Ours v) (q : Question) (held : q.held ≡ true) (idle : T (not (is_asked (table v)))) (m : Meets (opens q b) v a n w) where
  pub held_carries_first : (f : Failure) → first_told o ≡ Some f → (a ≡ told_unopened (broken_by (break_of f))) × (n ≡ 0) × (w ≡ v)
  held_carries_first f e =
      let k = m.tells ∙ ours.held_carries_first o q b held idle f e in
      let h = opening_leaves_all q (broken_by (break_of f)) (subst (λ (x : Told). Meets (opens q b) v x n w) k m) in
      (k, h.1, h.0)

  pub held_none_failed : first_told o ≡ None → Meets (opens (plain q) b) v a n w
  held_none_failed e =
      let k = ours.held_none_failed o q b held idle e in
      record { tells = m.tells ∙ ap (λ r. r.says) k; counts = m.counts ∙ ap (λ r. r.steps) k; leaves = m.leaves ∙ ap (λ r. r.words) k }

  pub held_refused_failed : (k x y z : ℕ) → a ≡ told_unopened (R.Broken k x y z) → (f : Failure) × (first_told o ≡ Some f)
  held_refused_failed k x y z e = ours.held_refused_failed o q b held idle k x y z (sym m.tells ∙ e)
