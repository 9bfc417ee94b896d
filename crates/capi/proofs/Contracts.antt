-- The contract of each call for C that may change an image is that it meets the model's call, told in the answer's words. So the three
-- demands, which crate `demands` has over whatever meets a call, hold of the calls for C; below they are said in the answer's words.
-- `Post` is the contract; `a.0.now` is the image at entry, `x` the answer, `e.0.now` the image at exit. Assumes nothing.
use Rattle.std.specs.Prelude.{None, Some}
use Prim.Native.Nat.{ℕ, ◌+◌}
use native.Mathlib.Omega.{arith}
use mathlib.Core.Path.{◌≡◌, refl, sym, ap, ◌∙◌, subst}
use mathlib.Core.List.{List, ◌∷◌}
use mathlib.Core.Bool.{true, false, not}
use lib.Dec.{T}
use denote.MutBor.{MutBor}
use Rattle.model.specs.Table.{is_asked}
use Rattle.model.specs.Image.{table}
use Rattle.model.specs.Rules.{break_of}
use Rattle.model.specs.Told.{Told, done, yes, more, failed, refused, unopened, told_refusal, told_unopened, told_failure}
use Rattle.model.specs.Calls.{broken_by, Call, makes_variable, makes_primitive, makes_list, makes_lambda, makes_attrset, makes_named, makes_neg, makes_inter, makes_union, marks, puts_bound, enters, exits, sets_level, under, both_ways, opens, works, abandons, perform}
use Rattle.model.specs.declared.Question.{Question}
use Rattle.model.specs.declared.Failure.{Failure}
use Rattle.model.specs.declared.Refusal.{Refusal}
use Rattle.model.specs.declared.Refusal.TheVariants.{Broken}
use Rattle.laws.specs.Refusals.{takes_steps, for_room, KeepsEarlier, plain}
use Rattle.laws.specs.Demands.{is_more}
use Rattle.laws.proofs.Refused.{no_steps}
use Rattle.demands.specs.Started.{Ours, first_told}
use Rattle.demands.specs.Meets.{Meets, MeetsStart, Run, ends, goes_on, Course, at_opening, worked_on}
use Rattle.demands.proofs.Numbered.{Numbered, numbered}
use Rattle.demands.proofs.Demand1.{refused_leaves_all, work_leaves_all, work_keeps_earlier, opening_leaves_all, opening_by_step, opening_keeps_earlier}
use Rattle.demands.proofs.Demand2 as demand-2
use Rattle.capi.specs.Answers.{answer_of, flag_of, dynamic_of, capacities_of}
use Rattle.capi.specs.declared.Answer.{Answer}
use Rattle.capi.proofs.OneToOne.{steps_found, told_once, unopened_in_struct}
use Rattle.capi.proofs.sheafwinch_start.Reads as c-start
use Rattle.capi.proofs.sheafwinch_work.Reads as c-work
use Rattle.capi.proofs.sheafwinch_make_variable.Reads as c-make-variable
use Rattle.capi.proofs.sheafwinch_make_primitive.Reads as c-make-primitive
use Rattle.capi.proofs.sheafwinch_make_list.Reads as c-make-list
use Rattle.capi.proofs.sheafwinch_make_lambda.Reads as c-make-lambda
use Rattle.capi.proofs.sheafwinch_make_attrset.Reads as c-make-attrset
use Rattle.capi.proofs.sheafwinch_make_named.Reads as c-make-named
use Rattle.capi.proofs.sheafwinch_make_neg.Reads as c-make-neg
use Rattle.capi.proofs.sheafwinch_make_inter.Reads as c-make-inter
use Rattle.capi.proofs.sheafwinch_make_union.Reads as c-make-union
use Rattle.capi.proofs.sheafwinch_mark.Reads as c-mark
use Rattle.capi.proofs.sheafwinch_put_bound.Reads as c-put-bound
use Rattle.capi.proofs.sheafwinch_enter.Reads as c_enter
use Rattle.capi.proofs.sheafwinch_exit.Reads as c-exit
use Rattle.capi.proofs.sheafwinch_set_level.Reads as c-set-level
use Rattle.capi.proofs.sheafwinch_open.Reads as c-open
use Rattle.capi.proofs.sheafwinch_open_equal.Reads as c-open-equal
use Rattle.capi.proofs.sheafwinch_abandon.Reads as c-abandon

-- an answer whose words are those of what is told, by an outcome that meets the call
pub record CallMet (c : Call) (before : List ℕ) (x : Answer) (after : List ℕ) : Type 0 where
  pub told : Told
  pub shows : x ≡ answer_of x.steps told
  pub meets : Meets c before told x.steps after

met_by : {v w : List ℕ} {x : Answer} (c : Call) (k : ℕ) → k ≡ (perform c v).steps → x ≡ answer_of k (perform c v).says → w ≡ (perform c v).words → CallMet c v x w
met_by {v} {w} {x} c k s e f =
    let n : x.steps ≡ k = ap (λ (y : Answer). y.steps) e ∙ steps_found k (perform c v).says in
    record {
      told = (perform c v).says;
      shows = e ∙ ap (λ (m : ℕ). answer_of m (perform c v).says) (sym n);
      meets = record { tells = refl; counts = n ∙ s; leaves = f };
    }

-- a contract under which every outcome meets the call with these arguments
abbrev pub Met : {K : Type 0} {A X : K → Type 0} → ((κs : K) → A κs → Call) → ((κs : K) → MutBor (List ℕ) × A κs → Answer → MutBor (List ℕ) × X κs → Type 0) → Type 0
Met {K} {A} {X} call post =
    (κs : K) (a : MutBor (List ℕ) × A κs) (x : Answer) (e : MutBor (List ℕ) × X κs) → post κs a x e → CallMet (call κs a.1) a.0.now x e.0.now

met : {v w : List ℕ} {x : Answer} (c : Call) → takes_steps c ≡ false → x ≡ answer_of 0 (perform c v).says → w ≡ (perform c v).words → CallMet c v x w
met {v} c n e f = met_by c 0 (sym (no_steps c n v)) e f

pub c_start_met : (κs : _) (a : _) (x : Answer) (e : _) → c-start.Post κs a x e
    → (t : Told) × (x ≡ answer_of 0 t) × MeetsStart a.1.0 a.1.1.0 (capacities_of a.1.1.1.0) a.0.now t e.0.now
c_start_met κs a x e p = (_, p.0, record { tells = refl; leaves = p.1 })

pub c_make_variable_met : Met (λ κs a. makes_variable) c-make-variable.Post
c_make_variable_met κs a x e p = met (makes_variable) refl p.0 p.1

pub c_make_primitive_met : Met (λ κs a. makes_primitive a.0) c-make-primitive.Post
c_make_primitive_met κs a x e p = met (makes_primitive a.1.0) refl p.0 p.1

pub c_make_list_met : Met (λ κs a. makes_list a.0) c-make-list.Post
c_make_list_met κs a x e p = met (makes_list a.1.0) refl p.0 p.1

pub c_make_lambda_met : Met (λ κs a. makes_lambda a.0 a.1.0) c-make-lambda.Post
c_make_lambda_met κs a x e p = met (makes_lambda a.1.0 a.1.1.0) refl p.0 p.1

pub c_make_attrset_met : Met (λ κs a. makes_attrset a.0.now (flag_of a.1.0) (dynamic_of a.1.1.0 a.1.1.1.0)) c-make-attrset.Post
c_make_attrset_met κs a x e p = met (makes_attrset a.1.0.now (flag_of a.1.1.0) (dynamic_of a.1.1.1.0 a.1.1.1.1.0)) refl p.0 p.1

pub c_make_named_met : Met (λ κs a. makes_named a.0 a.1.0) c-make-named.Post
c_make_named_met κs a x e p = met (makes_named a.1.0 a.1.1.0) refl p.0 p.1

pub c_make_neg_met : Met (λ κs a. makes_neg a.0) c-make-neg.Post
c_make_neg_met κs a x e p = met (makes_neg a.1.0) refl p.0 p.1

pub c_make_inter_met : Met (λ κs a. makes_inter a.0 a.1.0) c-make-inter.Post
c_make_inter_met κs a x e p = met (makes_inter a.1.0 a.1.1.0) refl p.0 p.1

pub c_make_union_met : Met (λ κs a. makes_union a.0 a.1.0) c-make-union.Post
c_make_union_met κs a x e p = met (makes_union a.1.0 a.1.1.0) refl p.0 p.1

pub c_mark_met : Met (λ κs a. marks a.0) c-mark.Post
c_mark_met κs a x e p = met (marks a.1.0) refl p.0 p.1

pub c_put_bound_met : Met (λ κs a. puts_bound a.0 a.1.0 a.1.1.0) c-put-bound.Post
c_put_bound_met κs a x e p = met (puts_bound a.1.0 a.1.1.0 a.1.1.1.0) refl p.0 p.1

pub c_enter_met : Met (λ κs a. enters) c_enter.Post
c_enter_met κs a x e p = met (enters) refl p.0 p.1

pub c_exit_met : Met (λ κs a. exits) c-exit.Post
c_exit_met κs a x e p = met (exits) refl p.0 p.1

pub c_set_level_met : Met (λ κs a. sets_level a.0 a.1.0) c-set-level.Post
c_set_level_met κs a x e p = met (sets_level a.1.0 a.1.1.0) refl p.0 p.1

pub c_abandon_met : Met (λ κs a. abandons) c-abandon.Post
c_abandon_met κs a x e p = met (abandons) refl p.0 p.1

pub c_work_met : Met (λ κs a. works a.0) c-work.Post
c_work_met κs a x e p = met_by (works a.1.0) (perform (works a.1.0) a.0.now).steps refl p.0 p.1

pub c_open_met : Met (λ κs a. opens (under (flag_of a.0) a.1.0 a.1.1.0) a.1.1.1.0) c-open.Post
c_open_met κs a x e p =
    let c : Call = opens (under (flag_of a.1.0) a.1.1.0 a.1.1.1.0) a.1.1.1.1.0 in
    met_by c (perform c a.0.now).steps refl p.0 p.1

pub c_open_equal_met : Met (λ κs a. opens (both_ways (flag_of a.0) a.1.0 a.1.1.0) a.1.1.1.0) c-open-equal.Post
c_open_equal_met κs a x e p =
    let c : Call = opens (both_ways (flag_of a.1.0) a.1.1.0 a.1.1.1.0) a.1.1.1.1.0 in
    met_by c (perform c a.0.now).steps refl p.0 p.1

-- What an answer's kind says of what is told: 5 a refusal at the opening, 4 another, each of 01's, with its number; 3 a failure; 2 MORE;
-- 1 yes; 0 done.
module _ {c : Call} {v w : List ℕ} {x : Answer} (m : CallMet c v x w) where
  told_numbered : Numbered m.told
  told_numbered = subst (λ (t : Told). Numbered t) (sym m.meets.tells) (numbered c v)

  refused_by : (t : Told) → x ≡ answer_of x.steps t → Numbered t → Meets c v t x.steps w → x.kind ≡ 4
      → (r : Refusal) × (x ≡ answer_of x.steps (told_refusal r)) × Meets c v (told_refusal r) x.steps w
  refused_by (done l) e h p k = let z : ◌≡◌ {A = ℕ} 0 4 = sym (ap (λ (y : Answer). y.kind) e) ∙ k in absurd (omega arith)
  refused_by yes e h p k = let z : ◌≡◌ {A = ℕ} 1 4 = sym (ap (λ (y : Answer). y.kind) e) ∙ k in absurd (omega arith)
  refused_by more e h p k = let z : ◌≡◌ {A = ℕ} 2 4 = sym (ap (λ (y : Answer). y.kind) e) ∙ k in absurd (omega arith)
  refused_by (failed n l) e h p k = let z : ◌≡◌ {A = ℕ} 3 4 = sym (ap (λ (y : Answer). y.kind) e) ∙ k in absurd (omega arith)
  refused_by (refused n l) e (r, d) p k = (r, e ∙ ap (answer_of x.steps) d, subst (λ (t : Told). Meets c v t x.steps w) d p)
  refused_by (unopened n l) e h p k = let z : ◌≡◌ {A = ℕ} 5 4 = sym (ap (λ (y : Answer). y.kind) e) ∙ k in absurd (omega arith)

  pub c_refused : x.kind ≡ 4 → (r : Refusal) × (x ≡ answer_of x.steps (told_refusal r)) × Meets c v (told_refusal r) x.steps w
  c_refused = refused_by m.told m.shows told_numbered m.meets

  unopened_by : (t : Told) → x ≡ answer_of x.steps t → Numbered t → Meets c v t x.steps w → x.kind ≡ 5
      → (r : Refusal) × (x ≡ answer_of x.steps (told_unopened r)) × Meets c v (told_unopened r) x.steps w
  unopened_by (done l) e h p k = let z : ◌≡◌ {A = ℕ} 0 5 = sym (ap (λ (y : Answer). y.kind) e) ∙ k in absurd (omega arith)
  unopened_by yes e h p k = let z : ◌≡◌ {A = ℕ} 1 5 = sym (ap (λ (y : Answer). y.kind) e) ∙ k in absurd (omega arith)
  unopened_by more e h p k = let z : ◌≡◌ {A = ℕ} 2 5 = sym (ap (λ (y : Answer). y.kind) e) ∙ k in absurd (omega arith)
  unopened_by (failed n l) e h p k = let z : ◌≡◌ {A = ℕ} 3 5 = sym (ap (λ (y : Answer). y.kind) e) ∙ k in absurd (omega arith)
  unopened_by (refused n l) e h p k = let z : ◌≡◌ {A = ℕ} 4 5 = sym (ap (λ (y : Answer). y.kind) e) ∙ k in absurd (omega arith)
  unopened_by (unopened n l) e (r, d) p k = (r, e ∙ ap (answer_of x.steps) d, subst (λ (t : Told). Meets c v t x.steps w) d p)

  pub c_unopened : x.kind ≡ 5 → (r : Refusal) × (x ≡ answer_of x.steps (told_unopened r)) × Meets c v (told_unopened r) x.steps w
  c_unopened = unopened_by m.told m.shows told_numbered m.meets

  failed_by : (t : Told) → x ≡ answer_of x.steps t → Numbered t → Meets c v t x.steps w → x.kind ≡ 3 → (f : Failure) × Meets c v (told_failure f) x.steps w
  failed_by (done l) e h p k = let z : ◌≡◌ {A = ℕ} 0 3 = sym (ap (λ (y : Answer). y.kind) e) ∙ k in absurd (omega arith)
  failed_by yes e h p k = let z : ◌≡◌ {A = ℕ} 1 3 = sym (ap (λ (y : Answer). y.kind) e) ∙ k in absurd (omega arith)
  failed_by more e h p k = let z : ◌≡◌ {A = ℕ} 2 3 = sym (ap (λ (y : Answer). y.kind) e) ∙ k in absurd (omega arith)
  failed_by (failed n l) e (f, d) p k = (f, subst (λ (t : Told). Meets c v t x.steps w) d p)
  failed_by (refused n l) e h p k = let z : ◌≡◌ {A = ℕ} 4 3 = sym (ap (λ (y : Answer). y.kind) e) ∙ k in absurd (omega arith)
  failed_by (unopened n l) e h p k = let z : ◌≡◌ {A = ℕ} 5 3 = sym (ap (λ (y : Answer). y.kind) e) ∙ k in absurd (omega arith)

  pub c_failed : x.kind ≡ 3 → (f : Failure) × Meets c v (told_failure f) x.steps w
  c_failed = failed_by m.told m.shows told_numbered m.meets

  more_by : (t : Told) → x ≡ answer_of x.steps t → x.kind ≡ 2 → t ≡ more
  more_by (done l) e k = let z : ◌≡◌ {A = ℕ} 0 2 = sym (ap (λ (y : Answer). y.kind) e) ∙ k in absurd (omega arith)
  more_by yes e k = let z : ◌≡◌ {A = ℕ} 1 2 = sym (ap (λ (y : Answer). y.kind) e) ∙ k in absurd (omega arith)
  more_by more e k = refl
  more_by (failed n l) e k = let z : ◌≡◌ {A = ℕ} 3 2 = sym (ap (λ (y : Answer). y.kind) e) ∙ k in absurd (omega arith)
  more_by (refused n l) e k = let z : ◌≡◌ {A = ℕ} 4 2 = sym (ap (λ (y : Answer). y.kind) e) ∙ k in absurd (omega arith)
  more_by (unopened n l) e k = let z : ◌≡◌ {A = ℕ} 5 2 = sym (ap (λ (y : Answer). y.kind) e) ∙ k in absurd (omega arith)

  pub c_more : x.kind ≡ 2 → Meets c v more x.steps w
  c_more k = subst (λ (t : Told). Meets c v t x.steps w) (more_by m.told m.shows k) m.meets

  not_more_by : (t : Told) → x ≡ answer_of x.steps t → (x.kind ≡ 2 → ⊥) → is_more t ≡ false
  unfolding is_more
  not_more_by (done l) e k = refl
  not_more_by yes e k = refl
  not_more_by more e k = absurd (k (ap (λ (y : Answer). y.kind) e))
  not_more_by (failed n l) e k = refl
  not_more_by (refused n l) e k = refl
  not_more_by (unopened n l) e k = refl

-- Demand 1: a refusal of any call but an opening and work leaves every word; work refused by 5 or 6 keeps its earlier steps, by another every
-- word; an opening of kind 5 leaves every word and takes no step, of kind 4 is refused by 5 or 6 and keeps its earlier steps.
pub c_refused_leaves_all : {v w : List ℕ} {x : Answer} (c : Call) → takes_steps c ≡ false → CallMet c v x w → x.kind ≡ 4 → w ≡ v
c_refused_leaves_all c n m k = let r = c_refused m k in refused_leaves_all c n r.0 r.2

pub c_work_refused : {v w : List ℕ} {x : Answer} {b : ℕ} → CallMet (works b) v x w → x.kind ≡ 4
    → (r : Refusal) × (x ≡ answer_of x.steps (told_refusal r)) × (for_room r ≡ false → (w ≡ v) × (x.steps ≡ 0)) × (for_room r ≡ true → KeepsEarlier works b v x.steps w)
c_work_refused m k = let r = c_refused m k in (r.0, r.1, work_leaves_all r.0 r.2, work_keeps_earlier r.0 r.2)

pub c_open_unopened : {v w : List ℕ} {x : Answer} {b : ℕ} (q : Question) → CallMet (opens q b) v x w → x.kind ≡ 5
    → (r : Refusal) × (x ≡ answer_of 0 (told_unopened r)) × (w ≡ v) × (x.steps ≡ 0)
c_open_unopened {x = x} q m k =
    let r = c_unopened m k in
    let h = opening_leaves_all q r.0 r.2 in
    (r.0, r.1 ∙ ap (λ (n : ℕ). answer_of n (told_unopened r.0)) h.1, h.0, h.1)

pub c_open_refused : {v w : List ℕ} {x : Answer} {b : ℕ} (q : Question) → CallMet (opens q b) v x w → x.kind ≡ 4
    → (r : Refusal) × (x ≡ answer_of x.steps (told_refusal r)) × (for_room r ≡ true) × KeepsEarlier (opens q) b v x.steps w
c_open_refused q m k = let r = c_refused m k in (r.0, r.1, opening_by_step q r.0 r.2, opening_keeps_earlier q r.0 r.2)

-- Demand 2: a held question, where none is asked, in a table started by us: refused with 8 exactly when an earlier question has failed,
-- with the first failure; with none it is the plain question.
module _ {v w : List ℕ} {x : Answer} {b : ℕ} (o : Ours v) (q : Question) (held : q.held ≡ true) (idle : T (not (is_asked (table v)))) (m : CallMet (opens q b) v x w) where
  pub c_held_carries_first : (f : Failure) → first_told o ≡ Some f → (x ≡ answer_of 0 (told_unopened (broken_by (break_of f)))) × (w ≡ v)
  c_held_carries_first f e =
      let k = demand-2.held_carries_first o q held idle m.meets f e in
      (m.shows ∙ ap (answer_of x.steps) k.0 ∙ ap (λ (n : ℕ). answer_of n (told_unopened (broken_by (break_of f)))) k.1, k.2)

  pub c_held_none_failed : first_told o ≡ None → CallMet (opens (plain q) b) v x w
  c_held_none_failed e = record { told = m.told; shows = m.shows; meets = demand-2.held_none_failed o q held idle m.meets e }

  pub c_held_refused_failed : (k a s n : ℕ) → x ≡ answer_of x.steps (told_unopened (Broken k a s n)) → (f : Failure) × (first_told o ≡ Some f)
  c_held_refused_failed k a s n e =
      let r = c_unopened m (ap (λ (y : Answer). y.kind) e) in
      let d = told_once x.steps x.steps (told_unopened r.0) (told_unopened (Broken k a s n)) (unopened_in_struct r.0) (unopened_in_struct (Broken k a s n)) (sym r.1 ∙ e) in
      demand-2.held_refused_failed o q held idle r.2 k a s n d

-- Demand 3: an opening for C, and calls of work for C after it, going on while the kind is 2, are a question's course; crate demands says
-- what it comes to. Calls of work alone are a run.
pub c_ends : {bs v w : List ℕ} {x : Answer} (b : ℕ) (m : CallMet (works b) v x w) → (x.kind ≡ 2 → ⊥) → Run (b ∷ bs) v m.told x.steps w
c_ends b m k = ends b m.meets (not_more_by m m.told m.shows k)

pub c_goes_on : {bs v u w : List ℕ} {x : Answer} {a : Told} {n : ℕ} (b : ℕ) → CallMet (works b) v x u → x.kind ≡ 2 → Run bs u a n w → Run (b ∷ bs) v a (x.steps + n) w
c_goes_on b m k rest = goes_on b (c_more m k) rest

pub c_at_opening : {bs v w : List ℕ} {x : Answer} (q : Question) (b : ℕ) (m : CallMet (opens q b) v x w) → (x.kind ≡ 2 → ⊥) → Course q (b ∷ bs) v m.told x.steps w
c_at_opening q b m k = at_opening b m.meets (not_more_by m m.told m.shows k)

pub c_worked_on : {bs v u w : List ℕ} {x : Answer} {a : Told} {n : ℕ} (q : Question) (b : ℕ) → CallMet (opens q b) v x u → x.kind ≡ 2 → Run bs u a n w → Course q (b ∷ bs) v a (x.steps + n) w
c_worked_on q b m k rest = worked_on b (c_more m k) rest
