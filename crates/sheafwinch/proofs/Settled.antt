-- Each call's contract settles its answer and every word of the image, for all inputs: any two outcomes that it allows are equal.
-- `Post` is the contract itself, what the function ensures of its arguments, its result and the image at exit. Assumes nothing.
use Rattle.std.specs.Prelude.{Result}
use Prim.Native.Nat.{ℕ}
use mathlib.Core.Path.{◌≡◌, sym, ap, ◌∙◌}
use mathlib.Core.List.{List}
use denote.MutBor.{MutBor}
use Rattle.model.specs.declared.Refusal.{Refusal}
use Rattle.model.proofs.OneToOne.{reply_one_to_one, made_one_to_one, answer_one_to_one, opening_one_to_one, entry_read_one_to_one, record_one_to_one, disjointness_one_to_one}
use Rattle.model.specs.declared.Answer.{Answer}
use Rattle.model.specs.declared.Instalment.{Instalment}
use Rattle.sheafwinch.proofs.start.Reads as start
use Rattle.sheafwinch.proofs.make_variable.Reads as make-variable
use Rattle.sheafwinch.proofs.make_primitive.Reads as make-primitive
use Rattle.sheafwinch.proofs.make_list.Reads as make-list
use Rattle.sheafwinch.proofs.make_lambda.Reads as make-lambda
use Rattle.sheafwinch.proofs.make_attrset.Reads as make-attrset
use Rattle.sheafwinch.proofs.make_named.Reads as make-named
use Rattle.sheafwinch.proofs.make_neg.Reads as make-neg
use Rattle.sheafwinch.proofs.make_inter.Reads as make-inter
use Rattle.sheafwinch.proofs.make_union.Reads as make-union
use Rattle.sheafwinch.proofs.mark.Reads as mark
use Rattle.sheafwinch.proofs.put_bound.Reads as put-bound
use Rattle.sheafwinch.proofs.enter.Reads as enter
use Rattle.sheafwinch.proofs.exit.Reads as exit
use Rattle.sheafwinch.proofs.set_level.Reads as set-level
use Rattle.sheafwinch.proofs.open.Reads as open-call
use Rattle.sheafwinch.proofs.open_equal.Reads as open-equal
use Rattle.sheafwinch.proofs.work.Reads as work
use Rattle.sheafwinch.proofs.abandon.Reads as abandon
use Rattle.sheafwinch.proofs.entry.Reads as entry
use Rattle.sheafwinch.proofs.record.Reads as record-call
use Rattle.sheafwinch.proofs.disjoint.Reads as disjoint

-- of a call that reads
abbrev pub Settles : {K : Type 0} {A R E : K → Type 0} → ((κs : K) → A κs → R κs → E κs → Type 0) → Type 0
Settles {K} {A} {R} {E} post = (κs : K) (a : A κs) (x y : R κs) (e f : E κs) → post κs a x e → post κs a y f → x ≡ y

-- of a call that may change the image: `e.0.now` is the image at exit
abbrev pub SettlesAll : {K : Type 0} {A R X : K → Type 0} → ((κs : K) → A κs → R κs → MutBor (List ℕ) × X κs → Type 0) → Type 0
SettlesAll {K} {A} {R} {X} post =
    (κs : K) (a : A κs) (x y : R κs) (e f : MutBor (List ℕ) × X κs) → post κs a x e → post κs a y f → (x ≡ y) × (e.0.now ≡ f.0.now)

pub start_settled : SettlesAll start.Post
start_settled κs a x y e f p q = (reply_one_to_one x y (p.0 ∙ sym q.0), p.1 ∙ sym q.1)

pub make_variable_settled : SettlesAll make-variable.Post
make_variable_settled κs a x y e f p q = (made_one_to_one x y (p.0 ∙ sym q.0), p.1 ∙ sym q.1)

pub make_primitive_settled : SettlesAll make-primitive.Post
make_primitive_settled κs a x y e f p q = (made_one_to_one x y (p.0 ∙ sym q.0), p.1 ∙ sym q.1)

pub make_list_settled : SettlesAll make-list.Post
make_list_settled κs a x y e f p q = (made_one_to_one x y (p.0 ∙ sym q.0), p.1 ∙ sym q.1)

pub make_lambda_settled : SettlesAll make-lambda.Post
make_lambda_settled κs a x y e f p q = (made_one_to_one x y (p.0 ∙ sym q.0), p.1 ∙ sym q.1)

pub make_attrset_settled : SettlesAll make-attrset.Post
make_attrset_settled κs a x y e f p q = (made_one_to_one x y (p.0 ∙ sym q.0), p.1 ∙ sym q.1)

pub make_named_settled : SettlesAll make-named.Post
make_named_settled κs a x y e f p q = (made_one_to_one x y (p.0 ∙ sym q.0), p.1 ∙ sym q.1)

pub make_neg_settled : SettlesAll make-neg.Post
make_neg_settled κs a x y e f p q = (made_one_to_one x y (p.0 ∙ sym q.0), p.1 ∙ sym q.1)

pub make_inter_settled : SettlesAll make-inter.Post
make_inter_settled κs a x y e f p q = (made_one_to_one x y (p.0 ∙ sym q.0), p.1 ∙ sym q.1)

pub make_union_settled : SettlesAll make-union.Post
make_union_settled κs a x y e f p q = (made_one_to_one x y (p.0 ∙ sym q.0), p.1 ∙ sym q.1)

pub mark_settled : SettlesAll mark.Post
mark_settled κs a x y e f p q = (reply_one_to_one x y (p.0 ∙ sym q.0), p.1 ∙ sym q.1)

pub put_bound_settled : SettlesAll put-bound.Post
put_bound_settled κs a x y e f p q = (reply_one_to_one x y (p.0 ∙ sym q.0), p.1 ∙ sym q.1)

pub enter_settled : SettlesAll enter.Post
enter_settled κs a x y e f p q = (reply_one_to_one x y (p.0 ∙ sym q.0), p.1 ∙ sym q.1)

pub exit_settled : SettlesAll exit.Post
exit_settled κs a x y e f p q = (reply_one_to_one x y (p.0 ∙ sym q.0), p.1 ∙ sym q.1)

pub set_level_settled : SettlesAll set-level.Post
set_level_settled κs a x y e f p q = (reply_one_to_one x y (p.0 ∙ sym q.0), p.1 ∙ sym q.1)

instalment_one : (x y : Instalment) → x.answer ≡ y.answer → x.steps ≡ y.steps → x ≡ y
instalment_one x y e f =
    let a : x ≡ record { answer = y.answer; steps = x.steps } = ap (λ (z : Result Answer Refusal). record { answer = z; steps = x.steps }) e in
    let b : record { answer = y.answer; steps = x.steps } ≡ y = ap (λ (k : ℕ). record { answer = y.answer; steps = k }) f in
    a ∙ b

pub open_settled : SettlesAll open-call.Post
open_settled κs a x y e f p q = (opening_one_to_one x y (p.0 ∙ sym q.0) (p.1.0 ∙ sym q.1.0), p.1.1 ∙ sym q.1.1)

pub open_equal_settled : SettlesAll open-equal.Post
open_equal_settled κs a x y e f p q = (opening_one_to_one x y (p.0 ∙ sym q.0) (p.1.0 ∙ sym q.1.0), p.1.1 ∙ sym q.1.1)

pub work_settled : SettlesAll work.Post
work_settled κs a x y e f p q = (instalment_one x y (answer_one_to_one x.answer y.answer (p.0 ∙ sym q.0)) (p.1.0 ∙ sym q.1.0), p.1.1 ∙ sym q.1.1)

pub abandon_settled : SettlesAll abandon.Post
abandon_settled κs a x y e f p q = (reply_one_to_one x y (p.0 ∙ sym q.0), p.1 ∙ sym q.1)

pub entry_settled : Settles entry.Post
entry_settled κs a x y e f p q = entry_read_one_to_one x y (p ∙ sym q)

pub record_settled : Settles record-call.Post
record_settled κs a x y e f p q = record_one_to_one x y (p ∙ sym q)

pub disjoint_settled : Settles disjoint.Post
disjoint_settled κs a x y e f p q = disjointness_one_to_one x y (p ∙ sym q)
