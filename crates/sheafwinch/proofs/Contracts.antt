-- The contract of each call that may change an image is that it meets the model's call. So the three demands, which crate `demands` has
-- over whatever meets a call, hold of these. The reads are lent the image to read only. `Post` is the contract: what the function ensures
-- of its arguments, its result and the image at exit; `a.0.now` is the image at entry, `e.0.now` at exit. That every call ends, on any
-- input, is what Rattle checks of each function. Assumes nothing.
use Rattle.std.specs.Prelude.{Result}
use Prim.Native.Nat.{ℕ}
use mathlib.Core.Path.{refl}
use mathlib.Core.List.{List}
use denote.MutBor.{MutBor}
use Rattle.model.specs.declared.Refusal.{Refusal}
use Rattle.model.specs.Calls.{Call, makes_variable, makes_primitive, makes_list, makes_lambda, makes_attrset, makes_named, makes_neg, makes_inter, makes_union, marks, puts_bound, enters, exits, sets_level, under, both_ways, opens, works, abandons}
use Rattle.model.specs.Told.{Told, told_made, told_reply, told_answer, told_opening, steps_of}
use Rattle.model.specs.declared.Instalment.{Instalment}
use Rattle.image.specs.Stores.{capacities_of}
use Rattle.demands.specs.Meets.{Meets, MeetsStart}
use Rattle.demands.proofs.Demand1.{meets}
use Rattle.sheafwinch.proofs.start.Reads as start
use Rattle.sheafwinch.proofs.work.Reads as work
use Rattle.sheafwinch.proofs.make_variable.Reads as make-variable
use Rattle.sheafwinch.proofs.make_primitive.Reads as make-primitive
use Rattle.sheafwinch.proofs.make_list.Reads as make-list
use Rattle.sheafwinch.proofs.make_lambda.Reads as make-lambda
use Rattle.sheafwinch.proofs.make_attrset.Reads as make-attrset
use Rattle.sheafwinch.proofs.make_named.Reads as make-named
use Rattle.sheafwinch.proofs.make_neg.Reads as make-neg
use Rattle.sheafwinch.proofs.make_inter.Reads as make-inter
use Rattle.sheafwinch.proofs.make_union.Reads as make-union
use Rattle.sheafwinch.proofs.mark.Reads as mark
use Rattle.sheafwinch.proofs.put_bound.Reads as put-bound
use Rattle.sheafwinch.proofs.enter.Reads as enter
use Rattle.sheafwinch.proofs.exit.Reads as exit
use Rattle.sheafwinch.proofs.set_level.Reads as set-level
use Rattle.sheafwinch.proofs.open.Reads as open-call
use Rattle.sheafwinch.proofs.open_equal.Reads as open-equal
use Rattle.sheafwinch.proofs.abandon.Reads as abandon

-- a contract under which every outcome meets the call with these arguments
abbrev pub Met : {K R : Type 0} {A X : K → Type 0} → (R → Told) → ((κs : K) → A κs → Call) → ((κs : K) → MutBor (List ℕ) × A κs → R → MutBor (List ℕ) × X κs → Type 0) → Type 0
Met {K} {R} {A} {X} told call post =
    (κs : K) (a : MutBor (List ℕ) × A κs) (x : R) (e : MutBor (List ℕ) × X κs) → post κs a x e → Meets (call κs a.1) a.0.now (told x) 0 e.0.now

pub start_met : (κs : _) (a : _) (x : Result (Unit {0}) Refusal) (e : _) → start.Post κs a x e
    → MeetsStart a.1.0 a.1.1.0 (capacities_of a.1.1.1.0) a.0.now (told_reply x) e.0.now
start_met κs a x e p = record { tells = p.0; leaves = p.1 }

pub make_variable_met : Met told_made (λ κs a. makes_variable) make-variable.Post
make_variable_met κs a x e p = meets (makes_variable) refl p.0 p.1

pub make_primitive_met : Met told_made (λ κs a. makes_primitive a.0) make-primitive.Post
make_primitive_met κs a x e p = meets (makes_primitive a.1.0) refl p.0 p.1

pub make_list_met : Met told_made (λ κs a. makes_list a.0) make-list.Post
make_list_met κs a x e p = meets (makes_list a.1.0) refl p.0 p.1

pub make_lambda_met : Met told_made (λ κs a. makes_lambda a.0 a.1.0) make-lambda.Post
make_lambda_met κs a x e p = meets (makes_lambda a.1.0 a.1.1.0) refl p.0 p.1

pub make_attrset_met : Met told_made (λ κs a. makes_attrset a.0.now a.1.0 a.1.1.0) make-attrset.Post
make_attrset_met κs a x e p = meets (makes_attrset a.1.0.now a.1.1.0 a.1.1.1.0) refl p.0 p.1

pub make_named_met : Met told_made (λ κs a. makes_named a.0 a.1.0) make-named.Post
make_named_met κs a x e p = meets (makes_named a.1.0 a.1.1.0) refl p.0 p.1

pub make_neg_met : Met told_made (λ κs a. makes_neg a.0) make-neg.Post
make_neg_met κs a x e p = meets (makes_neg a.1.0) refl p.0 p.1

pub make_inter_met : Met told_made (λ κs a. makes_inter a.0 a.1.0) make-inter.Post
make_inter_met κs a x e p = meets (makes_inter a.1.0 a.1.1.0) refl p.0 p.1

pub make_union_met : Met told_made (λ κs a. makes_union a.0 a.1.0) make-union.Post
make_union_met κs a x e p = meets (makes_union a.1.0 a.1.1.0) refl p.0 p.1

pub mark_met : Met told_reply (λ κs a. marks a.0) mark.Post
mark_met κs a x e p = meets (marks a.1.0) refl p.0 p.1

pub put_bound_met : Met told_reply (λ κs a. puts_bound a.0 a.1.0 a.1.1.0) put-bound.Post
put_bound_met κs a x e p = meets (puts_bound a.1.0 a.1.1.0 a.1.1.1.0) refl p.0 p.1

pub enter_met : Met told_reply (λ κs a. enters) enter.Post
enter_met κs a x e p = meets (enters) refl p.0 p.1

pub exit_met : Met told_reply (λ κs a. exits) exit.Post
exit_met κs a x e p = meets (exits) refl p.0 p.1

pub set_level_met : Met told_reply (λ κs a. sets_level a.0 a.1.0) set-level.Post
set_level_met κs a x e p = meets (sets_level a.1.0 a.1.1.0) refl p.0 p.1

pub abandon_met : Met told_reply (λ κs a. abandons) abandon.Post
abandon_met κs a x e p = meets (abandons) refl p.0 p.1

-- work tells its steps besides
pub work_met : (κs : _) (a : _) (x : Instalment) (e : _) → work.Post κs a x e → Meets (works a.1.0) a.0.now (told_answer x.answer) x.steps e.0.now
work_met κs a x e p = record { tells = p.0; counts = p.1.0; leaves = p.1.1 }

-- and so do the openings
pub open_met : (κs : _) (a : _) (x : Result Instalment Refusal) (e : _) → open-call.Post κs a x e
    → Meets (opens (under a.1.0 a.1.1.0 a.1.1.1.0) a.1.1.1.1.0) a.0.now (told_opening x) (steps_of x) e.0.now
open_met κs a x e p = record { tells = p.0; counts = p.1.0; leaves = p.1.1 }

pub open_equal_met : (κs : _) (a : _) (x : Result Instalment Refusal) (e : _) → open-equal.Post κs a x e
    → Meets (opens (both_ways a.1.0 a.1.1.0 a.1.1.1.0) a.1.1.1.1.0) a.0.now (told_opening x) (steps_of x) e.0.now
open_equal_met κs a x e p = record { tells = p.0; counts = p.1.0; leaves = p.1.1 }
