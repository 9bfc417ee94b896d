-- Answers that differ have words that differ: what is told, and the steps, are found again from the struct. What every call tells has
-- at most eight values, so none is lost. Assumes nothing.
use Rattle.std.specs.Prelude.{Err, None, Ok, Option, Result, Some}
use Prim.Native.Nat.{ℕ, ◌≤◌}
use native.Mathlib.Omega.{arith}
use mathlib.Core.Path.{◌≡◌, refl, sym, ap, ◌∙◌}
use mathlib.Core.List.{List, [], ◌∷◌}
use mathlib.Core.Bool.{Bool, cond}
use lib.ListN.{length, take}
use lib.Dec.{eqb}
use Rattle.model.specs.Told.{Told, done, yes, more, failed, refused, unopened, carried, carried_values, told_refusal, told_unopened, told_failure, told_reply, told_made, told_answer, told_opening, told_attrset, told_entry, told_entry_read, told_record, told_disjointness}
use Rattle.model.specs.declared.Refusal.{Refusal}
use Rattle.model.specs.declared.Carried.{Carried}
use Rattle.model.specs.declared.Carried.TheVariants as K
use Rattle.model.specs.declared.Failure.{Failure}
use Rattle.model.specs.declared.Failure.TheVariants as F
use Rattle.model.specs.declared.Answer.{Answer as Worked}
use Rattle.model.specs.declared.Answer.TheVariants as A
use Rattle.model.specs.declared.Instalment.{Instalment}
use Rattle.model.specs.declared.Entry.{Entry}
use Rattle.model.specs.declared.Entry.TheVariants as E
use Rattle.model.specs.declared.Record.{Record}
use Rattle.model.specs.declared.Record.TheVariants as RR
use Rattle.names.specs.Answers.{told_counted, told_compared, told_found, told_placed}
use Rattle.names.specs.declared.Placed.{Placed}
use Rattle.std.specs.declared.cmp.Ordering.{Ordering}
use Rattle.operators.specs.Operators.{Resolved, told_resolved}
use Rattle.capi.specs.Answers.{answer, answer_of}
use Rattle.capi.specs.declared.Answer.{Answer}

-- the values that are told
abbrev pub values_of : Told → List ℕ
values_of (done vs) = vs
values_of yes = []
values_of more = []
values_of (failed kind vs) = vs
values_of (refused number vs) = vs
values_of (unopened number vs) = vs

-- no more than the struct has room for
abbrev pub InStruct : Told → Type 0
InStruct t = length (values_of t) ≤ 8

-- the values that the struct has
abbrev pub listed : Answer → List ℕ
listed a = take a.count (a.v0 ∷ a.v1 ∷ a.v2 ∷ a.v3 ∷ a.v4 ∷ a.v5 ∷ a.v6 ∷ a.v7 ∷ [])

pub told_back : Answer → Told
told_back a =
    cond (eqb a.kind 0) (done (listed a))
    (cond (eqb a.kind 1) yes
    (cond (eqb a.kind 2) more
    (cond (eqb a.kind 3) (failed a.number (listed a))
    (cond (eqb a.kind 4) (refused a.number (listed a))
    (unopened a.number (listed a))))))

pub values_found : (kind number steps : ℕ) (vs : List ℕ) → length vs ≤ 8 → listed (answer kind number steps vs) ≡ vs
values_found k n s [] h = refl
values_found k n s (a ∷ []) h = refl
values_found k n s (a ∷ b ∷ []) h = refl
values_found k n s (a ∷ b ∷ c ∷ []) h = refl
values_found k n s (a ∷ b ∷ c ∷ d ∷ []) h = refl
values_found k n s (a ∷ b ∷ c ∷ d ∷ e ∷ []) h = refl
values_found k n s (a ∷ b ∷ c ∷ d ∷ e ∷ f ∷ []) h = refl
values_found k n s (a ∷ b ∷ c ∷ d ∷ e ∷ f ∷ g ∷ []) h = refl
values_found k n s (a ∷ b ∷ c ∷ d ∷ e ∷ f ∷ g ∷ i ∷ []) h = refl
values_found k n s (a ∷ b ∷ c ∷ d ∷ e ∷ f ∷ g ∷ i ∷ j ∷ l) h = absurd (omega arith)

pub told_found_lem : (steps : ℕ) (t : Told) → InStruct t → told_back (answer_of steps t) ≡ t
unfolding told_back
told_found_lem s (done vs) h = ap done (values_found 0 0 s vs h)
told_found_lem s yes h = refl
told_found_lem s more h = refl
told_found_lem s (failed n vs) h = ap (failed n) (values_found 3 n s vs h)
told_found_lem s (refused n vs) h = ap (refused n) (values_found 4 n s vs h)
told_found_lem s (unopened n vs) h = ap (unopened n) (values_found 5 n s vs h)

pub steps_found : (steps : ℕ) (t : Told) → (answer_of steps t).steps ≡ steps
steps_found s (done vs) = refl
steps_found s yes = refl
steps_found s more = refl
steps_found s (failed n vs) = refl
steps_found s (refused n vs) = refl
steps_found s (unopened n vs) = refl

-- equal structs tell the same
pub told_once : (s u : ℕ) (a b : Told) → InStruct a → InStruct b → answer_of s a ≡ answer_of u b → a ≡ b
told_once s u a b h k e = sym (told_found_lem s a h) ∙ ap told_back e ∙ told_found_lem u b k

-- and the same steps
pub steps_once : (s u : ℕ) (a b : Told) → answer_of s a ≡ answer_of u b → s ≡ u
steps_once s u a b e = sym (steps_found s a) ∙ ap (λ (x : Answer). x.steps) e ∙ steps_found u b

-- what each answer tells fits
carried_fits : (c : Carried) → length (carried_values c) ≤ 8
carried_fits K.Nothing = omega arith
carried_fits (K.Region region) = omega arith
carried_fits (K.Break kind sub sup name) = omega arith

pub refusal_in_struct : (r : Refusal) → InStruct (told_refusal r)
refusal_in_struct r = carried_fits (carried r)

pub unopened_in_struct : (r : Refusal) → InStruct (told_unopened r)
unopened_in_struct r = carried_fits (carried r)

pub reply_in_struct : (r : Result (Unit {0}) Refusal) → InStruct (told_reply r)
reply_in_struct (Ok tt) = omega arith
reply_in_struct (Err r) = refusal_in_struct r

pub made_in_struct : (r : Result ℕ Refusal) → InStruct (told_made r)
made_in_struct (Ok n) = omega arith
made_in_struct (Err r) = refusal_in_struct r

pub failure_in_struct : (f : Failure) → InStruct (told_failure f)
failure_in_struct (F.Mismatch sub sup) = omega arith
failure_in_struct (F.MissingField sub sup name) = omega arith

pub worked_in_struct : (r : Result Worked Refusal) → InStruct (told_answer r)
worked_in_struct (Ok A.Yes) = omega arith
worked_in_struct (Ok A.More) = omega arith
worked_in_struct (Ok (A.Failed f)) = failure_in_struct f
worked_in_struct (Err r) = refusal_in_struct r

pub opening_in_struct : (r : Result Instalment Refusal) → InStruct (told_opening r)
opening_in_struct (Err r) = unopened_in_struct r
opening_in_struct (Ok i) = worked_in_struct i.answer

pub attrset_in_struct : (first count : ℕ) (is_open : Bool) (d : Option ℕ) → InStruct (done (told_attrset first count is_open d))
attrset_in_struct first count is_open None = omega arith
attrset_in_struct first count is_open (Some n) = omega arith

pub entry_in_struct : (e : Entry) → InStruct (done (told_entry e))
entry_in_struct (E.Variable level) = omega arith
entry_in_struct (E.Primitive which) = omega arith
entry_in_struct (E.List element) = omega arith
entry_in_struct (E.Lambda param body) = omega arith
entry_in_struct (E.AttrSet a) = attrset_in_struct a.first a.count a.is_open a.dynamic
entry_in_struct (E.Named inner label) = omega arith
entry_in_struct (E.Neg inner) = omega arith
entry_in_struct (E.Inter left right) = omega arith
entry_in_struct (E.Union left right) = omega arith

pub entry_read_in_struct : (r : Result Entry Refusal) → InStruct (told_entry_read r)
entry_read_in_struct (Ok e) = entry_in_struct e
entry_read_in_struct (Err r) = refusal_in_struct r

pub record_in_struct : (r : Result Record Refusal) → InStruct (told_record r)
record_in_struct (Ok (RR.Entry kind x y z flags spread negation)) = omega arith
record_in_struct (Ok (RR.Field name entry optional)) = omega arith
record_in_struct (Ok (RR.Bound variable side bound)) = omega arith
record_in_struct (Ok (RR.Visited sub sup)) = omega arith
record_in_struct (Ok (RR.Pending sub sup)) = omega arith
record_in_struct (Ok (RR.Equal left right)) = omega arith
record_in_struct (Err r) = refusal_in_struct r

pub disjointness_in_struct : (r : Result Bool Refusal) → InStruct (told_disjointness r)
disjointness_in_struct (Ok disjoint) = omega arith
disjointness_in_struct (Err r) = refusal_in_struct r

pub counted_in_struct : (r : Result ℕ Refusal) → InStruct (told_counted r)
counted_in_struct (Ok n) = omega arith
counted_in_struct (Err r) = refusal_in_struct r

pub compared_in_struct : (r : Result Ordering Refusal) → InStruct (told_compared r)
compared_in_struct (Ok o) = omega arith
compared_in_struct (Err r) = refusal_in_struct r

pub found_in_struct : (r : Result (Option ℕ) Refusal) → InStruct (told_found r)
found_in_struct (Ok (Some n)) = omega arith
found_in_struct (Ok None) = omega arith
found_in_struct (Err r) = refusal_in_struct r

pub placed_in_struct : (r : Result Placed Refusal) → InStruct (told_placed r)
placed_in_struct (Ok p) = omega arith
placed_in_struct (Err r) = refusal_in_struct r

pub resolved_in_struct : (r : Resolved) → InStruct (told_resolved r)
resolved_in_struct (Ok (Some p)) = omega arith
resolved_in_struct (Ok None) = omega arith
resolved_in_struct (Err r) = refusal_in_struct r
