-- Demand 3: "A question may be worked in instalments, and answer, steps and every word are those of the nested rules run without a pause;
-- while it answers MORE, those of the nested rules stopped after that many steps." Over any run of calls of work, and from the opening on. `Whole`, the rules
-- without a pause, and `Partly`, the rules stopped after just so many steps, are in crates/instalments/specs. Assumes nothing.
use Prim.Native.Nat.{ℕ, ◌+◌, ◌<◌}
use native.Mathlib.Omega.{arith}
use mathlib.Core.Path.{◌≡◌, refl, sym, ap, ◌∙◌, subst}
use mathlib.Core.List.{List, [], ◌∷◌, reverse}
use mathlib.Core.Bool.{false}
use mathlib.Core.Logic.{◌⊎◌, inl, inr}
use lib.Dec.{T}
use Rattle.instalments.specs.Whole.{End, well, broken, Whole}
use Rattle.instalments.proofs.Whole.{whole_same}
use Rattle.instalments.proofs.Partly.{partly_short}
use Rattle.model.specs.Table.{Pair, Store, Table, table_of, is_asked}
use Rattle.model.specs.Image.{words, table}
use Rattle.model.specs.Formed.{well_formed}
use Rattle.model.specs.Rules.{rule}
use Rattle.model.specs.Told.{Told, yes, more, told_failure, told_unopened}
use Rattle.model.specs.Calls.{Response, Call, opens, works, perform, asked, recorded, pairs_of}
use Rattle.model.specs.declared.Question.{Question}
use Rattle.model.specs.declared.Failure.{Failure}
use Rattle.model.specs.declared.Failure.TheVariants.{Mismatch, MissingField}
use Rattle.model.specs.declared.Refusal.{Refusal}
use Rattle.laws.specs.Demands.{after_steps, is_more, work_all, open_all, Demand3}
use Rattle.laws.proofs.Demands.{image_demand_3}
use Rattle.laws.proofs.Questions.{Opened, Unopened, Halves, halves, opening_later, open_all_opened, open_all_unopened, open_demand_3}
use Rattle.laws.proofs.Runs.{work_all_formed, read_as}
use Rattle.demands.specs.Meets.{Meets, Run, none, ends, goes_on, Course, at_opening, worked_on, Instalments}

-- a run is what the model gives for these budgets
abbrev as_response : Told → ℕ → List ℕ → Response
as_response a n w = record { says = a; steps = n; words = w }

same_reply : {v w : List ℕ} {a : Told} {n : ℕ} (c : Call) → Meets c v a n w → perform c v ≡ as_response a n w
same_reply c m = sym (λ i. record { says = m.tells i; steps = m.counts i; words = m.leaves i })

counted : (k : ℕ) (a : Told) (n : ℕ) (w : List ℕ) (r : Response) → as_response a n w ≡ r → as_response a (k + n) w ≡ after_steps k r
unfolding after_steps
counted k a n w r e = ap (after_steps k) e

run_is : {bs v w : List ℕ} {a : Told} {n : ℕ} → Run bs v a n w → as_response a n w ≡ work_all bs v
unfolding work_all is_more
run_is none = refl
run_is (ends b m e) = rw (same_reply (works b) m, e)
run_is (goes_on {bs = bs} {u = u} {w = w} {a = a} {n = n} {m = k} b m rest) = rw (same_reply (works b) m) (counted n a k w (work_all bs u) (run_is rest))

-- a run leaves a well formed image well formed
pub run_formed : {bs v w : List ℕ} {a : Told} {n : ℕ} → T (well_formed v) → Run bs v a n w → T (well_formed w)
run_formed {bs} {v} h run =
    let e = ap (λ (r : Response). r.words) (run_is run) in
    subst (λ (ws : List ℕ). T (well_formed ws)) (sym e) (work_all_formed bs v h)

module _ (bs : List ℕ) (s : Store) (ps : List Pair) (a : Told) (n : ℕ) (w : List ℕ) (h : T (well_formed w)) (d : Demand3 bs s ps (as_response a n w)) where
  store_of : (u : Store) (q : List Pair) → w ≡ words (table_of u q) → (table w).store ≡ u
  store_of u q e = ap (λ (t : Table). t.store) (read_as w (table_of u q) h e)

  in_instalments : Instalments bs s (reverse ps) a n w
  in_instalments = record {
    to_yes = λ e. let k = d.to_yes e in (k.0, k.1.0, k.1.1);
    to_failure = λ f e. let k = d.to_failure f e in (k.0, k.1.0, k.1.1);
    to_more = λ e. let k = d.to_more e in (k.0, k.1.1.0, k.1.1.1.0, store_of k.0 k.1.0 k.1.1.1.1);
    to_refusal = λ r e. let k = d.to_refusal r e in (k.0, k.1.1.1.1.0, store_of k.0 k.1.0 k.1.1.1.1.1.0);
  }

-- demand 3, of any well formed image that is asked; work goes from the end of pending
pub worked_in_instalments : {bs v w : List ℕ} {a : Told} {n : ℕ} → T (well_formed v) → T (is_asked (table v)) → Run bs v a n w
    → Instalments bs (table v).store (reverse (table v).pending) a n w
worked_in_instalments {bs} {v} {w} {a} {n} h k run =
    in_instalments bs (table v).store (table v).pending a n w (run_formed h run) (rw (run_is run) (image_demand_3 bs v h k))

-- a question from its opening on is what the model gives for these budgets
course_at : {v w : List ℕ} {a : Told} {n : ℕ} (q : Question) (b : ℕ) (bs : List ℕ) → Meets (opens q b) v a n w → is_more a ≡ false → as_response a n w ≡ open_all q b bs v
unfolding open_all
course_at q b bs m e = rw (same_reply (opens q b) m, e)

course_on : {v u w : List ℕ} {a : Told} {n k : ℕ} (q : Question) (b : ℕ) (bs : List ℕ) → Meets (opens q b) v more n u → Run bs u a k w → as_response a (n + k) w ≡ open_all q b bs v
unfolding open_all is_more
course_on {u = u} {w} {a} {n} {k} q b bs m rest = rw (same_reply (opens q b) m) (counted n a k w (work_all bs u) (run_is rest))

-- what is refused at the opening is no yes, failure or MORE, and no refusal by a step
pub unopened_not_failure : (r : Refusal) (f : Failure) → ◌≡◌ {A = Told} (told_unopened r) (told_failure f) → ⊥
unopened_not_failure r (Mismatch a b) e = let z : ◌≡◌ {A = ℕ} 0 1 = cc in omega arith
unopened_not_failure r (MissingField a b n) e = let z : ◌≡◌ {A = ℕ} 0 1 = cc in omega arith

none_opened : (bs : List ℕ) (s : Store) (ps : List Pair) (a : Told) (n : ℕ) (w : List ℕ) (r : Refusal) → a ≡ told_unopened r → Instalments bs s ps a n w
none_opened bs s ps a n w r e = record {
  to_yes = λ g. let z : ◌≡◌ {A = ℕ} 0 1 = cc in absurd (omega arith);
  to_failure = λ f g. absurd (unopened_not_failure r f (sym e ∙ g));
  to_more = λ g. let z : ◌≡◌ {A = ℕ} 0 1 = cc in absurd (omega arith);
  to_refusal = λ v g. let z : ◌≡◌ {A = ℕ} 0 1 = cc in absurd (omega arith);
}

module _ (q : Question) (b : ℕ) (bs v : List ℕ) (a : Told) (n : ℕ) (w : List ℕ) (e : as_response a n w ≡ open_all q b bs v) where
  opened_formed : Opened q v → T (well_formed w)
  opened_formed o =
      subst (λ (ws : List ℕ). T (well_formed ws)) (sym (ap (λ (r : Response). r.words) (e ∙ open_all_opened q v b bs o)))
      (work_all_formed (b ∷ bs) (asked q v).words o.stays)

  said_unopened : (r : Refusal) → Unopened q v r → a ≡ told_unopened r
  said_unopened r k = ap (λ (x : Response). x.says) (e ∙ open_all_unopened q v b bs r k)

  by_half : Halves q v → Instalments (b ∷ bs) (recorded q (table v).store) (reverse (pairs_of q)) a n w
  by_half (inl o) = in_instalments (b ∷ bs) (recorded q (table v).store) (pairs_of q) a n w (opened_formed o) (rw e (open_demand_3 q v b bs o))
  by_half (inr (r, k)) = none_opened (b ∷ bs) _ _ a n w r (said_unopened r k)

  formed_half : ((r : Refusal) → a ≡ told_unopened r → ⊥) → Halves q v → T (well_formed w)
  formed_half never (inl o) = opened_formed o
  formed_half never (inr (r, k)) = absurd (never r (said_unopened r k))

-- demand 3, from the opening on, which is the first instalment: of what the question records, and its pairs; one pair or two, any budgets
pub opened_in_instalments : {bs v w : List ℕ} {a : Told} {n : ℕ} (q : Question) → Course q bs v a n w
    → Instalments bs (recorded q (table v).store) (reverse (pairs_of q)) a n w
opened_in_instalments q (at_opening {bs = bs} {v = v} {w = w} {a = a} {n = n} b m e) = by_half q b bs v a n w (course_at q b bs m e) (halves q v)
opened_in_instalments q (worked_on {bs = bs} {v = v} {w = w} {a = a} {n = n} {m = k} b m rest) = by_half q b bs v a (n + k) w (course_on q b bs m rest) (halves q v)

-- and not refused as such, it leaves a well formed image
pub course_formed : {bs v w : List ℕ} {a : Told} {n : ℕ} (q : Question) → ((r : Refusal) → a ≡ told_unopened r → ⊥) → Course q bs v a n w → T (well_formed w)
course_formed q never (at_opening {bs = bs} {v = v} {w = w} {a = a} {n = n} b m e) = formed_half q b bs v a n w (course_at q b bs m e) never (halves q v)
course_formed q never (worked_on {bs = bs} {v = v} {w = w} {a = a} {n = n} {m = k} b m rest) = formed_half q b bs v a (n + k) w (course_on q b bs m rest) never (halves q v)

-- opening with budget 0, which answers MORE with no step, and then working with b: what opening with b gives
pub opened_later : {b k n : ℕ} {v u w : List ℕ} {a : Told} (q : Question) → Meets (opens q 0) v more k u → Meets (works b) u a n w → Meets (opens q b) v a n w
opened_later {b} {u = u} q m p =
    let e = rw (sym m.leaves) at (opening_later q _ b (sym m.tells)) in
    record {
      tells = p.tells ∙ ap (λ (r : Response). r.says) e;
      counts = p.counts ∙ ap (λ (r : Response). r.steps) e;
      leaves = p.leaves ∙ ap (λ (r : Response). r.words) e;
    }

-- So the budgets do not matter: two runs from one image, or two openings of one question in it, that both end in yes or a failure, have
-- the same answer, steps and words.
abbrev pub Ended : Told → Type 0
Ended a = (a ≡ yes) ⊎ ((f : Failure) × (a ≡ told_failure f))

well_one : {s u : Store} → ◌≡◌ {A = End Store Failure} (well s) (well u) → s ≡ u
well_one e = cc

broken_one : {f g : Failure} {s u : Store} → ◌≡◌ {A = End Store Failure} (broken f s) (broken g u) → (f ≡ g) × (s ≡ u)
broken_one e = (cc, cc)

well_broken : {f : Failure} {s u : Store} → ◌≡◌ {A = End Store Failure} (well s) (broken f u) → ⊥
well_broken e = let z : ◌≡◌ {A = ℕ} 0 1 = cc in omega arith

module _ {bs cs w x : List ℕ} {a b : Told} {n m : ℕ} {s : Store} {ps : List Pair} where
  both : Ended a → Ended b → Instalments bs s ps a n w → Instalments cs s ps b m x → (a ≡ b) × (n ≡ m) × (w ≡ x)
  both (inl i) (inl j) k l =
      let p = k.to_yes i in
      let q = l.to_yes j in
      let e = whole_same rule p.1 q.1 in
      (i ∙ sym j, e.0, p.2 ∙ ap (λ (u : Store). words (table_of u [])) (well_one e.1) ∙ sym q.2)
  both (inl i) (inr (g, j)) k l = absurd (well_broken (whole_same rule (k.to_yes i).1 (l.to_failure g j).1).1)
  both (inr (f, i)) (inl j) k l = absurd (well_broken (sym (whole_same rule (k.to_failure f i).1 (l.to_yes j).1).1))
  both (inr (f, i)) (inr (g, j)) k l =
      let p = k.to_failure f i in
      let q = l.to_failure g j in
      let e = whole_same rule p.1 q.1 in
      (i ∙ ap told_failure (broken_one e.1).0 ∙ sym j, e.0, p.2 ∙ ap (λ (u : Store). words (table_of u [])) (broken_one e.1).1 ∙ sym q.2)

pub any_budgets : {bs cs v w x : List ℕ} {a b : Told} {n m : ℕ} → T (well_formed v) → T (is_asked (table v)) → Ended a → Ended b → Run bs v a n w → Run cs v b m x
    → (a ≡ b) × (n ≡ m) × (w ≡ x)
any_budgets h k i j r t = both i j (worked_in_instalments h k r) (worked_in_instalments h k t)

pub any_budgets_opened : {bs cs v w x : List ℕ} {a b : Told} {n m : ℕ} (q : Question) → Ended a → Ended b → Course q bs v a n w → Course q cs v b m x
    → (a ≡ b) × (n ≡ m) × (w ≡ x)
any_budgets_opened q i j r t = both i j (opened_in_instalments q r) (opened_in_instalments q t)

-- and MORE is answered only while the steps are fewer than the whole takes
pub more_only_before : {bs w : List ℕ} {s : Store} {ps : List Pair} {n k : ℕ} {e : End Store Failure} → Instalments bs s ps more n w → Whole rule s ps k e → n < k
more_only_before i whole = partly_short rule (i.to_more refl).2 whole
