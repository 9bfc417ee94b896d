-- The work loop, turn by turn: what holds after some steps of an instalment, and what each way out answers. Assumes nothing.
use Rattle.std.specs.Prelude.{Ok, Err, Result}
use Prim.Native.Nat.{ℕ, zero, suc, ◌+◌, ◌-◌, ◌≤◌, ◌<◌}
use native.Mathlib.Omega.{arith}
use mathlib.Core.Path.{◌≡◌, refl, sym, ap, subst, ◌∙◌}
use mathlib.Core.List.{List, [], ◌∷◌, ◌++◌, reverse}
use lib.ListN.{length, take, get_or}
use lib.Dec.{T}
use Rattle.instalments.specs.Machine.{Outcome, fails, goes, Room, enough, lacks, yes_in, fail_in, more_at, Roomed, answered, refused_in, after_roomed, work}
use Rattle.instalments.proofs.Loop.{loop_start, loop_yes, loop_more, loop_lacks, loop_fails, loop_goes}
use Rattle.model.specs.Table.{Pair, ◌⊑◌, Store, Table, table_of}
use Rattle.model.specs.Image.{words, table}
use Rattle.model.specs.Formed.{well_formed}
use Rattle.model.specs.Rules.{rule}
use Rattle.model.specs.Room.{room_for, room}
use Rattle.model.specs.Calls.{Response, response_of, worked_turn}
use Rattle.model.specs.Told.{told_answer}
use Rattle.model.specs.declared.Answer.{Answer}
use Rattle.model.specs.declared.Answer.TheVariants as A
use Rattle.model.specs.declared.Failure.{Failure}
use Rattle.model.specs.declared.Refusal.{Refusal}
use Rattle.laws.specs.Good.{Sound}
use Rattle.laws.proofs.Formed.{sound_within, sound_table, formed_words}
use Rattle.laws.proofs.Round.{words_table, table_words}
use Rattle.laws.proofs.StepSound.{keeps_sound}
use Rattle.image.specs.Shown.{store_of, pending_in}
use Rattle.step.specs.declared.Step.{Step}
use Rattle.step.specs.declared.Step.TheVariants.{Went, Failed}
use Rattle.step.specs.Taken.{last_pair, before_last, taken_by, taken}
use Rattle.questions.specs.Asking.{worked}

-- a list with something in it ends in its last
split_at : {A : Type 0} (d : A) (l : List A) (n : ℕ) → suc n ≡ length l → take n l ++ (get_or l n d ∷ []) ≡ l
split_at d [] n e = absurd (omega arith)
split_at d (x ∷ []) zero e = refl
split_at d (x ∷ y ∷ r) zero e = absurd (omega arith)
split_at d (x ∷ l) (suc n) e = ap (λ (m : List _). x ∷ m) (split_at d l n (omega arith))

pub last_split : {A : Type 0} (d : A) (l : List A) → 0 < length l → take (length l - 1) l ++ (get_or l (length l - 1) d ∷ []) ≡ l
last_split d l lt = split_at d l (length l - 1) (omega arith)

-- what a step came to, by what it says
abbrev pub Came : Result Step Refusal → Room Refusal → List ℕ → List Pair → Outcome Store Pair Failure → List ℕ → Type 0
Came (Ok Went) ro w b o v = (u : Store) × ((qs : List Pair) × ((ro ≡ enough) × ((o ≡ goes u qs) × (v ≡ words (table_of u (b ++ reverse qs))))))
Came (Ok (Failed f)) ro w b o v = (u : Store) × ((ro ≡ enough) × ((o ≡ fails f u) × (v ≡ words (table_of u []))))
Came (Err r) ro w b o v = (ro ≡ lacks r) × (v ≡ w)

came_by : (ro : Room Refusal) (w : List ℕ) (b : List Pair) (o : Outcome Store Pair Failure)
    → Came (taken_by ro w b o).says ro w b o (taken_by ro w b o).words
unfolding taken_by
came_by (lacks r) w b o = (refl, refl)
came_by enough w b (fails f u) = (u, (refl, (refl, refl)))
came_by enough w b (goes u qs) = (u, (qs, (refl, (refl, refl))))

-- the step's own rule, at the last pair
abbrev pub CameAt : Result Step Refusal → List ℕ → List ℕ → Type 0
CameAt x w v = Came x (room (store_of w) (last_pair w) (before_last w)) w (before_last w) (rule (store_of w) (last_pair w)) v

pub came : (x : Result Step Refusal) (w v : List ℕ) → x ≡ (taken w (rule (store_of w) (last_pair w))).says → v ≡ (taken w (rule (store_of w) (last_pair w))).words → CameAt x w v
unfolding room
came x w v e f =
    let o : Outcome Store Pair Failure = rule (store_of w) (last_pair w) in
    let ro : Room Refusal = room_for (length (before_last w)) o in
    let k : Came x ro w (before_last w) o (taken w o).words = subst (λ (y : Result Step Refusal). Came y ro w (before_last w) o (taken w o).words) (sym e) (came_by ro w (before_last w) o) in
    subst (λ (u : List ℕ). Came x ro w (before_last w) o u) (sym f) k

-- what an instalment tells
pub record Tells (w : List ℕ) (budget : ℕ) (a : Result Answer Refusal) (k : ℕ) (v : List ℕ) : Type 0 where
  pub says : told_answer a ≡ (worked w budget).says
  pub steps : k ≡ (worked w budget).steps
  pub leaves : v ≡ (worked w budget).words

-- after some steps of a budget
pub record Running (w₀ : List ℕ) (budget steps : ℕ) (w : List ℕ) : Type 0 where
  pub formed : T (well_formed w)
  pub low : steps ≤ budget
  pub rest : work rule room budget (store_of w₀) (pending_in w₀) ≡ after_roomed steps (work rule room (budget - steps) (store_of w) (pending_in w))

pub running_start : (w : List ℕ) (budget : ℕ) → T (well_formed w) → Running w budget 0 w
running_start w budget h = record { formed = h; low = omega arith; rest = loop_start rule room budget _ (store_of w) (pending_in w) refl }

module _ (w₀ : List ℕ) (budget : ℕ) where
  abbrev whole : Roomed Store Pair Failure Refusal
  whole = work rule room budget (store_of w₀) (pending_in w₀)

  -- the answer, by what the whole comes to
  tells : (y : Roomed Store Pair Failure Refusal) (a : Result Answer Refusal) (k : ℕ) (v : List ℕ) → whole ≡ y
      → told_answer a ≡ (response_of w₀ (worked_turn budget y)).says → k ≡ (response_of w₀ (worked_turn budget y)).steps → v ≡ (response_of w₀ (worked_turn budget y)).words
      → Tells w₀ budget a k v
  unfolding worked
  tells y a k v e s t u =
      let q : response_of w₀ (worked_turn budget y) ≡ response_of w₀ (worked_turn budget whole) = ap (λ (z : Roomed Store Pair Failure Refusal). response_of w₀ (worked_turn budget z)) (sym e) in
      record { says = s ∙ ap (λ (z : Response). z.says) q; steps = t ∙ ap (λ (z : Response). z.steps) q; leaves = u ∙ ap (λ (z : Response). z.words) q }

  module _ (steps : ℕ) (w : List ℕ) (h : Running w₀ budget steps w) where
    -- nothing pending
    none_pending : (l : List Pair) → length l ≤ 0 → l ≡ []
    none_pending [] z = refl
    none_pending (x ∷ l) z = absurd (omega arith)

    pub running_yes : length (pending_in w) ≤ 0 → Tells w₀ budget (Ok A.Yes) steps w
    unfolding response_of worked_turn
    running_yes z =
        let e : pending_in w ≡ [] = none_pending (pending_in w) z in
        let r : whole ≡ after_roomed steps (work rule room (budget - steps) (store_of w) []) = h.rest ∙ ap (λ (l : List Pair). after_roomed steps (work rule room (budget - steps) (store_of w) l)) e in
        tells (answered (yes_in steps (store_of w))) (Ok A.Yes) steps w (loop_yes rule room budget whole steps (store_of w) r) refl refl
        (sym (words_table w h.formed) ∙ ap (λ (l : List Pair). words (table_of (store_of w) l)) e)

    module _ (some : 0 < length (pending_in w)) where
      split : before_last w ++ (last_pair w ∷ []) ≡ pending_in w
      split = last_split (0 ⊑ 0) (pending_in w) some

      here : whole ≡ after_roomed steps (work rule room (budget - steps) (store_of w) (before_last w ++ (last_pair w ∷ [])))
      here = h.rest ∙ ap (λ (l : List Pair). after_roomed steps (work rule room (budget - steps) (store_of w) l)) (sym split)

      as_found : w ≡ words (table_of (store_of w) (before_last w ++ (last_pair w ∷ [])))
      as_found = sym (words_table w h.formed) ∙ ap (λ (l : List Pair). words (table_of (store_of w) l)) (sym split)

      -- the budget used
      pub running_more : steps ≡ budget → Tells w₀ budget (Ok A.More) steps w
      unfolding response_of worked_turn
      running_more e =
          tells (answered (more_at (store_of w) (before_last w ++ (last_pair w ∷ [])))) (Ok A.More) steps w
          (loop_more rule room budget whole steps (store_of w) (before_last w) (last_pair w) here e) refl e as_found

      module _ (lt : steps < budget) (v : List ℕ) where
        pub running_failed : (f : Failure) → CameAt (Ok (Failed f)) w v → Tells w₀ budget (Ok (A.Failed f)) (steps + 1) v
        unfolding response_of worked_turn
        running_failed f k =
            tells (answered (fail_in (steps + 1) f k.0)) (Ok (A.Failed f)) (steps + 1) v
            (loop_fails rule room budget whole steps (store_of w) (before_last w) (last_pair w) here lt f k.0 k.1.0 k.1.1.0) refl refl k.1.1.1

        pub running_refused : (r : Refusal) → CameAt (Err r) w v → Tells w₀ budget (Err r) steps v
        unfolding response_of worked_turn
        running_refused r k =
            tells (refused_in steps r (store_of w) (before_last w ++ (last_pair w ∷ []))) (Err r) steps v
            (loop_lacks rule room budget whole steps (store_of w) (before_last w) (last_pair w) here lt r k.0) refl refl (k.1 ∙ as_found)

        pub running_went : CameAt (Ok Went) w v → Running w₀ budget (steps + 1) v
        running_went k =
            let u : Store = k.0 in
            let qs : List Pair = k.1.0 in
            let t : Table = table_of u (before_last w ++ reverse qs) in
            let before = sound_table w h.formed in
            let a = keeps_sound (store_of w) u (before_last w) qs (last_pair w) (before.store, rw split before.pending) k.1.1.0 k.1.1.1.0 in
            let sound : Sound t = record { store = a.0; pending = a.1 } in
            let e : v ≡ words t = k.1.1.1.1 in
            let seen : table v ≡ t = ap table e ∙ table_words t (sound_within t sound) in
            record {
              formed = subst (λ (x : List ℕ). T (well_formed x)) (sym e) (formed_words t sound);
              low = omega arith;
              rest =
                  loop_goes rule room budget whole steps (store_of w) (before_last w) (last_pair w) here lt u qs k.1.1.0 k.1.1.1.0
                  ∙ ap (λ (x : Table). after_roomed (steps + 1) (work rule room (budget - (steps + 1)) x.store x.pending)) (sym seen);
            }
