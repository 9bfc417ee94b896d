-- Demand 1: "Unfit input gets a numbered refusal and changes no word. Work that meets a full region or the depth limit keeps the steps
-- done before and does nothing of the step that met it." Over any outcome that a call's contract allows. An opening is refused in two ways,
-- which it tells apart: at the opening, or by a step of its first instalment. Assumes nothing.
use Prim.Native.Nat.{ℕ, suc}
use mathlib.Core.Path.{◌≡◌, sym, ap, ◌∙◌}
use mathlib.Core.List.{List}
use mathlib.Core.Bool.{true, false, not}
use lib.Dec.{T}
use Rattle.model.specs.Table.{Capacities, is_asked}
use Rattle.model.specs.Image.{table}
use Rattle.model.specs.Told.{Told, more, told_refusal, told_unopened}
use Rattle.model.specs.Calls.{Response, Call, opens, works, perform}
use Rattle.model.specs.declared.Question.{Question}
use Rattle.model.specs.declared.Refusal.{Refusal}
use Rattle.laws.specs.Refusals.{takes_steps, for_room, KeepsEarlier}
use Rattle.laws.proofs.Refused.{no_steps, refused_as_found, start_refused_as_found, work_refused_as_found, work_was_asked, work_refused_keeps, work_refused_stays}
use Rattle.laws.proofs.Openings.{opening_refused_as_found, opening_for_room, opening_was_idle, opening_refused_keeps, opening_refused_stays}
use Rattle.demands.specs.Meets.{Meets, MeetsStart}

-- a call but an opening and work, whose contract tells no steps: it takes none
pub meets : (c : Call) → takes_steps c ≡ false → {v w : List ℕ} {a : Told} → a ≡ (perform c v).says → w ≡ (perform c v).words → Meets c v a 0 w
meets c n {v} e f = record { tells = e; counts = sym (no_steps c n v); leaves = f }

-- every refusal of such a call leaves all words
pub refused_leaves_all : {v w : List ℕ} {n : ℕ} (c : Call) → takes_steps c ≡ false → (r : Refusal) → Meets c v (told_refusal r) n w → w ≡ v
refused_leaves_all {v} c k r m = m.leaves ∙ refused_as_found c k v r (sym m.tells)

pub start_leaves_all : {v w : List ℕ} (names functor : ℕ) (c : Capacities) (r : Refusal) → MeetsStart names functor c v (told_refusal r) w → w ≡ v
start_leaves_all {v} names functor c r m = m.leaves ∙ start_refused_as_found names functor c v r (sym m.tells)

-- what two responses that are the same have the same
same_parts : {c : Call} {v x : List ℕ} {a : Told} {l : ℕ} → Meets c v a l x → (r : Response) → perform c v ≡ r → (a ≡ r.says) × (l ≡ r.steps) × (x ≡ r.words)
same_parts p r e = (p.tells ∙ ap (λ (z : Response). z.says) e, p.counts ∙ ap (λ (z : Response). z.steps) e, p.leaves ∙ ap (λ (z : Response). z.words) e)

module _ {b n : ℕ} {v w : List ℕ} (r : Refusal) (m : Meets (works b) v (told_refusal r) n w) where
  -- work, refused by anything but 5 or 6: all words, and no step
  pub work_leaves_all : for_room r ≡ false → (w ≡ v) × (n ≡ 0)
  work_leaves_all k = let h = work_refused_as_found b v r k (sym m.tells) in (m.leaves ∙ h.0, m.counts ∙ h.1)

  -- by 5 or 6: it was asked; the words of the steps before, their number, and it stays asked
  pub work_of_asked : for_room r ≡ true → T (is_asked (table v))
  work_of_asked k = work_was_asked b v r k (sym m.tells)

  pub work_keeps_earlier : for_room r ≡ true → KeepsEarlier works b v n w
  work_keeps_earlier k = rw (m.counts, m.leaves) (work_refused_keeps b v r k (sym m.tells))

  -- so: on the image as it was, work with a budget of just those steps answers MORE, and leaves the same words
  pub work_just_those : for_room r ≡ true → {a : Told} {l : ℕ} {x : List ℕ} → Meets (works n) v a l x → (a ≡ more) × (l ≡ n) × (x ≡ w)
  work_just_those k p = same_parts p _ (work_keeps_earlier k).earlier

  -- and worked again, with any budget but 0, it is refused again: by the same refusal, with no step and no word changed
  pub work_refused_again : for_room r ≡ true → {a : Told} {k l : ℕ} {x : List ℕ} → Meets (works (suc k)) w a l x → (a ≡ told_refusal r) × (l ≡ 0) × (x ≡ w)
  work_refused_again f {k = k} p = same_parts p _ (rw (sym m.leaves) at (work_refused_stays b v r f (sym m.tells) k))

-- an opening, refused as such: all words, and no step
pub opening_leaves_all : {b n : ℕ} {v w : List ℕ} (q : Question) (r : Refusal) → Meets (opens q b) v (told_unopened r) n w → (w ≡ v) × (n ≡ 0)
opening_leaves_all {b} {v = v} q r m =
    let h = opening_refused_as_found q b v r (sym m.tells) in
    (m.leaves ∙ h.0, m.counts ∙ h.1)

-- refused by a step of its first instalment: by 5 or 6, in an image that was idle; the words of the steps before, their number, and it is
-- asked; just those steps, and again, as for work
module _ {b n : ℕ} {v w : List ℕ} (q : Question) (r : Refusal) (m : Meets (opens q b) v (told_refusal r) n w) where
  pub opening_by_step : for_room r ≡ true
  opening_by_step = opening_for_room q b v r (sym m.tells)

  pub opening_of_idle : T (not (is_asked (table v)))
  opening_of_idle = opening_was_idle q b v r (sym m.tells)

  pub opening_keeps_earlier : KeepsEarlier (opens q) b v n w
  opening_keeps_earlier = rw (m.counts, m.leaves) (opening_refused_keeps q b v r (sym m.tells))

  pub opening_just_those : {a : Told} {l : ℕ} {x : List ℕ} → Meets (opens q n) v a l x → (a ≡ more) × (l ≡ n) × (x ≡ w)
  opening_just_those p = same_parts p _ opening_keeps_earlier.earlier

  pub opening_refused_again : {a : Told} {k l : ℕ} {x : List ℕ} → Meets (works (suc k)) w a l x → (a ≡ told_refusal r) × (l ≡ 0) × (x ≡ w)
  opening_refused_again {k = k} p = same_parts p _ (rw (sym m.leaves) at (opening_refused_stays q b v r (sym m.tells) k))
