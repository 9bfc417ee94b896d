-- What a call replies, by its tests: a test and then the rest; the image's admission; the turn of a well formed image. No other law
-- opens these. Assumes nothing.
use Rattle.std.specs.Prelude.{Err, Ok, Result}
use Prim.Native.Nat.{ℕ}
use mathlib.Core.Path.{◌≡◌, ap, subst}
use mathlib.Core.List.{List}
use mathlib.Core.Bool.{Bool, true, false, not, cond}
use lib.Dec.{T, eqb→eq}
use Rattle.model.specs.Image.{table}
use Rattle.model.specs.Formed.{well_formed}
use Rattle.model.specs.Calls.{Response, Turn, refuse, tell, response_of, admission, admitted, on_table, provided, open_turn, Call, opens, is_opening, denies, turn_of, perform}
use Rattle.model.specs.Told.{Told, number_of, told_refusal, told_unopened}
use Rattle.model.proofs.OneToOne.{refusal_one_to_one}
use Rattle.model.specs.declared.Question.{Question}
use Rattle.model.specs.declared.Refusal.{Refusal}
use Rattle.laws.specs.Refusals.{for_room, of_image}
use Rattle.laws.proofs.Tests.{true_of, no_test}
use Rattle.laws.proofs.Stores.{by_test}

-- a test, then the rest: what holds of the refusal and of the rest holds of both; and each by itself
pub by_provided : (P : Turn → Type 0) (ok : Bool) {r : Refusal} {turn : Turn} → (T (not ok) → P (refuse r)) → (T ok → P turn) → P (provided ok r turn)
unfolding provided
by_provided P ok f g = by_test P ok g f

pub refused_by : (ok : Bool) (r : Refusal) (turn : Turn) → ok ≡ false → provided ok r turn ≡ refuse r
unfolding provided
refused_by ok r turn e = rw e

pub passed_by : (ok : Bool) (r : Refusal) (turn : Turn) → ok ≡ true → provided ok r turn ≡ turn
unfolding provided
passed_by ok r turn e = rw e

-- an image is good exactly where it is well formed, and its refusals are of the image
abbrev Admits : List ℕ → Result (Unit {0}) Refusal → Type 0
Admits ws (Ok tt) = T (well_formed ws)
Admits ws (Err r) = T (not (well_formed ws)) × T (of_image r)

admits : (ws : List ℕ) → Admits ws (admission ws)
unfolding admission
admits ws = by_test (Admits ws) (well_formed ws) (λ h. h) (λ h. (h, tt))

pub formed_good : (ws : List ℕ) → T (well_formed ws) → admission ws ≡ (Ok tt)
unfolding admission
formed_good ws h = rw (true_of (well_formed ws) h)

pub good_formed : (ws : List ℕ) → admission ws ≡ (Ok tt) → T (well_formed ws)
good_formed ws e = subst (λ (a : Result (Unit {0}) Refusal). Admits ws a) e (admits ws)

-- every call of a well formed image is its turn; of another, the refusal
pub perform_formed : (c : Call) (ws : List ℕ) → T (well_formed ws) → perform c ws ≡ response_of ws (turn_of c ws (table ws))
unfolding perform on_table admitted
perform_formed c ws h = rw (formed_good ws h)

pub perform_unfit : (c : Call) (ws : List ℕ) (r : Refusal) → admission ws ≡ Err r → perform c ws ≡ response_of ws (tell (denies c r))
unfolding perform on_table admitted
perform_unfit c ws r e = rw e

-- questions that open alike
pub same_opening : (q p : Question) (b : ℕ) (ws : List ℕ) → open_turn q b (table ws) ≡ open_turn p b (table ws) → perform (opens q b) ws ≡ perform (opens p b) ws
unfolding perform on_table turn_of
same_opening q p b ws e = ap (λ (turn : Turn). response_of ws (admitted told_unopened (admission ws) turn)) e

pub by_fitness : (P : Turn → Type 0) (denied : Refusal → Told) (ws : List ℕ) (turn : Turn) → ((r : Refusal) → T (of_image r) → P (tell (denied r))) → (T (well_formed ws) → P turn)
    → P (admitted denied (admission ws) turn)
unfolding admitted
by_fitness P denied ws turn f g = fitness (admission ws) (admits ws)
  where
    fitness : (a : Result (Unit {0}) Refusal) → Admits ws a → P (admitted denied a turn)
    fitness (Ok tt) h = g h
    fitness (Err r) h = f r h.1

pub by_admission : (P : Response → Type 0) (c : Call) (ws : List ℕ) → ((r : Refusal) → T (of_image r) → P (response_of ws (tell (denies c r))))
    → (T (well_formed ws) → P (response_of ws (turn_of c ws (table ws)))) → P (perform c ws)
unfolding perform on_table
by_admission P c ws f g = by_fitness (λ (turn : Turn). P (response_of ws turn)) (denies c) ws (turn_of c ws (table ws)) f g

-- what a call says but a refusal of the image, it says of a well formed one
pub said_formed : (c : Call) (ws : List ℕ) (a : Told) → ((r : Refusal) → T (of_image r) → denies c r ≡ a → ⊥) → (perform c ws).says ≡ a → T (well_formed ws)
unfolding response_of
said_formed c ws a n = by_admission (λ (r : Response). r.says ≡ a → T (well_formed ws)) c ws (λ r h e. absurd (n r h e)) (λ h e. h)

-- a refusal of the image is told as a refusal, or as one at the opening
pub by_denial : (P : Told → Type 0) (c : Call) (r : Refusal) → P (told_refusal r) → P (told_unopened r) → P (denies c r)
by_denial P c r h k = denied (is_opening c)
  where
    denied : (t : Bool) → P (cond t (told_unopened r) (told_refusal r))
    denied true = k
    denied false = h

-- refusals that a test tells apart are told differently
pub other_refusal : (f : Refusal → Bool) (r w : Refusal) → T (f r) → f w ≡ false → told_refusal r ≡ told_refusal w → ⊥
other_refusal f r w h n e = no_test (f w) n (subst (λ (v : Refusal). T (f v)) (refusal_one_to_one r w e) h)

pub image_not_room : (r : Refusal) → T (of_image r) → for_room r ≡ false
image_not_room r h = let e : number_of r ≡ 1 = eqb→eq (number_of r) 1 h in rw e
