-- An answer's words from what a call told, where two facts settle them: the steps of an opening or work, a refusal's number and what it carries, an
-- attrset's flag and dynamic type.
use Rattle.std.specs.Prelude.{None, Option, Some}
use Prim.Native.Nat.{ℕ}
use mathlib.Core.Path.{◌≡◌, sym, ap, ◌∙◌}
use mathlib.Core.List.{[], ◌∷◌}
use mathlib.Core.Bool.{Bool}
use Rattle.model.specs.Told.{Told, done, bit, number_of, carried, carried_values, told_attrset}
use Rattle.model.specs.declared.Refusal.{Refusal}
use Rattle.model.specs.declared.Carried.{Carried}
use Rattle.model.specs.Calls.{Response}
use Rattle.capi.specs.Answers.{answer, answer_of}
use Rattle.capi.specs.declared.Answer.{Answer}

pub worked : (a : Answer) (k n : ℕ) (t u : Told) → a ≡ answer_of k t → k ≡ n → t ≡ u → a ≡ answer_of n u
worked a k n t u e p q = e ∙ ap (λ (m : ℕ). answer_of m t) p ∙ ap (λ (x : Told). answer_of n x) q

pub refused_as : (a : Answer) (kind n steps : ℕ) (c : Carried) (r : Refusal) → a ≡ answer kind n steps (carried_values c) → n ≡ number_of r → c ≡ carried r
    → a ≡ answer kind (number_of r) steps (carried_values (carried r))
refused_as a kind n steps c r e p q =
    e ∙ ap (λ (m : ℕ). answer kind m steps (carried_values c)) p ∙ ap (λ (x : Carried). answer kind (number_of r) steps (carried_values x)) q

pub without : (a : Answer) (first count b : ℕ) (o : Bool) (d : Option ℕ) → a ≡ answer 0 0 0 (4 ∷ first ∷ count ∷ b ∷ 0 ∷ 0 ∷ []) → b ≡ bit o → d ≡ None → a ≡ answer_of 0 (done (told_attrset first count o d))
without a first count b o d e p q =
    e ∙ ap (λ (x : ℕ). answer 0 0 0 (4 ∷ first ∷ count ∷ x ∷ 0 ∷ 0 ∷ [])) p ∙ sym (ap (λ (x : Option ℕ). answer_of 0 (done (told_attrset first count o x))) q)

pub within : (a : Answer) (first count b n : ℕ) (o : Bool) (d : Option ℕ) → a ≡ answer 0 0 0 (4 ∷ first ∷ count ∷ b ∷ 1 ∷ n ∷ []) → b ≡ bit o → d ≡ Some n → a ≡ answer_of 0 (done (told_attrset first count o d))
within a first count b n o d e p q =
    e ∙ ap (λ (x : ℕ). answer 0 0 0 (4 ∷ first ∷ count ∷ x ∷ 1 ∷ n ∷ [])) p ∙ sym (ap (λ (x : Option ℕ). answer_of 0 (done (told_attrset first count o x))) q)

-- a call on two arguments that are each known
pub both : (f : Bool → Option ℕ → Response) (o p : Bool) (d e : Option ℕ) → o ≡ p → d ≡ e → f o d ≡ f p e
both f o p d e x y = ap (λ (b : Bool). f b d) x ∙ ap (λ (t : Option ℕ). f p t) y
