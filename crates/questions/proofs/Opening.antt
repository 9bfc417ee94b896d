-- An opening in a well formed image, by what ask said and left: refused, or worked on. Assumes nothing.
use Prim.Native.Nat.{ℕ}
use mathlib.Core.Path.{◌≡◌, sym, ap, ◌∙◌}
use mathlib.Core.List.{List, []}
use lib.Dec.{T}
use Rattle.model.specs.Image.{table}
use Rattle.model.specs.Formed.{well_formed}
use Rattle.model.specs.Calls.{Response, response_of, ask_turn, work_turn, open_turn, opens, works, turn_of, perform, asked}
use Rattle.model.specs.Told.{done, told_refusal, told_unopened}
use Rattle.model.specs.declared.Question.{Question}
use Rattle.model.specs.declared.Refusal.{Refusal}
use Rattle.laws.proofs.Replies.{perform_formed}
use Rattle.laws.proofs.Questions.{Opened, asked_formed, asked_opens, opened_works, asked_refused}

module _ (q : Question) (w : List ℕ) (h : T (well_formed w)) where
  abbrev pub asking : Response
  asking = response_of w (ask_turn q (table w))

  open_is : (b : ℕ) → perform (opens q b) w ≡ response_of w (open_turn q b (table w))
  unfolding turn_of
  open_is b = perform_formed (opens q b) w h

  -- refused: told as one of the opening, no step, every word as found
  pub refused_opening : (b : ℕ) (v : List ℕ) (r : Refusal) → told_refusal r ≡ asking.says → v ≡ asking.words
      → (told_unopened r ≡ (response_of w (open_turn q b (table w))).says) × (0 ≡ (response_of w (open_turn q b (table w))).steps) × (v ≡ (response_of w (open_turn q b (table w))).words)
  refused_opening b v r e f =
      let u = asked_refused q w r (ap (λ (x : Response). x.says) (asked_formed q w h) ∙ sym e) in
      let k = sym (u.opening b) ∙ open_is b in
      let g = ap (λ (x : Response). x.words) (sym (asked_formed q w h) ∙ u.says) in
      (ap (λ (x : Response). x.says) k, ap (λ (x : Response). x.steps) k, f ∙ g ∙ ap (λ (x : Response). x.words) k)

  -- not refused: the image that ask left is well formed, and worked on
  module _ (v : List ℕ) (e : done [] ≡ asking.says) (f : v ≡ asking.words) where
    is_opened : Opened q w
    is_opened = asked_opens q w (ap (λ (x : Response). x.says) (asked_formed q w h) ∙ sym e)

    left : v ≡ (asked q w).words
    left = f ∙ sym (ap (λ (x : Response). x.words) (asked_formed q w h))

    pub left_formed : T (well_formed v)
    left_formed = rw left is_opened.stays

    pub worked_opening : (b : ℕ) → response_of v (work_turn b (table v)) ≡ response_of w (open_turn q b (table w))
    unfolding turn_of
    worked_opening b =
        sym (perform_formed (works b) v left_formed) ∙ ap (λ (ws : List ℕ). perform (works b) ws) left ∙ sym (opened_works q w is_opened b) ∙ open_is b
