-- Any two results that a call's contract allows are equal: one theorem for each public function. Assumes nothing.
use Prim.Native.Nat.{ℕ}
use mathlib.Core.Path.{◌≡◌, sym, ◌∙◌}
use Rattle.operators.specs.Operators.{Resolved, resolved, from_left, at_once}

pub resolve_settled : (op left right : ℕ) (a b : Resolved) → a ≡ resolved op left right → b ≡ resolved op left right → a ≡ b
resolve_settled op left right a b p q = p ∙ sym q

pub from_left_settled : (op left : ℕ) (a b : Resolved) → a ≡ from_left op left → b ≡ from_left op left → a ≡ b
from_left_settled op left a b p q = p ∙ sym q

pub at_once_settled : (op : ℕ) (a b : Resolved) → a ≡ at_once op → b ≡ at_once op → a ≡ b
at_once_settled op a b p q = p ∙ sym q
