-- No two answers of the operator calls tell the same. Assumes nothing.
use mathlib.Core.Path.{◌≡◌, refl, ap}
use Rattle.std.specs.Prelude.{None, Some, Ok, Err}
use Rattle.model.proofs.OneToOne.{refusal_one_to_one}
use Rattle.operators.specs.Operators.{Resolved, told_resolved}

pub resolved_one_to_one : (a b : Resolved) → told_resolved a ≡ told_resolved b → a ≡ b
resolved_one_to_one (Ok (Some p)) (Ok (Some q)) e = cc
resolved_one_to_one (Ok (Some p)) (Ok None) e = cc
resolved_one_to_one (Ok (Some p)) (Err s) e = cc
resolved_one_to_one (Ok None) (Ok (Some q)) e = cc
resolved_one_to_one (Ok None) (Ok None) e = refl
resolved_one_to_one (Ok None) (Err s) e = cc
resolved_one_to_one (Err r) (Ok (Some q)) e = cc
resolved_one_to_one (Err r) (Ok None) e = cc
resolved_one_to_one (Err r) (Err s) e = ap Err (refusal_one_to_one r s e)
