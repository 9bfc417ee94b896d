-- `is_subtype_of`: whether p is a proper subtype of q: Int or Float under Number.
use Rattle.disjoint.proofs.Shapes.{int_under, float_under, not_under}
use Rattle.disjoint.proofs.is_subtype_of.Goals as goal

pub returns-then-p-eq-INT : goal.returns-then-p-eq-INT
returns-then-p-eq-INT c = int_under _ _ c.if-q-eq-NUMBER.true c.if-p-eq-INT.true

pub returns-then-q-eq-NUMBER : goal.returns-then-q-eq-NUMBER
returns-then-q-eq-NUMBER c = float_under _ _ c.if-q-eq-NUMBER.true c.if-p-eq-INT.false

pub returns : goal.returns
returns c = not_under _ _ c.if-q-eq-NUMBER.false
