-- Components have smaller numbers, so `union_contains_member` ends.
use Rattle.disjoint.proofs.+union_contains_member.Given as goal

abbrev pub decreases-union_contains_member : goal.decreases-union_contains_member
decreases-union_contains_member l = l.n
