-- Components have smaller numbers, so `is_disjoint_from_sup` ends.
use Rattle.disjoint.proofs.+is_disjoint_from_sup.Given as goal

abbrev pub decreases-is_disjoint_from_sup : goal.decreases-is_disjoint_from_sup
decreases-is_disjoint_from_sup l = l.n
