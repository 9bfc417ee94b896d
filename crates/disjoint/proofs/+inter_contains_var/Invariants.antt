-- Components have smaller numbers, so `inter_contains_var` ends.
use Rattle.disjoint.proofs.+inter_contains_var.Given as goal

abbrev pub decreases-inter_contains_var : goal.decreases-inter_contains_var
decreases-inter_contains_var l = l.n
