-- What falls at each call of `negate` within it: the entry's number.
use Rattle.type_table.proofs.+negate.Given as goal

abbrev pub decreases-negate : goal.decreases-negate
decreases-negate l = l.n
