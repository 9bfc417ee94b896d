-- The depth falls at each call.
use Rattle.replay_test.proofs.table.Table.+leads.Given as goal

abbrev pub decreases-leads : goal.decreases-leads
decreases-leads g l = l.depth
