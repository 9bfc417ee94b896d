-- `decide`: the rule that fits two kinds, as the rules say it.
use Rattle.decision.proofs.Leaf.{leaf}
use Rattle.decision.proofs.decide.Goals as goal

pub returns-clause-result_value : goal.returns-clause-result_value
returns-clause-result_value c = leaf c.first_fit.result _ _ _ _ c.first_fit.ensures
