-- `end_question`: ends the question, whatever is pending.
use Rattle.image.proofs.Laying.{shown_as}
use Rattle.writes.proofs.Pending.{stated}
use Rattle.writes.proofs.end_question.Goals as goal

pub end_if_done-requires : goal.end_if_done-requires
end_if_done-requires c = shown_as c.clear_pending.ensures

pub returns : goal.returns
returns c = stated c.clear_pending.ensures c.end_if_done.ensures
