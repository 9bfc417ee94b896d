-- `record`: reads record n of a region, 1 to 6, as it stands.
use Rattle.std.proofs.lemmas.Result.{err_from_is_err_and}
use mathlib.Core.Path.{◌∙◌, ap}
use Rattle.model.specs.Calls.{Response, response_of, turn_of, reads_record}
use Rattle.turns.proofs.Turning.{unfit, good_image, good}
use Rattle.sheafwinch.proofs.record.Goals as goal

pub record_in-requires : goal.record_in-requires
record_in-requires c = good_image _ c.admit.ensures c.in_ok-admit.was

pub returns-in_err-admit : goal.returns-in_err-admit
unfolding response_of
returns-in_err-admit c =
    let e = err_from_is_err_and c.from_residual.result c.from_residual.ensures.1 in
    rw (e.1, e.2) (ap (λ (x : Response). x.says) (unfit c.args.image.now c.admit.ensures (reads_record c.args.region c.args.n) c.in_err-admit.was))

pub returns : goal.returns
unfolding turn_of
returns c = c.record_in.ensures ∙ ap (λ (x : Response). x.says) (good c.args.image.now c.admit.ensures (reads_record c.args.region c.args.n) c.in_ok-admit.was)
