use Rattle.std.proofs.Common.{Some}
use Rattle.std.proofs.lemmas.Result.{IfOk-weaker}
use Rattle.board.specs.Logs.{first_tenth}
use Rattle.other_measures.proofs.Hours.{first_is, hour_seen}
use Rattle.other_measures.proofs.hour.others_hour.Goals as goal

pub returns-clause-states : goal.returns-clause-states
returns-clause-states c =
    let cfg = c.args.config.now in
    let rows = c.args.rows.now in
    let ss = c.args.stretches.now in
    IfOk-weaker c.over_hour.result _ _
    (λ sums at log is. at (Some log) (first_tenth log.hour) (hour_seen cfg _ rows ss log is (first_is cfg c.args.view.now rows ss log c.first_of.result is c.first_of.ensures)))
    c.over_hour.ensures.states
