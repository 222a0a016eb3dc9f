use Rattle.std.proofs.Common.{arith}
use Rattle.std.proofs.lemmas.List.{nil_from_length}
use Rattle.arrival_measures.proofs.Bare.{carried_over}
use Rattle.arrival_measures.proofs.hour.over_hour.Goals as goal

pub returns-then-approach_count-eq0-clause-carry : goal.returns-then-approach_count-eq0-clause-carry
returns-then-approach_count-eq0-clause-carry c = λ known before hour h is cut.
    carried_over c.args.config.now (nil_from_length c.args.config.now.approaches (omega arith)) known before hour c.args.rows.now c.args.stretches.now c.args.carry.now h is
