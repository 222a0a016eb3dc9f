use Rattle.std.proofs.Common.{get_or}
use Rattle.board.specs.Logs.{no_row, no_spec}
use Rattle.board.specs.Verdicts.{MayPassRow}
use Rattle.rule_audit.specs.Pass.{log_of}
use Rattle.rule_audit.proofs.Judging.{verdict_closes}
use Rattle.rule_audit.proofs.interval.interval_verdict.Goals as goal

pub returns-then-leaves : goal.returns-then-leaves
returns-then-leaves c = λ e is known.
    verdict_closes (MayPassRow (log_of c.args.hour.now e) c.args.index c.args.item.now.spec) (get_or c.args.hour.now.specs.now c.args.item.now.spec no_spec) (get_or c.args.hour.now.rows.now c.args.index no_row) c.args.item.now c.closing_verdict.result (c.leaves.ensures.0 c.if-leaves.true) (c.closing_verdict.ensures e is known)
