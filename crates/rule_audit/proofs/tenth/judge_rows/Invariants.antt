use Rattle.std.proofs.Common.{drop}
use Rattle.rule_audit.specs.Obligations.{rows_obligations}
use Rattle.rule_audit.specs.Judged.{HasVerdict}
use Rattle.rule_audit.specs.Pass.{AddsUpTo, Ends, IsLogOf, log_of}
use Rattle.rule_audit.proofs.tenth.judge_rows.Given as goal

abbrev pub invariant-loop-index : goal.invariant-loop-index
invariant-loop-index l = (e : Ends) → IsLogOf l.hour e → AddsUpTo (HasVerdict (log_of l.hour e)) (rows_obligations l.hour.specs.now l.hour.rules.now l.at 0 l.hour.rows.now) (rows_obligations l.hour.specs.now l.hour.rules.now l.at l.index (drop l.index l.hour.rows.now)) l.fn.lines.items l.lines.items
