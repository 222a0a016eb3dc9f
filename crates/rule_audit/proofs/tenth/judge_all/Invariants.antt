use Rattle.std.proofs.Common.{◌+◌, false, drop}
use Rattle.rule_audit.specs.Obligations.{end_obligations}
use Rattle.rule_audit.specs.Judged.{HasVerdict}
use Rattle.rule_audit.specs.Pass.{AddsUpTo, Ends, IsLogOf, log_of}
use Rattle.rule_audit.proofs.tenth.judge_all.Given as goal

abbrev pub invariant-loop-place : goal.invariant-loop-place
invariant-loop-place l = (e : Ends) → IsLogOf l.hour e → AddsUpTo (HasVerdict (log_of l.hour e)) (end_obligations l.hour.specs.now l.hour.rows.now false l.at 1 l.hour.rules.now) (end_obligations l.hour.specs.now l.hour.rows.now false l.at (l.place + 1) (drop l.place l.hour.rules.now)) l.fn.lines.items l.lines.items
