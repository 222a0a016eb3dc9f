use Rattle.std.proofs.Common.{ℕ, ◌-◌, ◌≤◌, true, length}
use Rattle.board.specs.Logs.{end_tenth}
use Rattle.rule_audit.specs.Judged.{HasVerdict}
use Rattle.rule_audit.specs.Pass.{AddsUpTo, Ends, IsCutAt, IsLogOf, log_of, obligations_in}
use Rattle.rule_audit.proofs.walk.judge_on.Given as goal

abbrev pub invariant-tenths : goal.invariant-tenths
invariant-tenths l = (y : ℕ) × (l.from ≤ y) × (y ≤ l.to) × IsCutAt l.hour.rows.now y l.next × ((e : Ends) → IsLogOf l.hour e → AddsUpTo (HasVerdict (log_of l.hour e)) (obligations_in l.hour true l.from (end_tenth e.hour)) (obligations_in l.hour true y (end_tenth e.hour)) l.fn.lines.items l.lines.items)

abbrev pub decreases-tenths : goal.decreases-tenths
decreases-tenths l = length l.hour.rows.now - l.next
