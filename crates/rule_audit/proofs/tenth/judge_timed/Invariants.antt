use Rattle.std.proofs.Common.{◌-◌, ◌≡◌, ◌+◌, ◌<◌, ◌≤◌, true, length, get_or, drop}
use Rattle.board.specs.Logs.{no_row}
use Rattle.rule_audit.specs.Obligations.{is_timed_by, row_obligations}
use Rattle.rule_audit.specs.Judged.{HasVerdict}
use Rattle.rule_audit.specs.Index.{no_rule}
use Rattle.rule_audit.specs.Pass.{AddsUpTo, Ends, IsLogOf, log_of}
use Rattle.rule_audit.proofs.tenth.judge_timed.Given as goal

abbrev pub invariant-rules : goal.invariant-rules
invariant-rules l = (l.place ≤ length l.hour.rules.now) × (l.place < length l.hour.rules.now → is_timed_by l.hour.specs.now (get_or l.hour.rows.now l.index no_row) (get_or l.hour.rules.now l.place no_rule) ≡ true) × ((e : Ends) → IsLogOf l.hour e → AddsUpTo (HasVerdict (log_of l.hour e)) (row_obligations l.hour.specs.now l.index (get_or l.hour.rows.now l.index no_row) 1 l.hour.rules.now) (row_obligations l.hour.specs.now l.index (get_or l.hour.rows.now l.index no_row) (l.place + 1) (drop l.place l.hour.rules.now)) l.fn.lines.items l.lines.items)

abbrev pub decreases-rules : goal.decreases-rules
decreases-rules l = l.count - l.place
