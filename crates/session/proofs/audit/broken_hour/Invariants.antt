use Rattle.std.proofs.Common.{◌≡◌, ◌<◌, ℕ, false, get_or}
use Rattle.rule_audit.specs.declared.lines.AuditLine.{AuditLine}
use Rattle.hour_work.specs.Counts.{is_broken}
use Rattle.session.proofs.audit.broken_hour.Given as goal

abbrev pub invariant-loop-line : goal.invariant-loop-line
invariant-loop-line l = (i : ℕ) (d : AuditLine) → i < l.line-index → is_broken (get_or l.lines i d).verdict ≡ false
