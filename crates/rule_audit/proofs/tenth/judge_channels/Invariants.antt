use Rattle.std.proofs.Common.{◌-◌}
use Rattle.rule_audit.proofs.Dues.{IsDueUpTo}
use Rattle.rule_audit.proofs.tenth.judge_channels.Given as goal

abbrev pub invariant-rules : goal.invariant-rules
invariant-rules l = IsDueUpTo l.hour l.at l.place l.fn.lines.items l.lines.items

abbrev pub decreases-rules : goal.decreases-rules
decreases-rules l = l.count - l.place
