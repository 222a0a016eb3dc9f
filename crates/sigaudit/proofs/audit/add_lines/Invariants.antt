use Rattle.std.proofs.Common.{◌≡◌, ◌++◌, take}
use Rattle.sigaudit.specs.Audit.{failing_of}
use Rattle.sigaudit.proofs.audit.add_lines.Given as goal

abbrev pub invariant-loop-line : goal.invariant-loop-line
invariant-loop-line l = l.failing.items ≡ l.initial.failing.items ++ failing_of (take l.line-index l.lines)
