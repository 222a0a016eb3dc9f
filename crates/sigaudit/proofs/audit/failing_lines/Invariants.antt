use Rattle.sig_base.specs.Reads.{Grow}
use Rattle.sigaudit.proofs.AuditFacts.{FailingOn}
use Rattle.sigaudit.proofs.audit.failing_lines.Given as goal

-- the lines of the hours before this one were found
abbrev pub invariant-loop-hour : goal.invariant-loop-hour
invariant-loop-hour g l = record {
  on : FailingOn l.session.config l.session.store l.failing.items l.hour;
  grow : Grow l.fn.reads l.reads;
}
