use Rattle.std.proofs.Common.{take}
use Rattle.rule_audit.specs.Index.{IsWritten}
use Rattle.rule_audit.proofs.owners.write_place.Given as goal

abbrev pub invariant-loop-each : goal.invariant-loop-each
invariant-loop-each l = IsWritten (take l.each-index l.moves) l.place l.fn.own l.own
