use Rattle.std.proofs.Common.{◌≡◌, ◌++◌}
use Rattle.rule_audit.specs.Rules.{conflict_rule, each_number}
use Rattle.rule_audit.proofs.Numbers.{numbers_left}
use Rattle.rule_audit.proofs.rules.push_conflicts_of.Given as goal

abbrev pub invariant-loop-b : goal.invariant-loop-b
invariant-loop-b l = l.rules.items ++ numbers_left (conflict_rule l.config l.a) l.b ≡ l.fn.rules.items ++ each_number (conflict_rule l.config l.a)
