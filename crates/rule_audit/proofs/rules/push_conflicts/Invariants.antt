use Rattle.std.proofs.Common.{◌≡◌, ◌++◌}
use Rattle.rule_audit.specs.Rules.{conflict_rule, each_number}
use Rattle.rule_audit.proofs.Numbers.{numbers_left}
use Rattle.rule_audit.proofs.rules.push_conflicts.Given as goal

abbrev pub invariant-loop-a : goal.invariant-loop-a
invariant-loop-a l = l.rules.items ++ numbers_left (λ a. each_number (conflict_rule l.config a)) l.a ≡ l.fn.rules.items ++ each_number (λ a. each_number (conflict_rule l.config a))
