use Rattle.std.proofs.Common.{◌≡◌, ◌++◌}
use Rattle.rule_audit.specs.Rules.{parents_rule, each_number}
use Rattle.rule_audit.proofs.Numbers.{numbers_left}
use Rattle.rule_audit.proofs.rules.push_all_parents.Given as goal

abbrev pub invariant-loop-number : goal.invariant-loop-number
invariant-loop-number l = l.rules.items ++ numbers_left (parents_rule l.config) l.number ≡ l.fn.rules.items ++ each_number (parents_rule l.config)
