use Rattle.std.proofs.Common.{◌≡◌, ◌++◌}
use Rattle.rule_audit.specs.Rules.{companion_rule, each_number}
use Rattle.rule_audit.proofs.Numbers.{numbers_left}
use Rattle.rule_audit.proofs.rules.push_companions.Given as goal

abbrev pub invariant-loop-ped : goal.invariant-loop-ped
invariant-loop-ped l = l.rules.items ++ numbers_left (companion_rule l.config) l.ped ≡ l.fn.rules.items ++ each_number (companion_rule l.config)
