use Rattle.std.proofs.Common.{◌≡◌, ◌++◌}
use Rattle.rule_audit.specs.Rules.{each_number, parent_term}
use Rattle.rule_audit.proofs.Numbers.{numbers_left}
use Rattle.rule_audit.proofs.terms.push_parents.Given as goal

abbrev pub invariant-loop-phase : goal.invariant-loop-phase
invariant-loop-phase l = l.terms.items ++ numbers_left (parent_term l.config.specs l.overlap) l.phase ≡ l.fn.terms.items ++ each_number (parent_term l.config.specs l.overlap)
