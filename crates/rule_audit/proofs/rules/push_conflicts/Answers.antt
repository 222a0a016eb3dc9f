use Rattle.rule_audit.specs.Rules.{conflict_rule, each_number}
use Rattle.rule_audit.proofs.Numbers.{numbers_all, number_turn, numbers_over}
use Rattle.rule_audit.proofs.rules.push_conflicts.Goals as goal

pub loop-a-init : goal.loop-a-init
loop-a-init c = numbers_all (λ a. each_number (conflict_rule c.args.config.now a)) c.args.rules.now.items

pub loop-a-preserved : goal.loop-a-preserved
loop-a-preserved c = number_turn (λ a. each_number (conflict_rule c.args.config.now a)) c.loop-a.a c.loop-a.rules.items _ _ c.loop-a-test.true c.loop-a.invariant c.in_ok-push_conflicts_of.ensures

pub returns : goal.returns
returns c = numbers_over (λ a. each_number (conflict_rule c.args.config.now a)) c.loop-a.a c.loop-a.rules.items _ c.loop-a-test.false c.loop-a.invariant
