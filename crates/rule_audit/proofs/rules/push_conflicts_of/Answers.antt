use Rattle.rule_audit.specs.Rules.{conflict_rule}
use Rattle.rule_audit.proofs.Numbers.{numbers_all, number_turn, numbers_over}
use Rattle.rule_audit.proofs.rules.push_conflicts_of.Goals as goal

pub loop-b-init : goal.loop-b-init
loop-b-init c = numbers_all (conflict_rule c.args.config.now c.args.a) c.args.rules.now.items

pub loop-b-preserved : goal.loop-b-preserved
loop-b-preserved c = number_turn (conflict_rule c.args.config.now c.args.a) c.loop-b.b c.loop-b.rules.items _ _ c.loop-b-test.true c.loop-b.invariant c.in_ok-push_conflict.ensures

pub returns : goal.returns
returns c = numbers_over (conflict_rule c.args.config.now c.args.a) c.loop-b.b c.loop-b.rules.items _ c.loop-b-test.false c.loop-b.invariant
