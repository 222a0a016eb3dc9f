use Rattle.rule_audit.specs.Rules.{parents_rule}
use Rattle.rule_audit.proofs.Numbers.{numbers_all, number_turn, numbers_over}
use Rattle.rule_audit.proofs.rules.push_all_parents.Goals as goal

pub loop-number-init : goal.loop-number-init
loop-number-init c = numbers_all (parents_rule c.args.config.now) c.args.rules.now.items

pub loop-number-preserved : goal.loop-number-preserved
loop-number-preserved c = number_turn (parents_rule c.args.config.now) c.loop-number.number c.loop-number.rules.items _ _ c.loop-number-test.true c.loop-number.invariant c.in_ok-push_parents_of.ensures

pub returns : goal.returns
returns c = numbers_over (parents_rule c.args.config.now) c.loop-number.number c.loop-number.rules.items _ c.loop-number-test.false c.loop-number.invariant
