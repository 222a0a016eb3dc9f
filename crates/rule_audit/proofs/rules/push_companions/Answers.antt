use Rattle.rule_audit.specs.Rules.{companion_rule}
use Rattle.rule_audit.proofs.Numbers.{numbers_all, number_turn, numbers_over}
use Rattle.rule_audit.proofs.rules.push_companions.Goals as goal

pub loop-ped-init : goal.loop-ped-init
loop-ped-init c = numbers_all (companion_rule c.args.config.now) c.args.rules.now.items

pub loop-ped-preserved : goal.loop-ped-preserved
loop-ped-preserved c = number_turn (companion_rule c.args.config.now) c.loop-ped.ped c.loop-ped.rules.items _ _ c.loop-ped-test.true c.loop-ped.invariant c.in_ok-push_companion.ensures

pub returns : goal.returns
returns c = numbers_over (companion_rule c.args.config.now) c.loop-ped.ped c.loop-ped.rules.items _ c.loop-ped-test.false c.loop-ped.invariant
