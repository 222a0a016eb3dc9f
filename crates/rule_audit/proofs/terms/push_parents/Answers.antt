use Rattle.rule_audit.specs.Rules.{parent_term}
use Rattle.rule_audit.proofs.Numbers.{numbers_all, number_turn, numbers_over}
use Rattle.rule_audit.proofs.terms.push_parents.Goals as goal

pub loop-phase-init : goal.loop-phase-init
loop-phase-init c = numbers_all (parent_term c.args.config.now.specs c.args.overlap.now) c.args.terms.now.items

pub loop-phase-preserved : goal.loop-phase-preserved
loop-phase-preserved c = number_turn (parent_term c.args.config.now.specs c.args.overlap.now) c.loop-phase.phase c.loop-phase.terms.items _ _ c.loop-phase-test.true c.loop-phase.invariant c.in_ok-push_parent.ensures

pub returns : goal.returns
returns c = numbers_over (parent_term c.args.config.now.specs c.args.overlap.now) c.loop-phase.phase c.loop-phase.terms.items _ c.loop-phase-test.false c.loop-phase.invariant
