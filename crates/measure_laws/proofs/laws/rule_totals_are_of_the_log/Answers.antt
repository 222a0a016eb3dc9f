use Rattle.measure_laws.proofs.Rules.{rule_totals}
use Rattle.measure_laws.proofs.laws.rule_totals_are_of_the_log.Goals as goal

pub returns : goal.returns
returns c = rule_totals
