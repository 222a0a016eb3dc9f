use Rattle.rule_audit.proofs.Fitting.{few_rules}
use Rattle.sigaudit.proofs.pairs.place_of.Goals as goal

pub rule_within-requires : goal.rule_within-requires
rule_within-requires c = rw c.requires (few_rules c.args.config.now c.hours-hours.ensures.sound)
