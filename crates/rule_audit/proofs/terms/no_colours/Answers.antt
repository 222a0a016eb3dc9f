use Rattle.ring_config.proofs.ParentLaws.{no_bits}
use Rattle.rule_audit.proofs.terms.no_colours.Goals as goal

pub returns : goal.returns
returns c = no_bits c.none.result c.none.ensures
