use Rattle.ring_config.proofs.ParentLaws.{one_bit_more}
use Rattle.rule_audit.proofs.terms.with_colour.Goals as goal

pub returns : goal.returns
returns c = one_bit_more c.args.colours c.with.result c.args.colour c.with.ensures
