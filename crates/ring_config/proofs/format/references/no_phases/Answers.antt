use Rattle.ring_config.proofs.ParentLaws.{no_bits}
use Rattle.ring_config.proofs.format.references.no_phases.Goals as goal

pub returns : goal.returns
returns c = no_bits c.none.result c.none.ensures
