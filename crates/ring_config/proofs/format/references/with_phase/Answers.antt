use Rattle.std.proofs.Common.{◌-◌}
use Rattle.ring_config.proofs.ParentLaws.{one_bit_more}
use Rattle.ring_config.proofs.format.references.with_phase.Goals as goal

pub returns : goal.returns
returns c = one_bit_more c.args.phases c.with.result (c.args.number - 1) c.with.ensures
