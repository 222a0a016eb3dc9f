use Rattle.colour_machine.proofs.Bits.{has_test}
use Rattle.colour_machine.proofs.mask.Mask.has.Goals as goal

pub returns : goal.returns
returns c = rw (← c.self.view_is) (has_test c.self.inside.bits c.args.colour c.requires)
