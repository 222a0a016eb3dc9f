use Rattle.colour_machine.proofs.Bits.{has_ones}
use Rattle.colour_machine.proofs.mask.Mask.all.Goals as goal

pub returns : goal.returns
returns c = has_ones
