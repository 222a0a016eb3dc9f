use Rattle.std.proofs.Common.{arith}
use Rattle.ring_config.proofs.SpecLaws.{floors_filled}
use Rattle.ring_config.proofs.channels.floors_of.Goals as goal

pub returns : goal.returns
returns c = floors_filled c.args.floors.now c.args.spec c.loop-colour.tenths c.loop-colour.invariant.len (λ k lt. c.loop-colour.invariant.filled k (omega arith))
