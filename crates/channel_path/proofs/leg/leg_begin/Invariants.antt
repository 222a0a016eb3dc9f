use Rattle.std.proofs.Common.{◌-◌}
use Rattle.channel_path.proofs.Legs.{InLeg}
use Rattle.channel_path.proofs.leg.leg_begin.Given as goal

abbrev pub invariant-loop-begin : goal.invariant-loop-begin
invariant-loop-begin l = InLeg l.moves (l.begin - 1) l.place
