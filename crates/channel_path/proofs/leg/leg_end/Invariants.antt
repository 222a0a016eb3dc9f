use Rattle.channel_path.proofs.Legs.{InLeg}
use Rattle.channel_path.proofs.leg.leg_end.Given as goal

abbrev pub invariant-loop-end : goal.invariant-loop-end
invariant-loop-end l = InLeg l.moves l.place l.end
