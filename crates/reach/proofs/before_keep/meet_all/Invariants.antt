use Rattle.reach.specs.Latest.{IsMeet}
use Rattle.reach.proofs.before_keep.meet_all.Given as goal

abbrev pub invariant-loop-colour : goal.invariant-loop-colour
invariant-loop-colour l = IsMeet l.latest l.limits l.new l.colour
