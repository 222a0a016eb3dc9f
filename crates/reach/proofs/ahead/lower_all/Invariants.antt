use Rattle.reach.specs.Latest.{IsLower}
use Rattle.reach.proofs.ahead.lower_all.Given as goal

abbrev pub invariant-loop-colour : goal.invariant-loop-colour
invariant-loop-colour l = IsLower l.limit l.latest l.new l.colour
