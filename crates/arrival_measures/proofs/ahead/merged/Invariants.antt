use Rattle.std.proofs.Common.{◌≡◌, ◌++◌, drop}
use Rattle.arrival_measures.specs.Steps.{merged}
use Rattle.arrival_measures.proofs.ahead.merged.Given as goal

abbrev pub invariant-loop-turn : goal.invariant-loop-turn
invariant-loop-turn l = l.all.items ++ merged (drop l.turn-index l.turns) l.left ≡ merged l.turns l.arriving
