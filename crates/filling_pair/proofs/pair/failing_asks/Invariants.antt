use Rattle.std.proofs.Common.{◌≡◌, map, take}
use Rattle.filling_pair.specs.Asks.{failing}
use Rattle.filling_pair.proofs.pair.failing_asks.Given as goal

abbrev pub invariant-loop-term : goal.invariant-loop-term
invariant-loop-term l = l.asks.items ≡ map failing (take l.term-index l.terms)
