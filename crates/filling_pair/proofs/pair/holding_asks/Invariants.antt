use Rattle.std.proofs.Common.{take}
use Rattle.filling_pair.specs.Asks.{AreHolding}
use Rattle.filling_pair.proofs.pair.holding_asks.Given as goal

abbrev pub invariant-loop-term : goal.invariant-loop-term
invariant-loop-term l = AreHolding l.spec (take l.term-index l.terms) l.asks.items
