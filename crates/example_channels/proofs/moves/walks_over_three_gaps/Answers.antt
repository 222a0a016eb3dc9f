use Rattle.std.proofs.Common.{arith, negsuc}
use Rattle.std.proofs.lemmas.Int.{ints}
use Rattle.reach.specs.Runs.{state}
use Rattle.example_channels.proofs.moves.walks_over_three_gaps.Goals as goal

pub walk_past-requires-clause-order : goal.walk_past-requires-clause-order
walk_past-requires-clause-order g c = (
  0,
  λ s h. ((c.in_ok-past.ensures.states s).0 h).1.1,
  rw (c.entered.ensures, c.entered-2.ensures) (omega arith, omega arith, (omega arith, omega arith, (omega arith, omega arith, (omega arith, omega arith, (omega arith, omega arith, tt))))),
)

pub walk_past-requires-clause-some : goal.walk_past-requires-clause-some
walk_past-requires-clause-some g c = (state 0 (negsuc 0), (c.in_ok-past.ensures.states (state 0 (negsuc 0))).1 (omega arith, (omega (arith, ints), omega (arith, ints))))
