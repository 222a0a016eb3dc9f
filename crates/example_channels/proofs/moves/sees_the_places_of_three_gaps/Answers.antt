use Rattle.std.proofs.Common.{arith}
use Rattle.example_channels.proofs.moves.sees_the_places_of_three_gaps.Goals as goal

pub new-requires-clause-order : goal.new-requires-clause-order
new-requires-clause-order g c = (
  0,
  λ s h. ((c.in_ok-before.ensures.states s).0 h).1.1,
  rw (c.in_ok-moves.ensures.items, c.entered.ensures, c.entered-2.ensures) (omega arith, omega arith, (omega arith, omega arith, (omega arith, omega arith, (omega arith, omega arith, (omega arith, omega arith, tt))))),
)
