use Rattle.std.proofs.Common.{arith, negsuc}
use Rattle.std.proofs.lemmas.Int.{ints}
use Rattle.reach.specs.Runs.{state}
use Rattle.example_channels.proofs.ways.fills_the_gaps_around_a_place.Goals as goal

pub passage_source-requires-clause-some : goal.passage_source-requires-clause-some
passage_source-requires-clause-some g c = (state 0 (negsuc 0), (c.in_ok-before.ensures.states (state 0 (negsuc 0))).1 (omega arith, (omega (arith, ints), omega (arith, ints))))

pub passage_source-requires-2-clause-some : goal.passage_source-requires-2-clause-some
passage_source-requires-2-clause-some g c = (state 0 (negsuc 0), (c.in_ok-before.ensures.states (state 0 (negsuc 0))).1 (omega arith, (omega (arith, ints), omega (arith, ints))))
