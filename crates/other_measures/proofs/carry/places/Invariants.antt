use Rattle.std.proofs.Common.{◌≡◌, ◌≤◌, max, drop}
use Rattle.other_measures.specs.Crossing.{places}
use Rattle.other_measures.proofs.carry.places.Given as goal

abbrev pub invariant-loop-number : goal.invariant-loop-number
invariant-loop-number l = record {
  rest : max l.places (places (drop l.number-index l.numbers)) ≡ places l.numbers;
  few : l.places ≤ 256;
}
