use Rattle.std.proofs.Common.{◌≡◌, ◌<◌, ◌^◌, true, take, drop}
use Rattle.row_reader.specs.Number.{all_digits, number_from}
use Rattle.row_reader.proofs.number.number_from.Given as goal

-- what was read so far and the digits that are left give the number, which is below that power of ten
abbrev pub invariant-loop-b : goal.invariant-loop-b
invariant-loop-b l = record {
  same : number_from 0 l.text ≡ number_from l.n (drop l.b-index l.text);
  digits : all_digits (take l.b-index l.text) ≡ true;
  room : l.n < 10 ^ l.b-index;
}
