use Rattle.std.proofs.Common.{◌≡◌, ◌+◌, ◌*◌, ◌≤◌, true, length}
use Rattle.row_reader.specs.Order.{AreWithin}
use Rattle.row_reader.specs.Request.{wanted}
use Rattle.row_reader.proofs.ReadFacts.{IsAt, RisesTo}
use Rattle.row_reader.proofs.reader.good_rows.Given as goal

abbrev pub invariant-loop-number : goal.invariant-loop-number
invariant-loop-number l = record {
  at : IsAt (wanted l.request) l.bytes l.reader l.headers l.rows.items l.number;
  within : AreWithin (36000 * l.request.hour) (36000 * l.request.hour + 36000) l.rows.items;
  headers : l.headers ≤ 1;
  count : length l.rows.items + l.headers + 1 ≡ l.number;
  few : l.number ≤ l.headers + 400001;
  rise : l.rise ≡ true → RisesTo l.last l.rows.items;
}
