use Rattle.std.proofs.Common.{arith, ◌≤◌, ◌-◌}
use Rattle.row_reader.proofs.reader.hour_rows.Goals as goal

pub overflow_cast-repeats : goal.overflow_cast-repeats
overflow_cast-repeats g c =
    let n : c.len.result ≤ 400000 = omega (arith, c.len.ensures, c.order_rows.new.rows.ok, c.order_rows.ensures.len, c.requires.few) in
    let few : c.len.result - c.len-2.result ≤ 400000 = omega arith in
    omega arith

pub of-requires : goal.of-requires
of-requires g c = record {
  in_range = c.requires.hour;
  few = omega (arith, c.in_ok-kept.ensures.count, c.order_rows.ensures.len, c.requires.few);
  rise = c.in_ok-kept.ensures.rise;
}
