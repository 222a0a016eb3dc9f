use Rattle.std.proofs.Common.{arith, ◌^◌, ◌<◌, ◌∙◌, sym}
use Rattle.row_reader.proofs.Room.{digits-more, digits-not, room_step, room_fits, number_from-step}
use Rattle.row_reader.proofs.number.number_from.Goals as goal

pub overflow_mul-n : goal.overflow_mul-n
overflow_mul-n c =
    let r : c.loop-b.n < 10 ^ 8 = room_fits _ c.loop-b.b-index (omega arith) c.loop-b.invariant.room in
    omega arith

pub overflow_add-n : goal.overflow_add-n
overflow_add-n c =
    let r : c.loop-b.n < 10 ^ 8 = room_fits _ c.loop-b.b-index (omega arith) c.loop-b.invariant.room in
    omega arith

pub loop-b-preserved : goal.loop-b-preserved
loop-b-preserved c = record {
  same = rw c.digit.ensures.value (c.loop-b.invariant.same ∙ number_from-step c.loop-b.n c.loop-b.b-index c.args.text.now c.loop-b-test.true);
  digits = digits-more c.args.text.now c.loop-b.b-index c.loop-b-test.true c.loop-b.invariant.digits (sym c.is_digit.ensures ∙ c.if-not-is_digit.false);
  room = room_step c.loop-b.n c.digit.result c.loop-b.b-index c.digit.ensures.small c.loop-b.invariant.room;
}

pub returns-then-not-is_digit : goal.returns-then-not-is_digit
returns-then-not-is_digit c = digits-not c.args.text.now c.loop-b.b-index c.loop-b-test.true (sym c.is_digit.ensures ∙ c.if-not-is_digit.true)
