use Rattle.std.proofs.Common.{arith}
use Rattle.stop_bar.proofs.Waiting.{green_on, green_over}
use Rattle.stop_bar.proofs.window_hour.green_on.Goals as goal

pub returns-then-b-hour : goal.returns-then-b-hour
returns-then-b-hour c = λ log i (tells, begun) (le, high, was). c.on.ensures log i c.args.hour.first c.args.hour.end c.args.b tells (c.if-b-hour.true, le, high) (c.none.ensures log i c.args.b)

pub returns-then-g-hour : goal.returns-then-g-hour
returns-then-g-hour c = λ log i (tells, begun) (le, high, was).
    let lt = c.if-g-hour.true in
    c.on-then-g-hour.ensures log i c.args.hour.first c.args.hour.end c.args.b tells (omega arith, omega arith, high) (green_on log i c.args.hour.first c.args.b c.args.g c.in-Some.green (rw c.in-Some.is at (was c.if-b-hour.false)) lt (rw c.in-Some.is at begun))

pub returns-else-g-hour : goal.returns-else-g-hour
returns-else-g-hour c = λ log i (tells, begun) (le, high, was). green_over log i c.args.hour.first c.args.b c.args.g c.in-Some.green (rw c.in-Some.is at (was c.if-b-hour.false)) c.if-g-hour.false (rw c.in-Some.is at begun)
