use Rattle.std.proofs.Common.{arith}
use Rattle.stop_bar.proofs.Waiting.{red_over}
use Rattle.stop_bar.proofs.window_hour.end_pending.Goals as goal

pub returns-clause-numbers : goal.returns-clause-numbers
returns-clause-numbers c = λ log i tells (low, high) w.
    let sum = c.saturating_add.ensures in
    let fits = c.requires in
    let red = c.on.ensures log i c.args.hour.first c.args.hour.end c.args.pending.now.service.r tells (omega arith, omega arith, omega arith) w.red in
    record { green = w.green; red = red_over log i c.args.hour.end c.args.pending.now.service.r c.saturating_add.result _ high (omega arith) sum red }
