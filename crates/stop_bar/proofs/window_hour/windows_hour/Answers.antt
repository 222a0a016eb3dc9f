use Rattle.std.proofs.Common.{◌+◌, ℕ, ap, ◌∙◌, arith}
use Rattle.board.specs.Logs.{end_tenth, first_tenth}
use Rattle.stop_bar.specs.Windows.{left}
use Rattle.stop_bar.proofs.Waiting.{waiting_ends}
use Rattle.stop_bar.proofs.window_hour.windows_hour.Goals as goal

pub returns-clause-next : goal.returns-clause-next
returns-clause-next c = λ (end, fit).
    let hour = c.args.hour in
    waiting_ends (first_tenth hour) (end_tenth hour) (first_tenth (hour + 1)) (end_tenth (hour + 1)) c.args.begun c.args.services.now c.place_all.new.waiting.items (omega arith) (omega arith) fit (c.in_ok-place_all.ensures.waiting ∙ ap (λ (e : ℕ). left e c.args.services.now) c.bounds_of-tenths.ensures.end)
