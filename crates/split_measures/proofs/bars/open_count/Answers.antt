use Rattle.std.proofs.Common.{◌≤◌, ◌+◌, ◌∙◌, List, ap, sym, arith, length}
use Rattle.std.proofs.lemmas.Bool.{le-leb}
use Rattle.stop_bar.specs.declared.windows.Windows.{Windows}
use Rattle.stop_bar.specs.Crossing.{Crossing}
use Rattle.stop_bar.proofs.Places.{held}
use Rattle.split_measures.proofs.Opening.{each_service}
use Rattle.split_measures.proofs.bars.open_count.Goals as goal

pub returns-then-hours-hour : goal.returns-then-hours-hour
returns-then-hours-hour c = λ x e.
    let same = held c.args.at c.in-Some.at x c.in-Some.is e in
    let hours = c.hours.ensures.value in
    let test = c.if-hours-hour.true in
    let last : c.args.config.now.window.hours ≤ c.args.hour + 1 = omega arith in
    rw (le-leb c.args.config.now.window.hours (c.args.hour + 1) last) (each_service x.pending ∙ ap (λ (ws : List Windows). length ws) (sym (c.pending.ensures ∙ ap (λ (z : Crossing). z.pending) same)))
