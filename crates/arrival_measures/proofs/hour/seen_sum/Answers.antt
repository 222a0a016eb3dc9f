use Rattle.std.proofs.Common.{◌≡◌, ◌∙◌, ◌+◌, ◌≤◌, ◌++◌, List, ap, sym, subst, arith}
use Rattle.std.specs.Prelude.{All}
use Rattle.sig_base.specs.declared.values.Row.{Row}
use Rattle.hour_sweep.specs.Rows.{known_rows}
use Rattle.hour_sweep.specs.Hours.{AreOrdered, point}
use Rattle.board.specs.Verdicts.{MayPass}
use Rattle.arrival_measures.specs.Judged.{is_green, is_red}
use Rattle.arrival_measures.specs.Hours.{is_last}
use Rattle.arrival_measures.specs.Steps.{arriving_with, due_of, rows_with}
use Rattle.arrival_measures.proofs.Hours.{arriving_ordered, bar_low, hour_ordered, judged_both, late_from}
use Rattle.arrival_measures.proofs.Travels.{kept_ordered}
use Rattle.arrival_measures.proofs.hour.seen_sum.Goals as goal

pub returns-clause-judged : goal.returns-clause-judged
returns-clause-judged c = λ s at known before rows hour log are see is.
    let a = c.args.approach.now in
    let src = c.args.sources.now in
    let t = point hour in
    let all = before ++ known_rows known rows in
    let place = c.args.spec in
    let or = hour_ordered known hour rows src.stretches.now are.is_hour in
    let few = are.is_hour.are_rows.in_range in
    let end : c.saturating_add-end.result ≡ point (hour + 1) = (let f = are.first in let e = c.saturating_add-end.ensures in omega arith) in
    let arrives = c.deref.ensures.value ∙ is.arriving in
    let ordered = subst (λ (zs : List Row). AreOrdered t (t + 36300) zs) (sym arrives) (arriving_ordered known t before (known_rows known rows) a a.advance are.ordered (kept_ordered (λ x. known x.at) t (t + 36000) t rows (omega arith) or) at.own.travel) in
    let due : c.due_of-due.result.now ≡ due_of (is_last s hour) (point (hour + 1)) (arriving_with known t all a a.advance) =
    c.due_of-due.ensures t (t + 36300) ordered
    ∙ ap (λ b. due_of b c.saturating_add-end.result c.deref.result.now) are.last
    ∙ ap (λ n. due_of (is_last s hour) n c.deref.result.now) end
    ∙ ap (λ zs. due_of (is_last s hour) (point (hour + 1)) zs) arrives in
    let late = subst (λ (zs : List Row). All (λ (x : Row). t ≤ x.at) zs) (sym due) (late_from known t all a (is_last s hour) (point (hour + 1)) a.advance) in
    let bar = c.deref-2.ensures.value ∙ c.in_ok-at_bar.ensures ∙ ap (λ zs. rows_with zs a.stop_bar) are.arrivals in
    let low = subst (λ (zs : List Row). All (λ (x : Row). t ≤ x.at) zs) (sym bar) (bar_low known hour s before rows a.stop_bar or) in
    rw c.sum_of.ensures (judged_both (λ i u v. MayPass log u i v) known s a before rows hour place c.judged_rows-greens.result c.judged_rows-reds.result c.count.result c.count-2.result c.args.given.now.cycles
    c.due_of-due.result.now c.deref-3.result.now c.deref-2.result.now c.deref-4.result.now or at.is_place
    (c.judged_rows-greens.ensures known hour s rows log is_green are.is_hour see c.green.ensures late) due
    c.count.ensures (c.deref-3.ensures.value ∙ c.in_ok-faults.ensures ∙ ap (λ zs. rows_with zs a.advance) are.faults) at.own.advance
    (c.judged_rows-reds.ensures known hour s rows log is_red are.is_hour see c.red.ensures low) bar
    c.count-2.ensures (c.deref-4.ensures.value ∙ c.in_ok-bar_faults.ensures ∙ ap (λ zs. rows_with zs a.stop_bar) are.faults) at.own.stop_bar)
