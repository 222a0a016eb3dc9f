use Rattle.std.proofs.Common.{◌≡◌, ◌∙◌, ◌+◌, ◌≤◌, ◌++◌, List, [], ap, sym, subst, arith}
use Rattle.std.specs.Prelude.{All}
use Rattle.sig_base.specs.declared.values.Row.{Row}
use Rattle.hour_sweep.specs.Hours.{AreOrdered, point}
use Rattle.arrival_measures.specs.Judged.{is_green}
use Rattle.arrival_measures.specs.Hours.{is_last, is_seen}
use Rattle.arrival_measures.specs.Steps.{arriving_with, due_of}
use Rattle.arrival_measures.proofs.Hours.{arriving_ordered, judged_both, late_from, none_red, rows_none, unheld_none, zero_count}
use Rattle.arrival_measures.proofs.hour.unseen_sum.Goals as goal

pub returns-clause-judged : goal.returns-clause-judged
returns-clause-judged c = λ s place at known before hour are un is.
    let a = c.args.approach.now in
    let src = c.args.sources.now in
    let t = point hour in
    let all : List Row = before ++ [] in
    let none : AreOrdered t (t + 36000) [] = omega arith in
    let few = are.is_hour.are_rows.in_range in
    let end : c.saturating_add-end.result ≡ point (hour + 1) = (let f = are.first in let e = c.saturating_add-end.ensures in omega arith) in
    let arrives = c.deref.ensures.value ∙ is.arriving in
    let ordered = subst (λ (zs : List Row). AreOrdered t (t + 36300) zs) (sym arrives) (arriving_ordered known t before [] a a.advance are.ordered none at.own.travel) in
    let due : c.due_of.result.now ≡ due_of (is_last s hour) (point (hour + 1)) (arriving_with known t all a a.advance) =
    c.due_of.ensures t (t + 36300) ordered
    ∙ ap (λ b. due_of b c.saturating_add-end.result c.deref.result.now) are.last
    ∙ ap (λ n. due_of (is_last s hour) n c.deref.result.now) end
    ∙ ap (λ zs. due_of (is_last s hour) (point (hour + 1)) zs) arrives in
    let late = subst (λ (zs : List Row). All (λ (x : Row). t ≤ x.at) zs) (sym due) (late_from known t all a (is_last s hour) (point (hour + 1)) a.advance) in
    rw c.sum_of.ensures (judged_both (λ _ _ _. ⊥) known s a before [] hour place c.unseen_rows-greens.result c.nothing.result 0 0 c.args.given.now.cycles
    c.due_of.result.now [] [] [] none at.is_place
    (c.unseen_rows-greens.ensures is_green (is_seen known hour) (unheld_none known hour c.due_of.result.now un late)) due
    zero_count (rows_none a.advance) at.own.advance
    (none_red known hour place c.nothing.result c.nothing.ensures) (rows_none a.stop_bar)
    zero_count (rows_none a.stop_bar) at.own.stop_bar)
