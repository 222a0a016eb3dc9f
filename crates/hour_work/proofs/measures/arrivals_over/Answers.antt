use Rattle.std.proofs.Common.{◌∙◌, ap}
use Rattle.signal_log.specs.Points.{rows_or_none}
use Rattle.hour_work.specs.Points.{Carried}
use Rattle.hour_work.proofs.BarLaws.{cycles_told, opens_next}
use Rattle.hour_work.proofs.SeenLaws.{judged_seen, judged_unseen}
use Rattle.hour_work.proofs.measures.arrivals_over.Goals as goal
use Rattle.hour_work.proofs.measures.arrivals_over.Goals.{in-Some+in_ok-sums-in-Some, in-None+in_ok-sums-in-None}

pub returns-clause-judged : goal.returns-clause-judged
returns-clause-judged c = λ s is seen.
    let cfg = c.args.config.now in
    let o = c.args.place.now in
    let same = c.in_ok-carry.ensures ∙ ap (λ (v : Carried). v.arrivals) c.before-2.view_is in
    elim c.match-view.branch [
      | in-Some+in_ok-sums-in-Some w ↦ rw w.sums-is (judged_seen cfg s o c.args.before.now c.args.cut.now is w.in-Some.view.now c.in_ok-carry.carry w.in_ok-sums-in-Some.sums same (rw (c.rows-rows.ensures.value, c.stretches-parts.ensures.value) at w.in_ok-sums-in-Some.ensures.judged) (rw w.in-Some.is at seen))
      | in-None+in_ok-sums-in-None w ↦ rw w.sums-is (judged_unseen cfg s o c.args.before.now c.args.cut.now is c.in_ok-carry.carry w.in_ok-sums-in-None.sums same (rw (c.rows-rows.ensures.value, c.stretches-parts.ensures.value) at w.in_ok-sums-in-None.ensures.judged) (rw w.in-None.is at seen))
    ]

pub returns-clause-cycles : goal.returns-clause-cycles
returns-clause-cycles c = λ s is.
    let cfg = c.args.config.now in
    let o = c.args.place.now in
    let same = c.in_ok-carry.ensures ∙ ap (λ (v : Carried). v.arrivals) c.before-2.view_is in
    let told = cycles_told cfg s o.hour c.args.before.now (rows_or_none o.rows) o.stretches c.args.cut.now is c.in_ok-carry.carry c.match-view.sums same in
    elim c.match-view.branch [
      | in-Some+in_ok-sums-in-Some w ↦ told (rw w.sums-is (rw (c.rows-rows.ensures.value, c.stretches-parts.ensures.value) at w.in_ok-sums-in-Some.ensures.cycles))
      | in-None+in_ok-sums-in-None w ↦ told (rw w.sums-is (rw (c.rows-rows.ensures.value, c.stretches-parts.ensures.value) at w.in_ok-sums-in-None.ensures.cycles))
    ]

pub returns-clause-carry : goal.returns-clause-carry
returns-clause-carry c = λ s is.
    let cfg = c.args.config.now in
    let o = c.args.place.now in
    let same = c.in_ok-carry.ensures ∙ ap (λ (v : Carried). v.arrivals) c.before-2.view_is in
    let next = opens_next cfg s o.hour c.args.before.now (rows_or_none o.rows) o.stretches c.args.cut.now is c.in_ok-carry.carry c.match-view.carry same in
    elim c.match-view.branch [
      | in-Some+in_ok-sums-in-Some w ↦ next (rw w.carry-is (rw (c.rows-rows.ensures.value, c.stretches-parts.ensures.value) at w.in_ok-sums-in-Some.ensures.carry))
      | in-None+in_ok-sums-in-None w ↦ next (rw w.carry-is (rw (c.rows-rows.ensures.value, c.stretches-parts.ensures.value) at w.in_ok-sums-in-None.ensures.carry))
    ]
