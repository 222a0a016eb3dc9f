use Rattle.std.proofs.Common.{◌∙◌, ap}
use Rattle.signal_log.specs.Points.{rows_or_none}
use Rattle.other_measures.specs.Crossing.{IsCarry as IsCrossing}
use Rattle.hour_work.specs.Points.{Carried}
use Rattle.hour_work.proofs.MeasureLaws.{over_hour}
use Rattle.hour_work.proofs.SeenLaws.{numbers_told, seen_states, unseen_states}
use Rattle.hour_work.proofs.measures.others_over.Goals as goal
use Rattle.hour_work.proofs.measures.others_over.Goals.{in-Some+in_ok-sums-in-Some, in-None+in_ok-sums-in-None}

pub returns-clause-numbers : goal.returns-clause-numbers
returns-clause-numbers c = λ s has is.
    let told = numbers_told c.args.config.now s c.args.place.now c.in_ok-carry.carry c.args.before.now.others c.match-view.sums (c.in_ok-carry.ensures ∙ ap (λ (v : Carried). v.others) c.before-2.view_is) c.stretches-parts.ensures.opened has in
    elim c.match-view.branch [
      | in-Some+in_ok-sums-in-Some w ↦ told (rw w.sums-is (rw (c.rows-rows.ensures.value, c.stretches-parts.ensures.value) at w.in_ok-sums-in-Some.ensures.numbers)) is.others
      | in-None+in_ok-sums-in-None w ↦ told (rw w.sums-is (rw (c.rows-rows.ensures.value, c.stretches-parts.ensures.value) at w.in_ok-sums-in-None.ensures.numbers)) is.others
    ]

pub returns-clause-states : goal.returns-clause-states
returns-clause-states c = λ s seen.
    let cfg = c.args.config.now in
    let o = c.args.place.now in
    elim c.match-view.branch [
      | in-Some+in_ok-sums-in-Some w ↦ rw w.sums-is (seen_states cfg s o.hour c.args.before.now (rows_or_none o.rows) o.stretches w.in-Some.view.now (rw w.in-Some.is at seen) w.in_ok-sums-in-Some.sums (rw (c.rows-rows.ensures.value, c.stretches-parts.ensures.value) at w.in_ok-sums-in-Some.ensures.states))
      | in-None+in_ok-sums-in-None w ↦ rw w.sums-is (unseen_states cfg s o.hour w.in_ok-sums-in-None.sums (rw w.in-None.is at seen) w.in_ok-sums-in-None.ensures.states)
    ]

pub returns-clause-carry : goal.returns-clause-carry
returns-clause-carry c = λ s has is.
    let cfg = c.args.config.now in
    let o = c.args.place.now in
    let opened = c.stretches-parts.ensures.opened in
    let same = c.in_ok-carry.ensures ∙ ap (λ (v : Carried). v.others) c.before-2.view_is in
    let next = over_hour (λ known before k v. IsCrossing known cfg before k v) s o.hour o.rows o.blanks o.stretches c.in_ok-carry.carry c.args.before.now.others c.match-view.carry same has opened.are_rows opened.cut in
    elim c.match-view.branch [
      | in-Some+in_ok-sums-in-Some w ↦ next (rw w.carry-is (rw (c.rows-rows.ensures.value, c.stretches-parts.ensures.value) at w.in_ok-sums-in-Some.ensures.carry)) is.others
      | in-None+in_ok-sums-in-None w ↦ next (rw w.carry-is (rw (c.rows-rows.ensures.value, c.stretches-parts.ensures.value) at w.in_ok-sums-in-None.ensures.carry)) is.others
    ]
