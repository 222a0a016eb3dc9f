use Rattle.std.proofs.Common.{◌∙◌, ◌+◌, ◌<◌, ◌++◌, ap, subst, map, length, arith}
use Rattle.hour_sweep.specs.Rows.{known_rows}
use Rattle.hour_sweep.specs.Hours.{point}
use Rattle.ring_config.specs.declared.items.Approach.{Approach}
use Rattle.arrival_measures.specs.Crossing.{crossing_of}
use Rattle.arrival_measures.specs.Hours.{HasJudged, cycle_numbers, cycle_part}
use Rattle.arrival_measures.specs.Results.{may_by}
use Rattle.arrival_measures.proofs.Each.{each_none, each_more, mapped_more, mapped_all, listed_more, listed_all}
use Rattle.arrival_measures.proofs.Starts.{no_approach}
use Rattle.arrival_measures.proofs.Hours.{crossing_is}
use Rattle.arrival_measures.proofs.hour.hour_numbers.Goals as goal

pub loop-place-init : goal.loop-place-init
loop-place-init c = record {
  judged = λ known before rows hour log g by. each_none (HasJudged (may_by log) known c.args.config.now before (known_rows known rows) hour) c.args.config.now.approaches c.new-sums.result.items c.new-sums.ensures.items;
  cycles = λ known before rows hour g. ap (λ zs. map cycle_part zs) c.new-sums.ensures.items;
  after = λ known before rows hour g. c.new-after.ensures.items;
}

pub loop-place-preserved : goal.loop-place-preserved
loop-place-preserved c =
    let config = c.args.config.now in
    let place = c.loop-place.place in
    let lt : place < length config.approaches = omega arith in
    let a = c.approach_of-approach.result.now in
    let at = c.approach_of-approach.ensures.approach no_approach in
    let sum = c.in_ok-approach_sum.field-0 in
    record {
      judged = λ known before rows hour log g by.
          let cross = crossing_is known config before hour c.args.crossings.now place c.none-none.result c.crossing_at-crossing.result.now a no_approach g.crossings_are lt c.crossing_at-crossing.ensures at in
          let given = c.in_ok-given.ensures known config before rows hour g.sources g.cut c.approach_of-approach.ensures.own cross in
          let Has = (HasJudged (may_by log) known config before (known_rows known rows) hour) in
          each_more Has config.approaches place c.loop-place.sums.items c.push.new.self.items sum (c.loop-place.invariant.judged known before rows hour log g by)
          (λ d. subst (λ (z : Approach). Has z sum) (c.approach_of-approach.ensures.approach d) (c.in_ok-approach_sum.ensures.judged known before rows hour log g.sources by given)) c.in_ok-push.ensures.items;
      cycles = λ known before rows hour g.
          let cross = crossing_is known config before hour c.args.crossings.now place c.none-none.result c.crossing_at-crossing.result.now a no_approach g.crossings_are lt c.crossing_at-crossing.ensures at in
          let given = c.in_ok-given.ensures known config before rows hour g.sources g.cut c.approach_of-approach.ensures.own cross in
          let N = λ (b : Approach). cycle_numbers known config before (known_rows known rows) b b.advance in
          mapped_more cycle_part N config.approaches place no_approach c.loop-place.sums.items c.push.new.self.items sum lt (c.loop-place.invariant.cycles known before rows hour g)
          (c.in_ok-approach_sum.ensures.cycles ∙ given.cycles ∙ ap N at) c.in_ok-push.ensures.items;
      after = λ known before rows hour g.
          let cross = crossing_is known config before hour c.args.crossings.now place c.none-none.result c.crossing_at-crossing.result.now a no_approach g.crossings_are lt c.crossing_at-crossing.ensures at in
          let given = c.in_ok-given.ensures known config before rows hour g.sources g.cut c.approach_of-approach.ensures.own cross in
          let F = crossing_of known (point (hour + 1)) (before ++ known_rows known rows) in
          listed_more F config.approaches place no_approach c.loop-place.after.items c.push-in-loop-place.new.self.items c.in_ok-given.given.crossing lt (c.loop-place.invariant.after known before rows hour g)
          (given.crossing ∙ ap F at) c.in_ok-push-2.ensures.items;
    }

pub returns-clause-judged : goal.returns-clause-judged
returns-clause-judged c = λ known before rows hour log g by.
    let h = (c.loop-place.invariant.judged known before rows hour log g by) in
    record { size = h.size ∙ omega arith; each = λ i a s lt. h.each i a s (omega arith) }

pub returns-clause-cycles : goal.returns-clause-cycles
returns-clause-cycles c = λ known before rows hour g. mapped_all cycle_part (λ b. cycle_numbers known c.args.config.now before (known_rows known rows) b b.advance) c.args.config.now.approaches c.loop-place.place c.loop-place.sums.items (omega arith) (c.loop-place.invariant.cycles known before rows hour g)

pub returns-clause-crossings : goal.returns-clause-crossings
returns-clause-crossings c = λ known before rows hour g. listed_all (crossing_of known (point (hour + 1)) (before ++ known_rows known rows)) c.args.config.now.approaches c.loop-place.place c.loop-place.after.items (omega arith) (c.loop-place.invariant.after known before rows hour g)
