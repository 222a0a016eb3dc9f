use Rattle.std.proofs.Common.{◌∙◌, ap, sym, take, get_or}
use Rattle.std.proofs.lemmas.List.{take_all}
use Rattle.hour_sweep.specs.Sums.{own}
use Rattle.service_cut.specs.declared.items.Cycle.{Cycle}
use Rattle.arrival_measures.specs.Cycles.{numbers_of}
use Rattle.arrival_measures.specs.Steps.{numbers_in}
use Rattle.arrival_measures.proofs.Starts.{no_numbers}
use Rattle.arrival_measures.proofs.Numbers.{no_cycle_item, numbers_next, own_on, own_off}
use Rattle.arrival_measures.proofs.cycles.cycle_sum.Goals as goal
use Rattle.arrival_measures.proofs.cycles.cycle_sum.Goals.{then-cycle-phase, else-cycle-phase}

pub loop-cycle-init : goal.loop-cycle-init
loop-cycle-init c = λ known before told end are same. ap (λ z. numbers_in z) c.no_cycles-sum.ensures ∙ no_numbers c.args.phase c.args.detector told

pub loop-cycle-preserved : goal.loop-cycle-preserved
loop-cycle-preserved c = λ known before told end are same.
    let p = c.args.phase in
    let d = c.args.detector in
    let cycles = c.args.cycles.now in
    let i = c.loop-cycle.cycle-index in
    let lt = c.loop-cycle-test.true in
    let old = c.loop-cycle.invariant known before told end are same in
    elim c.if-cycle-phase.branch [
      | then-cycle-phase w ↦
          numbers_next p d told (own (λ (z : Cycle). z.phase) p (take i cycles)) (get_or cycles i no_cycle_item) c.loop-cycle.sum c.if-cycle-phase.sum w.cycle_given-given.result old (w.cycle_given-given.ensures known before end (are i no_cycle_item lt w.if-cycle-phase.true) ∙ same i no_cycle_item lt w.if-cycle-phase.true) (w.sum-is ∙ w.with-sum.ensures)
          ∙ ap (λ cs. numbers_of p d told cs) (sym (own_on p cycles i no_cycle_item lt w.if-cycle-phase.true))
      | else-cycle-phase w ↦ ap (λ z. numbers_in z) w.sum-is ∙ old ∙ ap (λ cs. numbers_of p d told cs) (sym (own_off p cycles i no_cycle_item lt w.if-cycle-phase.false))
    ]

pub returns : goal.returns
returns c = λ known before told end are same. c.loop-cycle.invariant known before told end are same ∙ ap (λ cs. numbers_of c.args.phase c.args.detector told (own (λ (z : Cycle). z.phase) c.args.phase cs)) (take_all c.loop-cycle.cycle-index c.args.cycles.now c.loop-cycle-test.false)
