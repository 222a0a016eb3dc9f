use Rattle.std.proofs.Common.{◌∙◌, [], ap, length, sym}
use Rattle.std.specs.Prelude.{filter_map}
use Rattle.hour_sweep.specs.Numbers.{Tracking}
use Rattle.arrival_measures.specs.declared.faults.Flag.{Flag}
use Rattle.arrival_measures.specs.declared.faults.Detection.{Detection}
use Rattle.arrival_measures.specs.Crossing.{all_flags}
use Rattle.arrival_measures.specs.Steps.{arrival_in, fault_in}
use Rattle.arrival_measures.proofs.Detecting.{detected, detections_are, flags_go_on}
use Rattle.arrival_measures.proofs.Quiet.{quiet_passes}
use Rattle.arrival_measures.proofs.faults.detect.Goals as goal

pub returns-then-is_quiet-clause-found : goal.returns-then-is_quiet-clause-found
returns-then-is_quiet-clause-found c = λ known s before hour h low at.
    let flags = c.args.flags.now in
    let rows = c.args.rows.now in
    let stretches = c.args.stretches.now in
    let end : Tracking Flag Detection = record { parts = flags; outs = [] } in
    let same = quiet_passes flags rows stretches (sym c.is_quiet.ensures ∙ c.if-is_quiet.true) in
    let is = detected known s before hour rows stretches flags end (sym same) h low at in
    detections_are known s (length flags) before hour rows [] flags _ is c.new.ensures.items c.new-then-is_quiet.ensures.items

pub returns-then-is_quiet-clause-flags : goal.returns-then-is_quiet-clause-flags
returns-then-is_quiet-clause-flags c =
    let flags = c.args.flags.now in
    let end : Tracking Flag Detection = record { parts = flags; outs = [] } in
    flags_go_on c.args.rows.now c.args.stretches.now flags end (sym (quiet_passes flags c.args.rows.now c.args.stretches.now (sym c.is_quiet.ensures ∙ c.if-is_quiet.true)))

pub returns-clause-found : goal.returns-clause-found
returns-clause-found c = λ known s before hour h low at.
    let end = c.in_ok-tracked.tracked in
    let is = detected known s before hour c.args.rows.now c.args.stretches.now c.args.flags.now end c.in_ok-tracked.ensures h low at in
    detections_are known s (length c.args.flags.now) before hour c.args.rows.now end.outs end.parts _ is
    (c.in_ok-arrivals.ensures.arrivals ∙ ap (λ zs. filter_map arrival_in zs) (c.deref.ensures.value ∙ c.into_parts-flags.ensures.outs))
    (c.in_ok-arrivals.ensures.faults ∙ ap (λ zs. filter_map fault_in zs) (c.deref.ensures.value ∙ c.into_parts-flags.ensures.outs))

pub returns-clause-flags : goal.returns-clause-flags
returns-clause-flags c = λ known s before hour h low at.
    ap (λ zs. all_flags zs) c.into_parts-flags.ensures.parts
    ∙ flags_go_on c.args.rows.now c.args.stretches.now c.args.flags.now c.in_ok-tracked.tracked c.in_ok-tracked.ensures known s before hour h low at
