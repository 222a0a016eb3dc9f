use Rattle.std.proofs.Common.{List, Option, subst}
use Rattle.std.specs.Prelude.{◌+◌, IfOk, option_copied}
use Rattle.sig_base.specs.declared.values.Row.{Row}
use Rattle.span_set.specs.declared.set.Span.{Span}
use Rattle.signal_log.specs.Log.{log_of}
use Rattle.signal_log.proofs.Suiting.{all_count}
use Rattle.session.specs.Links.{Counts}
use Rattle.session.proofs.KeptLaws.{has_hour}
use Rattle.session.proofs.OpenLaws.{opened_raised}
use Rattle.session.proofs.StepLaws.{leads_of}
use Rattle.session.proofs.steps.work_between.Goals as goal

pub returns-in_err-place-clause-once : goal.returns-in_err-place-clause-once
returns-in_err-place-clause-once g c = opened_raised _ _ c.args.step.hour c.open_hour-rows.ensures.raised

pub returns-clause-once : goal.returns-clause-once
returns-clause-once g c = opened_raised _ _ c.args.step.hour c.open_hour-rows.ensures.raised

pub work_over-requires-clause-over : goal.work_over-requires-clause-over
work_over-requires-clause-over g c =
    let (at, held, blanked) = c.in_ok-place.ensures in
    rw (at, held, blanked, c.open_hour-rows.ensures.rows, c.blanked.ensures.value) c.requires.states.over

pub work_over-requires-clause-courses : goal.work_over-requires-clause-courses
work_over-requires-clause-courses g c =
    let (at, held, blanked) = c.in_ok-place.ensures in
    rw (at, held, blanked, c.open_hour-rows.ensures.rows, c.blanked.ensures.value) c.requires.courses

pub work_over-requires-clause-agrees : goal.work_over-requires-clause-agrees
work_over-requires-clause-agrees g c =
    let (at, held, blanked) = c.in_ok-place.ensures in
    let s = c.args.store.now in
    let has = has_hour s c.args.step.hour (option_copied c.open_hour-rows.result) c.blanked.result.now c.blanked.ensures.store c.requires.in_store c.open_hour-rows.ensures.rows c.blanked.ensures.value in
    let after = all_count (log_of c.args.config.now.specs s) (c.args.step.hour + 1) c.args.between.now.after.now c.requires.after in
    rw (at, held, blanked) (s, record { has_hour = has; is_before = c.requires.before; is_after = after; history = c.requires.history })

pub returns-clause-leads : goal.returns-clause-leads
returns-clause-leads g c =
    let (at, held, blanked) = c.in_ok-place.ensures in
    let over = rw (← c.open_hour-rows.ensures.rows, ← c.blanked.ensures.value) at c.requires.states.over in
    leads_of c.args.config.now c.args.step.hour (option_copied c.open_hour-rows.result) _ c.blanked.result.now _ c.args.between.now.before.now c.args.step.known.pasts c.work_over.result c.open_hour-rows.ensures.rows c.blanked.ensures.value over c.work_over.ensures.pasts
    (rw at at c.work_over.ensures.fit) (rw (at, held, blanked) at c.work_over.ensures.carry)

pub returns-clause-counts : goal.returns-clause-counts
returns-clause-counts g c =
    let (at, held, blanked) = c.in_ok-place.ensures in
    let cfg = c.args.config.now in
    let x = c.args.between.now.before.now in
    let y = c.args.between.now.after.now in
    let hour = c.args.step.hour in
    subst (λ (o : Option (List Row)). IfOk c.work_over.result (λ w. Counts cfg hour o c.args.store.now.blanks x y w.part)) c.open_hour-rows.ensures.rows
    (subst (λ (bs : List Span). IfOk c.work_over.result (λ w. Counts cfg hour (option_copied c.open_hour-rows.result) bs x y w.part)) c.blanked.ensures.value (rw (at, held, blanked) at c.work_over.ensures.value))
