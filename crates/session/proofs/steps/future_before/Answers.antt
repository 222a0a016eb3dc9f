use Rattle.std.specs.Prelude.{option_copied}
use Rattle.session.proofs.OpenLaws.{opened_raised}
use Rattle.session.proofs.StepLaws.{backs_of}
use Rattle.session.proofs.steps.future_before.Goals as goal

pub returns-in_err-place-clause-once : goal.returns-in_err-place-clause-once
returns-in_err-place-clause-once g c = opened_raised _ _ c.args.hour c.open_hour-rows.ensures.raised

pub returns-in-Some-clause-once : goal.returns-in-Some-clause-once
returns-in-Some-clause-once g c = opened_raised _ _ c.args.hour c.open_hour-rows.ensures.raised

pub returns-in-Some-clause-backs : goal.returns-in-Some-clause-backs
returns-in-Some-clause-backs g c =
    let (at, held, blanked) = c.in_ok-place.ensures in
    backs_of c.args.config.now c.args.hour (option_copied c.open_hour-rows.result) _ c.blanked.result.now _ c.args.after.now c.backward_through.result c.open_hour-rows.ensures.rows c.blanked.ensures.value c.requires.after.shape c.backward_through.ensures.fit (rw (at, held, blanked) at c.backward_through.ensures.future) (rw (at, held, blanked) at c.backward_through.ensures.over)

pub backward_through-requires-clause-courses : goal.backward_through-requires-clause-courses
backward_through-requires-clause-courses g c =
    let (at, held, blanked) = c.in_ok-place.ensures in
    let gone = rw c.in-Some.is at c.requires.gone in
    rw (at, held, blanked, c.open_hour-rows.ensures.rows, c.blanked.ensures.value) gone.cut

pub backward_through-requires-clause-shape_before : goal.backward_through-requires-clause-shape_before
backward_through-requires-clause-shape_before g c =
    let gone = rw c.in-Some.is at c.requires.gone in
    gone.begun.shape

pub backward_through-requires-clause-early : goal.backward_through-requires-clause-early
backward_through-requires-clause-early g c =
    let (at, held, blanked) = c.in_ok-place.ensures in
    let gone = rw c.in-Some.is at c.requires.gone in
    rw at gone.begun.early

pub backward_through-requires-clause-reached : goal.backward_through-requires-clause-reached
backward_through-requires-clause-reached g c =
    let gone = rw c.in-Some.is at c.requires.gone in
    gone.leads.shape

pub backward_through-requires-clause-states : goal.backward_through-requires-clause-states
backward_through-requires-clause-states g c =
    let (at, held, blanked) = c.in_ok-place.ensures in
    let gone = rw c.in-Some.is at c.requires.gone in
    rw (at, held, blanked, c.open_hour-rows.ensures.rows, c.blanked.ensures.value) gone.leads.over

pub returns-clause-once : goal.returns-clause-once
returns-clause-once g c = opened_raised _ _ c.args.hour c.open_hour-rows.ensures.raised

pub returns-clause-backs : goal.returns-clause-backs
returns-clause-backs g c =
    let (at, held, blanked) = c.in_ok-place.ensures in
    backs_of c.args.config.now c.args.hour (option_copied c.open_hour-rows.result) _ c.blanked.result.now _ c.args.after.now c.backward_over.result c.open_hour-rows.ensures.rows c.blanked.ensures.value c.requires.after.shape c.backward_over.ensures.fit (rw (at, held, blanked) at c.backward_over.ensures.future) (rw (at, held, blanked) at c.backward_over.ensures.over)
