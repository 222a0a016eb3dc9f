use Rattle.std.proofs.Common.{rules}
use Rattle.std.specs.Prelude.{option_copied}
use Rattle.session.proofs.KeptLaws.{has_hour}
use Rattle.session.proofs.OpenLaws.{opened_raised, row_of}
use Rattle.session.proofs.StepLaws.{lead_on, some_to}
use Rattle.session.proofs.steps.carry_after.Goals as goal

pub returns-in_err-place-clause-once : goal.returns-in_err-place-clause-once
returns-in_err-place-clause-once g c = opened_raised _ _ c.args.hour c.open_hour-rows.ensures.raised

pub returns-in_err-reached-clause-once : goal.returns-in_err-reached-clause-once
returns-in_err-reached-clause-once g c = opened_raised _ _ c.args.hour c.open_hour-rows.ensures.raised

pub returns-in_err-carry-clause-once : goal.returns-in_err-carry-clause-once
returns-in_err-carry-clause-once g c = opened_raised _ _ c.args.hour c.open_hour-rows.ensures.raised

pub returns-clause-once : goal.returns-clause-once
returns-clause-once g c = opened_raised _ _ c.args.hour c.open_hour-rows.ensures.raised

pub reached_over-requires-clause-shape : goal.reached_over-requires-clause-shape
reached_over-requires-clause-shape g c = rw c.pasts.ensures c.requires.before.pasts.shape

pub reached_over-requires-clause-early : goal.reached_over-requires-clause-early
reached_over-requires-clause-early g c =
    let (at, held, blanked) = c.in_ok-place.ensures in
    rw (c.pasts.ensures, at) c.requires.before.pasts.early

pub reached_over-requires-clause-was_shape : goal.reached_over-requires-clause-was_shape
reached_over-requires-clause-was_shape g c = some_to c.args.was _ _ (λ w p. p.shape) c.requires.was

pub reached_over-requires-clause-was : goal.reached_over-requires-clause-was
reached_over-requires-clause-was g c =
    let (at, held, blanked) = c.in_ok-place.ensures in
    rw (at, held, blanked, c.open_hour-rows.ensures.rows, c.blanked.ensures.value) (some_to c.args.was _ _ (λ w p. p.over) c.requires.was)

pub returns-in_err-reached-clause-stop : goal.returns-in_err-reached-clause-stop
returns-in_err-reached-clause-stop g c =
    let (at, held, blanked) = c.in_ok-place.ensures in
    let s = c.args.store.now in
    let has = has_hour s c.args.hour (option_copied c.open_hour-rows.result) c.blanked.result.now c.blanked.ensures.store c.requires.in_store c.open_hour-rows.ensures.rows c.blanked.ensures.value in
    let stop = rw (c.pasts.ensures, at, held, blanked) at c.in_err-reached.ensures.stop in
    let named = stop s has c.requires.before.pasts in
    search (rules, named)

pub returns-in_err-reached-clause-row : goal.returns-in_err-reached-clause-row
returns-in_err-reached-clause-row g c =
    let (at, held, blanked) = c.in_ok-place.ensures in
    let row = rw (at, held, blanked) at c.in_err-reached.ensures.row in
    let named = row_of c.args.config.now.specs c.args.hour (option_copied c.open_hour-rows.result) c.blanked.result.now c.pasts.result.now _ row in
    search (rules, named)

pub carry_over-requires-clause-before : goal.carry_over-requires-clause-before
carry_over-requires-clause-before g c = c.requires.before.pasts.shape

pub carry_over-requires-clause-over : goal.carry_over-requires-clause-over
carry_over-requires-clause-over g c = rw c.pasts.ensures at c.in_ok-reached.ensures.over

pub carry_over-requires-clause-shape : goal.carry_over-requires-clause-shape
carry_over-requires-clause-shape g c = c.in_ok-reached.ensures.shape.0

pub returns-clause-leads : goal.returns-clause-leads
returns-clause-leads g c =
    let (at, held, blanked) = c.in_ok-place.ensures in
    let over = rw (c.pasts.ensures, at, held, blanked) at c.in_ok-reached.ensures.over in
    lead_on c.args.config.now c.args.hour (option_copied c.open_hour-rows.result) _ c.blanked.result.now _ c.args.before.now c.in_ok-reached.reached.pasts c.in_ok-carry.carry c.open_hour-rows.ensures.rows c.blanked.ensures.value over c.in_ok-carry.ensures.pasts
    (rw at at c.in_ok-carry.ensures.fit) (rw (at, held, blanked) at c.in_ok-carry.ensures.carry)

pub returns-clause-courses : goal.returns-clause-courses
returns-clause-courses g c =
    let (at, held, blanked) = c.in_ok-place.ensures in
    rw (at, held, blanked, c.open_hour-rows.ensures.rows, c.blanked.ensures.value) at c.in_ok-reached.ensures.courses

pub carry_over-requires-clause-courses : goal.carry_over-requires-clause-courses
carry_over-requires-clause-courses g c = rw c.as_ref.ensures.value c.in_ok-reached.ensures.courses
