use Rattle.std.specs.Prelude.{option_copied}
use Rattle.session.proofs.KeptLaws.{has_hour}
use Rattle.session.proofs.OpenLaws.{opened_raised, row_of}
use Rattle.session.proofs.StepLaws.{err_to, ok_both, ok_to, some_to, states_of}
use Rattle.session.proofs.steps.states_after.Goals as goal

pub returns-in_err-place-clause-once : goal.returns-in_err-place-clause-once
returns-in_err-place-clause-once g c = opened_raised _ _ c.args.hour c.open_hour-rows.ensures.raised

pub returns-clause-once : goal.returns-clause-once
returns-clause-once g c = opened_raised _ _ c.args.hour c.open_hour-rows.ensures.raised

pub reached_over-requires-clause-shape : goal.reached_over-requires-clause-shape
reached_over-requires-clause-shape g c = c.requires.before.shape

pub reached_over-requires-clause-was_shape : goal.reached_over-requires-clause-was_shape
reached_over-requires-clause-was_shape g c = some_to c.args.was _ _ (λ w p. p.shape) c.requires.was

pub reached_over-requires-clause-was : goal.reached_over-requires-clause-was
reached_over-requires-clause-was g c =
    let (at, held, blanked) = c.in_ok-place.ensures in
    rw (at, held, blanked, c.open_hour-rows.ensures.rows, c.blanked.ensures.value) (some_to c.args.was _ _ (λ w p. p.over) c.requires.was)

pub returns-clause-leads : goal.returns-clause-leads
returns-clause-leads g c =
    let (at, held, blanked) = c.in_ok-place.ensures in
    let shape = rw at at c.reached_over.ensures.shape in
    let over = rw (at, held, blanked) at c.reached_over.ensures.over in
    ok_both c.reached_over.result _ _ _ (λ x p q. states_of c.args.config.now c.args.store.now c.args.hour (option_copied c.open_hour-rows.result) c.blanked.result.now c.args.before.now x.pasts c.open_hour-rows.ensures.rows c.blanked.ensures.value p.0 p.1 q) shape over

pub returns-clause-pasts : goal.returns-clause-pasts
returns-clause-pasts g c =
    let (at, held, blanked) = c.in_ok-place.ensures in
    let s = c.args.store.now in
    let has = has_hour s c.args.hour (option_copied c.open_hour-rows.result) c.blanked.result.now c.blanked.ensures.store c.requires.in_store c.open_hour-rows.ensures.rows c.blanked.ensures.value in
    let pasts = rw (at, held, blanked) at c.reached_over.ensures.pasts in
    ok_to c.reached_over.result _ _ (λ x p. p s has c.requires.before) pasts

pub returns-clause-courses : goal.returns-clause-courses
returns-clause-courses g c =
    let (at, held, blanked) = c.in_ok-place.ensures in
    rw (at, held, blanked, c.open_hour-rows.ensures.rows, c.blanked.ensures.value) at c.reached_over.ensures.courses

pub returns-clause-stop : goal.returns-clause-stop
returns-clause-stop g c =
    let (at, held, blanked) = c.in_ok-place.ensures in
    let s = c.args.store.now in
    let has = has_hour s c.args.hour (option_copied c.open_hour-rows.result) c.blanked.result.now c.blanked.ensures.store c.requires.in_store c.open_hour-rows.ensures.rows c.blanked.ensures.value in
    let stop = rw (at, held, blanked) at c.reached_over.ensures.stop in
    err_to c.reached_over.result _ _ (λ e p. p s has c.requires.before) stop

pub returns-clause-row : goal.returns-clause-row
returns-clause-row g c =
    let (at, held, blanked) = c.in_ok-place.ensures in
    let row = rw (at, held, blanked) at c.reached_over.ensures.row in
    err_to c.reached_over.result _ _ (λ e p. row_of c.args.config.now.specs c.args.hour (option_copied c.open_hour-rows.result) c.blanked.result.now c.args.before.now e p) row
