use Rattle.hour_store.specs.Store.{is_known, known_rows}
use Rattle.sigaudit.proofs.OffsetFacts.{fit_as, handed_in, in_order}
use Rattle.sigaudit.proofs.offsets.shifts_of.Goals as goal

pub arrivals_of-requires : goal.arrivals_of-requires
arrivals_of-requires g c =
    let s = c.args.session.now.store in
    let fit = c.diagrams_fit.ensures (is_known s) c.args.session.now.config c.args.phase 0 _ (known_rows s) (c.hours_make_up_the_log.ensures.ordered s c.points.ensures.store) in
    in_order c.in_ok-diagrams.diagrams.items c.deref.result.now (fit_as _ c.in_ok-diagrams.diagrams.items fit c.in_ok-diagrams.ensures.points) c.deref.ensures.value

pub shift_counts-requires : goal.shift_counts-requires
shift_counts-requires g c =
    let s = c.args.session.now.store in
    let fit = c.diagrams_fit.ensures (is_known s) c.args.session.now.config c.args.phase 0 _ (known_rows s) (c.hours_make_up_the_log.ensures.ordered s c.points.ensures.store) in
    handed_in c.args.place c.in_ok-diagrams.diagrams.items c.deref.result.now c.in_ok-arrivals.arrivals.items c.deref-2.result.now (fit_as _ c.in_ok-diagrams.diagrams.items fit c.in_ok-diagrams.ensures.points) c.deref.ensures.value
    c.in_ok-arrivals.ensures c.deref-2.ensures.value
