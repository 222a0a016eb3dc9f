use Rattle.std.proofs.Common.{◌+◌, arith, get_or, subst}
use Rattle.std.proofs.lemmas.List.{get_or_default}
use Rattle.hour_store.specs.Store.{rows_at}
use Rattle.hour_work.specs.Points.{ComesBack}
use Rattle.session.specs.Links.{Ahead}
use Rattle.session.proofs.backward.previous_future.Goals as goal

pub future_again-requires-clause-was : goal.future_again-requires-clause-was
future_again-requires-clause-was g c =
    let s = c.args.store.now in
    let hour = c.args.hour in
    let kept = c.args.told.now.kept.now in
    let room = c.requires.room in
    let lt = c.requires.in_store in
    let d = c.index-told-place.result in
    let over = (c.requires.told (c.changes.ensures c.if-changes.false) d).over in
    subst (λ (v : Ahead). ComesBack c.args.config.now hour (rows_at s hour) s.blanks v (get_or kept hour d)) (get_or_default kept (hour + 1) d c.index-told-place-2.result (omega arith)) over
