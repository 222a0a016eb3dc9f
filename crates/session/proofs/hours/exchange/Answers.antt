use Rattle.std.proofs.Common.{None, Some}
use Rattle.session.proofs.EditLaws.{hour_back}
use Rattle.session.proofs.hours.exchange.Goals as goal

pub returns-in-Hour-default-Some-clause-back : goal.returns-in-Hour-default-Some-clause-back
returns-in-Hour-default-Some-clause-back g c =
    let here = c.in-Hour-default-Some in
    let placed = rw (here.is, here.field-1-is) at c.requires in
    rw (c.put.ensures.store, c.put.ensures.before, ← placed.1) (hour_back c.args.store.now here.rows.hour (Some here.rows))

pub returns-in-Hour-default-None-clause-back : goal.returns-in-Hour-default-None-clause-back
returns-in-Hour-default-None-clause-back g c = rw (c.take.ensures.store, c.take.ensures.before) (hour_back c.args.store.now c.in-Hour-default-None.hour None)
