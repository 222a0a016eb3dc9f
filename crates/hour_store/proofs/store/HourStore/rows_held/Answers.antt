use Rattle.hour_store.proofs.StoreLaws.{few_rows}
use Rattle.hour_store.proofs.store.HourStore.rows_held.Goals as goal

pub returns-clause-few : goal.returns-clause-few
returns-clause-few g c =
    let p = c.self.invariant.0 in
    rw c.self.invariant.1 (few_rows c.self.inside.hours.items p.few p.in_place)
