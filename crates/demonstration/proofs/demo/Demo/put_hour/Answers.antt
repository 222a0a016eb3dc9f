use Rattle.std.proofs.Common.{arith}
use Rattle.demonstration.specs.Texts.{hour_text}
use Rattle.demonstration.proofs.HourFacts.{demo-climbs, hour-within}
use Rattle.demonstration.proofs.TextFacts.{two}
use Rattle.demonstration.proofs.demo.Demo.put_hour.Goals as goal

pub rows_of_hour-requires-clause-rise : goal.rows_of_hour-requires-clause-rise
rows_of_hour-requires-clause-rise c = rw (c.deref.ensures.value, c.self.invariant.all) (demo-climbs c.self.inside.hours)

pub put_records-requires-clause-at : goal.put_records-requires-clause-at
put_records-requires-clause-at c = rw c.rows_of_hour.ensures (hour-within c.args.hour c.deref.result.now (omega arith))

pub returns : goal.returns
unfolding hour_text
returns c =
    let records = rw (c.rows_of_hour.ensures, c.deref.ensures.value, c.self.invariant.all, c.self.view_is) at c.in_ok-put_records.ensures in
    two c.args.out.now.items c.extend_from_slice.new.self.items c.put_records.new.out.items _ _ c.in_ok-extend_from_slice.ensures.items records
