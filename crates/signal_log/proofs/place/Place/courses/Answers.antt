use Rattle.std.proofs.Common.{arith}
use Rattle.signal_log.proofs.Calls.{courses_told}
use Rattle.signal_log.proofs.place.Place.courses.Goals as goal

pub of-requires-clause-few : goal.of-requires-clause-few
of-requires-clause-few c = let few = c.rows.ensures.are_rows.few in omega arith

pub returns : goal.returns
returns c = courses_told c.args.specs.now c.args.self.now c.of.result c.stretches.ensures.opened (rw (c.rows.ensures.value, c.stretches.ensures.value) at c.of.ensures)
