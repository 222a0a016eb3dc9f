use Rattle.std.proofs.Common.{refl}
use Rattle.lost_rows.proofs.Credits.{still_to_all}
use Rattle.lost_rows.proofs.aheads.still_aheads.Goals as goal

pub returns-clause-states : goal.returns-clause-states
returns-clause-states g c =
    let m = g.M.Machine.rules c.args.machine.now in
    still_to_all m c.args.still.from c.args.still.to c.args.aheads.now (record { none = c.args.aheads.now.none; one = c.put_ahead.new.into; two = c.put_ahead-2.new.into; three = c.put_ahead-3.new.into }) refl c.put_ahead.ensures.states c.put_ahead-2.ensures.states c.put_ahead-3.ensures.states
