use Rattle.lost_rows.proofs.Credits.{moved_to_all}
use Rattle.lost_rows.proofs.aheads.move_aheads.Goals as goal

pub returns-clause-states : goal.returns-clause-states
returns-clause-states g c =
    let m = g.M.Machine.rules c.args.machine.now in
    moved_to_all m c.args.one c.args.aheads.now (record { none = c.move_ahead.new.ahead; one = c.move_ahead-2.new.ahead; two = c.move_ahead-3.new.ahead; three = c.move_ahead-4.new.ahead }) c.move_ahead.ensures.before c.move_ahead-2.ensures.before c.move_ahead-3.ensures.before c.move_ahead-4.ensures.before
