use Rattle.reach.proofs.Alone.{on_ok}
use Rattle.lost_rows.proofs.Credits.{moved_all}
use Rattle.lost_rows.proofs.pasts.move_pasts.Goals as goal

pub returns-clause-states : goal.returns-clause-states
returns-clause-states g c =
    let m = g.M.Machine.rules c.args.machine.now in
    on_ok c.move_past-4.result _ _ (λ h. moved_all m c.args.one c.args.pasts.now (record { none = c.move_past.new.past; one = c.move_past-2.new.past; two = c.move_past-3.new.past; three = c.move_past-4.new.past }) c.in_ok-move_past.ensures.states c.in_ok-move_past-2.ensures.states c.in_ok-move_past-3.ensures.states h) c.move_past-4.ensures.states
