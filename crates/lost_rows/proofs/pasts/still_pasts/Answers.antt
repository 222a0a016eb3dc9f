use Rattle.std.proofs.Common.{refl}
use Rattle.reach.proofs.Alone.{on_ok}
use Rattle.lost_rows.proofs.Credits.{still_all}
use Rattle.lost_rows.proofs.pasts.still_pasts.Goals as goal

pub returns-clause-states : goal.returns-clause-states
returns-clause-states g c =
    let m = g.M.Machine.rules c.args.machine.now in
    on_ok c.put_past-3.result _ _ (λ h. still_all m c.args.asked c.args.still.from c.args.still.to c.args.pasts.now (record { none = c.args.pasts.now.none; one = c.put_past.new.into; two = c.put_past-2.new.into; three = c.put_past-3.new.into }) refl c.in_ok-put_past.ensures.states c.in_ok-put_past-2.ensures.states h) c.put_past-3.ensures.states
