use Rattle.decisive.proofs.Nowhere.{stop_nowhere}
use Rattle.decisive.proofs.channel_judge.keep_after.Goals as goal

pub returns-in-Some-clause-states : goal.returns-in-Some-clause-states
returns-in-Some-clause-states g c = stop_nowhere (g.M.Machine.rules c.args.machine.now) c.args.past.now c.args.to.now c.in-Some.field-0 (rw c.in-Some.is at c.in_ok-walk_past.ensures.after)
