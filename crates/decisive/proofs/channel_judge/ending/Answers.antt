use Rattle.decisive.proofs.Nowhere.{ending_stop}
use Rattle.decisive.proofs.channel_judge.ending.Goals as goal

pub returns-in-Some : goal.returns-in-Some
returns-in-Some g c = ending_stop (g.M.Machine.rules c.args.machine.now) c.args.past.now c.args.moves.now c.in-Some.last (rw c.in-Some.is at c.in_ok-last.ensures.after)
