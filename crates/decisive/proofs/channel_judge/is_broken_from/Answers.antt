use Rattle.std.proofs.Common.{pos, ◌++◌}
use Rattle.decisive.specs.Moves.{KeepsBy}
use Rattle.decisive.proofs.Nowhere.{broken_all, free_order, free_some, same_answer}
use Rattle.decisive.proofs.channel_judge.is_broken_from.Goals as goal

pub is_broken_after-requires-clause-order : goal.is_broken_after-requires-clause-order
is_broken_after-requires-clause-order g c = free_order (g.M.Machine.rules c.args.machine.now) c.args.from c.in_ok-past.past (c.args.to.now ++ c.args.after.now) c.in_ok-past.ensures.states c.requires.order

pub is_broken_after-requires-clause-some : goal.is_broken_after-requires-clause-some
is_broken_after-requires-clause-some g c = free_some (g.M.Machine.rules c.args.machine.now) c.args.from c.in_ok-past.past (g.met.M.Machine.laws c.args.machine.now) c.in_ok-past.ensures.states

pub returns : goal.returns
returns g c = same_answer c.is_broken_after.result (broken_all (g.M.Machine.rules c.args.machine.now) c.args.from c.in_ok-past.past c.args.to.now (KeepsBy c.args.keep (pos c.args.at)) c.args.after.now c.in_ok-past.ensures.states) c.is_broken_after.ensures
