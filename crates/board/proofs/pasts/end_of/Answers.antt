use Rattle.std.proofs.Common.{arith, ◌-◌, length}
use Rattle.board.proofs.Within.{last_end}
use Rattle.board.proofs.pasts.end_of.Goals as goal

pub returns : goal.returns
returns c = let some = c.requires in λ f t follow. last_end f t (length c.args.stretches.now - 1) c.args.stretches.now _ (omega arith) follow
