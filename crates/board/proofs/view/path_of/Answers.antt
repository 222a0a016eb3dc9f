use Rattle.std.proofs.Common.{refl}
use Rattle.board.proofs.view.path_of.Goals as goal

pub returns : goal.returns
returns c = rw c.in_ok-path.ensures (c.machine_of-machine.ensures, refl, refl, refl)
