use Rattle.std.proofs.Common.{refl}
use Rattle.board.proofs.Cases.{free_fits}
use Rattle.example_channels.proofs.hours.free.Goals as goal

pub returns-clause-fit : goal.returns-clause-fit
returns-clause-fit c = free_fits _ refl
