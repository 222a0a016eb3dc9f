use Rattle.channel_path.proofs.Running.{runs_moves}
use Rattle.channel_path.proofs.moves.runs_are_moves.Goals as goal

pub returns : goal.returns
returns c = runs_moves
