use Rattle.split_measures.proofs.Telling.{verdicts_tell}
use Rattle.split_measures.proofs.laws.verdicts_tell.Goals as goal

pub returns : goal.returns
returns c = verdicts_tell
