use Rattle.hour_pack.proofs.CauseFacts.{causes-exact}
use Rattle.hour_pack.proofs.laws.faults_have_causes.Goals as goal

pub returns : goal.returns
returns c = causes-exact
