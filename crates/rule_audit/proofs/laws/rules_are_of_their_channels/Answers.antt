use Rattle.rule_audit.proofs.Placing.{own_channels}
use Rattle.rule_audit.proofs.laws.rules_are_of_their_channels.Goals as goal

pub returns : goal.returns
returns c = own_channels
