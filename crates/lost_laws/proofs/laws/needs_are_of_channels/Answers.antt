use Rattle.lost_laws.proofs.Needs.{needs_channel, needs_terms}
use Rattle.lost_laws.proofs.laws.needs_are_of_channels.Goals as goal

pub returns : goal.returns
returns c = record { interval = needs_channel; clause = needs_terms }
