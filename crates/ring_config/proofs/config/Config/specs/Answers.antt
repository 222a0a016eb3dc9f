use Rattle.std.proofs.Common.{subst, AllPairs}
use Rattle.ring_config.specs.Settings.{Settings}
use Rattle.ring_config.specs.Sound.{IsBefore}
use Rattle.ring_config.proofs.config.Config.specs.Goals as goal

pub returns-clause-ordered : goal.returns-clause-ordered
returns-clause-ordered c = subst (λ (s : Settings). AllPairs (λ x y. IsBefore x.channel y.channel) s.specs) c.self.view_is c.self.invariant.sound.ordered
