use Rattle.std.proofs.Common.{◌≡◌, ◌++◌, drop}
use Rattle.ring_config.specs.Settings.{specs_from}
use Rattle.ring_config.proofs.channels.specs.Given as goal

abbrev pub invariant-loop-spec : goal.invariant-loop-spec
invariant-loop-spec l = l.specs.items ++ specs_from l.floors l.spec (drop l.spec l.channels) ≡ specs_from l.floors 0 l.channels
