use Rattle.std.proofs.Common.{◌≡◌, drop}
use Rattle.ring_config.specs.Values.{named_from}
use Rattle.ring_config.proofs.format.references.named.Given as goal

abbrev pub invariant-loop-spec : goal.invariant-loop-spec
invariant-loop-spec l = named_from l.spec (drop l.spec l.channels) l.text ≡ named_from 0 l.channels l.text
