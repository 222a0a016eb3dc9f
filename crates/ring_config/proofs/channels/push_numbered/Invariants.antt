use Rattle.std.proofs.Common.{◌≡◌, ◌++◌, ◌-◌}
use Rattle.ring_config.specs.Settings.{numbered}
use Rattle.ring_config.proofs.channels.push_numbered.Given as goal

abbrev pub invariant-loop-number : goal.invariant-loop-number
invariant-loop-number l = l.channels.items ≡ l.fn.channels.items ++ numbered l.kind (l.number - 1) l.numbers
