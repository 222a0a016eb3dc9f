use Rattle.std.proofs.Common.{◌≡◌, rules}
use Rattle.ring_config.specs.Seen.{layout_seen}
use Rattle.ring_config.specs.Settings.{signal_channels}
use Rattle.ring_config.proofs.SpecLaws.{few_signal_channels}
use Rattle.ring_config.proofs.channels.signal_channels.Goals as goal

pub returns-clause-few : goal.returns-clause-few
unfolding signal_channels
returns-clause-few c =
    let value : c.push_numbered-5.new.channels.items ≡ signal_channels (layout_seen c.args.layout.now) = search rules in
    rw value (few_signal_channels (layout_seen c.args.layout.now))
