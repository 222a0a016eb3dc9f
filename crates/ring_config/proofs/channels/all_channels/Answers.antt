use Rattle.std.proofs.Common.{◌≡◌, rules}
use Rattle.ring_config.specs.Seen.{layout_seen}
use Rattle.ring_config.specs.Settings.{all_channels}
use Rattle.ring_config.proofs.SpecLaws.{few_channels}
use Rattle.ring_config.proofs.channels.all_channels.Goals as goal

pub returns-clause-few : goal.returns-clause-few
unfolding all_channels
returns-clause-few c =
    let value : c.push_coordination.new.channels.items ≡ all_channels (layout_seen c.args.layout.now) c.args.approaches.now c.args.coordination = search rules in
    rw value (few_channels (layout_seen c.args.layout.now) c.args.approaches.now c.args.coordination)
