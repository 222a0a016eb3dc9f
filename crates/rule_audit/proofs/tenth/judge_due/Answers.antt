use Rattle.std.proofs.Common.{arith, ◌+◌}
use Rattle.rule_audit.proofs.Tenths.{cut_le}
use Rattle.rule_audit.proofs.tenth.judge_due.Goals as goal

pub lone_channel-requires-clause-range : goal.lone_channel-requires-clause-range
lone_channel-requires-clause-range c = cut_le c.args.hour.now.rows.now c.args.at (c.args.at + 1) c.args.first c.args.end (omega arith) c.requires.first c.requires.end

pub judge_channel-requires-clause-channel : goal.judge_channel-requires-clause-channel
judge_channel-requires-clause-channel c = (c.args.first, c.args.end, c.requires.first, c.requires.end, c.in-Some.ensures)

pub channels_of-requires-clause-range : goal.channels_of-requires-clause-range
channels_of-requires-clause-range c = cut_le c.args.hour.now.rows.now c.args.at (c.args.at + 1) c.args.first c.args.end (omega arith) c.requires.first c.requires.end

pub judge_channels-requires-clause-channels : goal.judge_channels-requires-clause-channels
judge_channels-requires-clause-channels c = (c.args.first, c.args.end, c.requires.first, c.requires.end, rw c.as_slice.ensures.value c.in_ok-channels.ensures)
