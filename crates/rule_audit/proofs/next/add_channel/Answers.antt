use Rattle.std.proofs.Common.{arith}
use Rattle.rule_audit.proofs.Indexing.{channels_keep, channels_more}
use Rattle.rule_audit.proofs.next.add_channel.Goals as goal
use Rattle.rule_audit.proofs.next.add_channel.Goals.{else-channel-count-via-then-channel-count+else-not-has_channel, else-channel-count-via-else-channel-count}

pub returns-in_ok-push : goal.returns-in_ok-push
returns-in_ok-push c = λ own f t at ft are. rw c.in_ok-push.ensures.items (channels_more own c.args.count f t c.args.channel c.args.channels.now.items at ft c.if-channel-count.true are)

pub returns-else-channel-count : goal.returns-else-channel-count
returns-else-channel-count c = λ own f t at ft are.
    channels_keep own c.args.count f t c.args.channels.now.items (λ few. elim c.else-channel-count.branch [
      | else-channel-count-via-then-channel-count+else-not-has_channel w ↦
          let (k, lt, e) = (rw w.as_slice.ensures.value at w.has_channel.ensures.0) w.if-not-has_channel.false in
          (k, lt, rw at e)
      | else-channel-count-via-else-channel-count w ↦ let ge = w.if-channel-count.false in absurd (omega arith)
    ]) are
