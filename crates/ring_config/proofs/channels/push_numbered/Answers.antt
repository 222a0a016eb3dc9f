use Rattle.std.proofs.Common.{refl, append-nil}
use Rattle.ring_config.proofs.SpecLaws.{numbered_none, pushed_more}
use Rattle.ring_config.proofs.channels.push_numbered.Goals as goal

pub loop-number-init : goal.loop-number-init
loop-number-init c = rw (numbered_none c.args.kind c.args.numbers.now, append-nil) refl

pub loop-number-preserved : goal.loop-number-preserved
loop-number-preserved c =
    pushed_more c.args.kind c.loop-number.number _ c.args.numbers.now c.args.channels.now.items c.loop-number.channels.items _ c.loop-number.auto.number refl c.loop-number.invariant c.in_ok-push_if_numbered.ensures
