use Rattle.std.proofs.Common.{arith, ◌+◌}
use Rattle.rule_audit.proofs.Dues.{due_first, due_last, due_more, due_one}
use Rattle.rule_audit.proofs.tenth.judge_channel.Goals as goal

pub next_of-place-requires-clause-channel : goal.next_of-place-requires-clause-channel
next_of-place-requires-clause-channel c = let (f, t, low, high, are) = c.requires.channel in are.within 0 (omega arith)

pub next_of-place-requires-in-rules-clause-channel : goal.next_of-place-requires-in-rules-clause-channel
next_of-place-requires-in-rules-clause-channel c = let (f, t, low, high, are) = c.requires.channel in are.within 0 (omega arith)

pub rules-init : goal.rules-init
rules-init c =
    let h = c.args.hour.now in
    due_first h c.args.at c.next_of-place.result c.args.lines.now.items (due_one h c.args.at c.args.channel 0 c.next_of-place.result c.requires.ready c.requires.known c.requires.channel c.next_of-place.ensures)

pub rules-preserved : goal.rules-preserved
rules-preserved c =
    let h = c.args.hour.now in
    due_more h c.args.at c.rules.place c.next_of-place-in-rules.result c.args.lines.now.items c.rules.lines.items c.judge_after.new.lines.items c.rules-test.true c.rules.invariant c.in_ok-judge_after.ensures (due_one h c.args.at c.args.channel (c.rules.place + 1) c.next_of-place-in-rules.result c.requires.ready c.requires.known c.requires.channel c.next_of-place-in-rules.ensures)

pub returns : goal.returns
returns c = due_last c.args.hour.now c.args.at c.rules.place c.args.lines.now.items c.rules.lines.items c.rules-test.false c.rules.invariant
