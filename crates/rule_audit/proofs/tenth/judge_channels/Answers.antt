use Rattle.std.proofs.Common.{◌+◌}
use Rattle.rule_audit.proofs.Dues.{due_at, due_first, due_last, due_more, known_rows}
use Rattle.rule_audit.proofs.tenth.judge_channels.Goals as goal

pub rules-init : goal.rules-init
rules-init c =
    let h = c.args.hour.now in
    let (f, t, low, high, are) = c.requires.channels in
    due_first h c.args.at c.next_due-place.result c.args.lines.now.items (due_at h c.args.at f t 0 c.next_due-place.result low high (c.next_due-place.ensures f t high.0 (known_rows h c.args.at f t c.requires.known low high) are))

pub rules-preserved : goal.rules-preserved
rules-preserved c =
    let h = c.args.hour.now in
    let (f, t, low, high, are) = c.requires.channels in
    due_more h c.args.at c.rules.place c.next_due-place-in-rules.result c.args.lines.now.items c.rules.lines.items c.judge_after.new.lines.items c.rules-test.true c.rules.invariant c.in_ok-judge_after.ensures (due_at h c.args.at f t (c.rules.place + 1) c.next_due-place-in-rules.result low high (c.next_due-place-in-rules.ensures f t high.0 (known_rows h c.args.at f t c.requires.known low high) are))

pub returns : goal.returns
returns c = due_last c.args.hour.now c.args.at c.rules.place c.args.lines.now.items c.rules.lines.items c.rules-test.false c.rules.invariant
