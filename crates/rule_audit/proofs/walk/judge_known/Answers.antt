use Rattle.std.proofs.Common.{arith, ◌+◌, true, false}
use Rattle.rule_audit.proofs.Walking.{if_ok, on_join, on_tenth}
use Rattle.rule_audit.proofs.walk.judge_known.Goals as goal

pub returns-clause-lines : goal.returns-clause-lines
returns-clause-lines c =
    let h = c.args.hour.now in
    let less = c.requires.range in
    if_ok c.judge_on-2.result _ _ (λ n f e is.
    let top = c.requires.within e is in
    let first = on_tenth h e c.requires.ready.rises false c.args.from c.args.lines.now.items c.judge_tenth.new.lines.items (omega arith) (c.requires.known c.args.from (omega arith) less) (c.in_ok-judge_tenth.ensures e is) in
    rw c.if-before.false (on_join h e c.requires.ready.rises false true true c.args.from (c.args.from + 1) c.args.to c.args.lines.now.items c.judge_tenth.new.lines.items c.judge_on-2.new.lines.items first (f e is))) c.judge_on-2.ensures.lines
