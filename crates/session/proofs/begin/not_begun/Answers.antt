use Rattle.std.proofs.Common.{◌≡◌, ◌+◌, ◌-◌, arith}
use Rattle.session.proofs.BeginLaws.{kept_first}
use Rattle.session.proofs.begin.not_begun.Goals as goal

pub returns-clause-kept : goal.returns-clause-kept
returns-clause-kept c =
    let some = c.requires.some in
    let last : (c.args.hours - 1) + 1 ≡ c.args.hours = omega arith in
    kept_first c.args.config.now c.args.hours (c.args.hours - 1) c.in_ok-none_waiting.field-0.items c.in_ok-start_with.field-0.items c.in_ok-ends.field-0.items c.in_ok-no_parts.field-0 c.requires.window last
    c.in_ok-start_with.ensures.size c.in_ok-start_with.ensures.start c.in_ok-ends.ensures.size c.in_ok-ends.ensures.end c.in_ok-no_parts.ensures c.in_ok-none_waiting.ensures.size
