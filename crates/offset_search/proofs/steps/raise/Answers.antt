use Rattle.std.proofs.Common.{◌<◌, ◌+◌, ◌%◌, ◌&&◌, get_or, length, set, arith}
use Rattle.std.specs.Prelude.{nat_le, nat_lt, if◌then◌else◌}
use Rattle.offset_search.specs.Steps.{one_if}
use Rattle.offset_search.proofs.Rising.{stepped, AreSteps-like, up_and_down, up_alone}
use Rattle.offset_search.proofs.steps.raise.Goals as goal

pub returns-then-to-steps : goal.returns-then-to-steps
returns-then-to-steps c = λ f steps.
    let xs = c.args.steps.now in
    let from = c.args.from in
    let to = c.args.to in
    let ys = set xs from ((get_or xs from 0 + 1) % 18446744073709551616) in
    let within : to < length ys = c.if-to-steps.true in
    AreSteps-like _ (λ j. f j + one_if (nat_le from j && nat_lt j to)) _
    (stepped (λ j. f j + (if nat_le from j then 1 else 0)) ys to 18446744073709551615 within (stepped f xs from 1 c.requires.in_range steps))
    (λ j lt. up_and_down (f j) from to j c.requires.in_order)

pub returns-else-to-steps : goal.returns-else-to-steps
returns-else-to-steps c = λ f steps.
    let xs = c.args.steps.now in
    let from = c.args.from in
    let to = c.args.to in
    AreSteps-like _ (λ j. f j + one_if (nat_le from j && nat_lt j to)) _
    (stepped f xs from 1 c.requires.in_range steps)
    (λ j lt. let past : j < to = omega arith in up_alone (f j) from to j past)
