use Rattle.std.proofs.Common.{rules, w64}
use Rattle.std.specs.Prelude.{FitsSigned}
use Rattle.std.proofs.lemmas.Int.{to_z-of_z}
use Rattle.gap_ways.proofs.Asking.{none_asked, some_asked, found_asked, not_both}
use Rattle.gap_ways.proofs.choose.entry_for.Goals as goal

pub entry_by-requires-clause-some : goal.entry_by-requires-clause-some
entry_by-requires-clause-some g c =
    let fa : FitsSigned w64 c.in-Some.asked.at = search rules in
    let kept = rw c.in_ok-left.ensures at (simp to_z-of_z at c.in_ok-past_keep.ensures.states) in
    let s = some_asked c.args.past.now c.args.ahead.now c.args.met c.args.test.now c.in-Some.asked c.args.colour c.in-Some.ensures.asked c.in-Some.ensures.colour c.past_keep.new.past kept (c.possible.ensures.some_true.0 c.if-possible.true) in
    simp to_z-of_z (s.0, s.1, s.2)

pub returns-then-possible : goal.returns-then-possible
returns-then-possible g c =
    let fa : FitsSigned w64 c.in-Some.asked.at = search rules in
    let fe : FitsSigned w64 c.entry_by.result = search rules in
    let kept = rw c.in_ok-left.ensures at (simp to_z-of_z at c.in_ok-past_keep.ensures.states) in
    let s = some_asked c.args.past.now c.args.ahead.now c.args.met c.args.test.now c.in-Some.asked c.args.colour c.in-Some.ensures.asked c.in-Some.ensures.colour c.past_keep.new.past kept (c.possible.ensures.some_true.0 c.if-possible.true) in
    let by = simp to_z-of_z at c.entry_by.ensures.by in
    simp to_z-of_z (found_asked c.args.past.now c.args.ahead.now c.args.met c.args.test.now c.in-Some.asked c.args.colour c.in-Some.ensures.asked c.in-Some.ensures.colour c.past_keep.new.past c.entry_by.result s.0 kept c.entry_by.ensures.member by (c.entry_by.ensures.least s.0 s.1) s.3)

pub returns : goal.returns
returns g c = none_asked c.args.past.now c.args.ahead.now c.args.met c.args.test.now c.in-Some.asked c.args.colour c.in-Some.ensures.asked c.in-Some.ensures.colour (λ s. not_both c.possible.result.some_true c.if-possible.false (c.possible.ensures.some_true.1 s))
