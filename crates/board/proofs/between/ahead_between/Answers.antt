use Rattle.std.proofs.Common.{arith}
use Rattle.channel_tables.specs.Spec.{rules_of}
use Rattle.channel_path.proofs.Moving.{earlier_low}
use Rattle.board.proofs.Twins.{goes_through}
use Rattle.board.proofs.between.ahead_between.Goals as goal

pub ahead_before-requires-clause-order : goal.ahead_before-requires-clause-order
ahead_before-requires-clause-order c = let (low, _, order) = c.requires.order in earlier_low (rules_of c.args.spec.now) 0 low c.args.moves.now (omega arith) order

pub near_any-requires-clause-order : goal.near_any-requires-clause-order
near_any-requires-clause-order c = rw c.machine_of.ensures c.requires.order

pub ahead_before-requires-in-None-clause-order : goal.ahead_before-requires-in-None-clause-order
ahead_before-requires-in-None-clause-order c = let (low, _, order) = c.requires.order in earlier_low (rules_of c.args.spec.now) 0 low c.args.moves.now (omega arith) order

pub returns-in-Some-clause-before : goal.returns-in-Some-clause-before
returns-in-Some-clause-before c = λ s.
    let some = c.goes_on.ensures c.if-not-goes_on.false in
    let through = goes_through (rules_of c.args.spec.now) c.args.before.now c.args.reached.now c.args.after.now c.args.moves.now c.requires.reached some in
    let told = rw (c.in-Some.is, c.machine_of.ensures) at c.in_ok-near_any.ensures.before in
    let w = told c.args.after.now c.requires.colours through s in
    let lowered = c.lower_before.ensures.states s in
    ((λ a. let (b, e) = lowered.0 a in (w.0 b, e)), λ (b, e). lowered.1 (w.1 b, e))
