use Rattle.std.proofs.Common.{arith, rules, w64}
use Rattle.std.specs.Prelude.{FitsSigned}
use Rattle.std.proofs.lemmas.Int.{ints, to_z-of_z}
use Rattle.reach.proofs.States.{in_sets}
use Rattle.gap_ways.specs.Ways.{state_of}
use Rattle.channel_ways.proofs.Running.{after_older}
use Rattle.channel_ways.proofs.Tracing.{some_after_all, clamped_no_stop, old_unclamped, clamped_colour}
use Rattle.channel_ways.proofs.clamp.unclamped.Goals as goal

pub unreachable-requires : goal.unreachable-requires
unreachable-requires g c =
    let m = g.M.Machine.rules c.args.machine.now in
    let stop = rw (c.in-Some.is, c.in_ok-past.ensures) at c.in_ok-_stop.ensures.after in
    let some = some_after_all m c.args.before.now c.args.moves.now c.args.limit (state_of c.args.target) c.requires.reached in
    clamped_no_stop m c.args.before.now c.args.moves.now _ c.in-Some._stop some.1 stop

pub entry_by-requires-clause-colour : goal.entry_by-requires-clause-colour
entry_by-requires-clause-colour g c =
    let m = g.M.Machine.rules c.args.machine.now in
    let rl = c.ranges.limit in
    let fe : FitsSigned w64 c.args.target.entry = search rules in
    let low = simp to_z-of_z at c.if-limit-target.false in
    let after = rw (c.in_default.is, c.in_ok-past.ensures) at c.in_ok-_stop.ensures.after in
    let s = clamped_colour m c.args.before.now c.walk_past.new.past c.args.moves.now c.args.limit c.args.target c.requires.reached after.0 (omega (arith, ints)) in
    let i = in_sets c.walk_past.new.past c.args.target.colour s.0 s.1 in
    let n = c.in_ok-_stop.ensures.colours in let n2 = rw c.in_ok-past.ensures at n in let k = c.requires.colours in
    omega arith

pub entry_by-requires-clause-none_older : goal.entry_by-requires-clause-none_older
entry_by-requires-clause-none_older g c =
    let after = rw (c.in_default.is, c.in_ok-past.ensures) at c.in_ok-_stop.ensures.after in
    after_older (g.M.Machine.rules c.args.machine.now) c.args.before.now c.walk_past.new.past c.args.moves.now after.0 c.requires.none_older

pub entry_by-requires-clause-some : goal.entry_by-requires-clause-some
entry_by-requires-clause-some g c =
    let m = g.M.Machine.rules c.args.machine.now in
    let rl = c.ranges.limit in
    let fe : FitsSigned w64 c.args.target.entry = search rules in
    let low = simp to_z-of_z at c.if-limit-target.false in
    let after = rw (c.in_default.is, c.in_ok-past.ensures) at c.in_ok-_stop.ensures.after in
    simp to_z-of_z (clamped_colour m c.args.before.now c.walk_past.new.past c.args.moves.now c.args.limit c.args.target c.requires.reached after.0 (omega (arith, ints)))

pub returns : goal.returns
returns g c =
    let m = g.M.Machine.rules c.args.machine.now in
    let rl = c.ranges.limit in
    let fe : FitsSigned w64 c.args.target.entry = search rules in
    let fo : FitsSigned w64 c.entry_by.result = search rules in
    let after = rw (c.in_default.is, c.in_ok-past.ensures) at c.in_ok-_stop.ensures.after in
    let low = simp to_z-of_z at c.if-limit-target.false in
    simp to_z-of_z (old_unclamped m c.args.before.now c.walk_past.new.past c.args.moves.now c.args.limit c.entry_by.result c.args.target (omega (arith, ints)) c.requires.reached after.0 c.entry_by.ensures.member c.entry_by.ensures.least)
