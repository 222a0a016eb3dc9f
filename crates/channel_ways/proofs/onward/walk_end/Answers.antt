use Rattle.std.proofs.Common.{arith, refl}
use Rattle.std.proofs.lemmas.Int.{ints}
use Rattle.gap_ways.specs.Ways.{state_of}
use Rattle.channel_ways.proofs.Running.{after_older}
use Rattle.channel_ways.proofs.Tracing.{no_stop, completes, ends_soon}
use Rattle.channel_ways.proofs.onward.walk_end.Goals as goal

pub walk_past-requires-clause-some : goal.walk_past-requires-clause-some
walk_past-requires-clause-some g c = (state_of c.args.from, rw c.in_ok-past.ensures ((c.requires.alone (state_of c.args.from)).1 refl))

pub unreachable-requires : goal.unreachable-requires
unreachable-requires g c =
    let m = g.M.Machine.rules c.args.machine.now in
    let stop = rw (c.in-Some.is, c.in_ok-past.ensures) at c.in_ok-_stop.ensures.after in
    no_stop m c.args.only.now c.args.after.now c.args.moves.now (state_of c.args.from) c.in-Some._stop ((c.requires.alone (state_of c.args.from)).1 refl) c.requires.completed stop

pub admitted_state-requires-clause-none_older : goal.admitted_state-requires-clause-none_older
admitted_state-requires-clause-none_older g c =
    let after = rw (c.in_default.is, c.in_ok-past.ensures) at c.in_ok-_stop.ensures.after in
    after_older (g.M.Machine.rules c.args.machine.now) c.args.only.now c.walk_past.new.past c.args.moves.now after.0 c.requires.none_older

pub admitted_state-requires-clause-before : goal.admitted_state-requires-clause-before
admitted_state-requires-clause-before g c =
    let after = rw (c.in_default.is, c.in_ok-past.ensures) at c.in_ok-_stop.ensures.after in
    ends_soon (g.M.Machine.rules c.args.machine.now) c.args.only.now c.walk_past.new.past c.args.moves.now _ c.requires.order (omega (arith, ints)) after.0

pub unreachable-requires-in_default-found : goal.unreachable-requires-in_default-found
unreachable-requires-in_default-found g c =
    let m = g.M.Machine.rules c.args.machine.now in
    let after = rw (c.in_default.is, c.in_ok-past.ensures) at c.in_ok-_stop.ensures.after in
    completes m c.walk_past.new.past c.args.only.now c.args.after.now c.args.moves.now (state_of c.args.from) ((c.requires.alone (state_of c.args.from)).1 refl) after.0 c.requires.completed (rw c.in_default-found.is at c.in_ok-found.ensures)

pub returns-clause-reached : goal.returns-clause-reached
returns-clause-reached g c =
    let after = rw (c.in_default.is, c.in_ok-past.ensures) at c.in_ok-_stop.ensures.after in
    (after.0 (state_of c.in-Some-found.end)).0 (rw c.in-Some-found.is at c.in_ok-found.ensures).0
