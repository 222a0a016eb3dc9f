use Rattle.std.proofs.Common.{◌∙◌}
use Rattle.gap_ways.specs.Ways.{state_of}
use Rattle.channel_ways.proofs.Tracing.{clamped_no_stop}
use Rattle.channel_ways.proofs.Crossing.{none_passes, passes, past_older, stop_passes}
use Rattle.channel_ways.proofs.passage.passage_state.Goals as goal

pub returns-in-Some : goal.returns-in-Some
returns-in-Some g c =
    let m = g.M.Machine.rules c.args.machine.now in
    let p = c.args.passage.now in
    let stop = rw (c.in-Some.is, c.in_ok-past.ensures) at c.in_ok-_stop.ensures.after in
    stop_passes m p.before.now p.after.now p.left.now p.right.now c.args.met c.args.test.now (λ u a. clamped_no_stop m p.before.now p.left.now u c.in-Some._stop a stop)

pub possible_state-requires-clause-none_older : goal.possible_state-requires-clause-none_older
possible_state-requires-clause-none_older g c =
    let m = g.M.Machine.rules c.args.machine.now in
    let p = c.args.passage.now in
    let after = rw (c.in_default.is, c.in_ok-past.ensures) at c.in_ok-_stop.ensures.after in
    let can = rw c.copy-ahead.ensures at c.walk_ahead.ensures.before in
    past_older m p.before.now c.walk_past.new.past p.after.now c.walk_ahead.new.ahead p.left.now p.right.now c.args.test.now c.requires.passage after.0 can

pub returns-in_default-found : goal.returns-in_default-found
returns-in_default-found g c =
    let m = g.M.Machine.rules c.args.machine.now in
    let p = c.args.passage.now in
    let after = rw (c.in_default.is, c.in_ok-past.ensures) at c.in_ok-_stop.ensures.after in
    let can = rw c.copy-ahead.ensures at c.walk_ahead.ensures.before in
    none_passes m p.before.now c.walk_past.new.past p.after.now c.walk_ahead.new.ahead p.left.now p.right.now c.args.test.now c.requires.passage after.0 can c.args.met (rw c.in_default-found.is at c.in_ok-found.ensures)

pub only_state-requires-clause-low : goal.only_state-requires-clause-low
only_state-requires-clause-low g c =
    let m = g.M.Machine.rules c.args.machine.now in
    let p = c.args.passage.now in
    let after = rw (c.in_default.is, c.in_ok-past.ensures) at c.in_ok-_stop.ensures.after in
    let can = rw c.copy-ahead.ensures at c.walk_ahead.ensures.before in
    let a = rw c.in-Some-found.is at c.in_ok-found.ensures in
    past_older m p.before.now c.walk_past.new.past p.after.now c.walk_ahead.new.ahead p.left.now p.right.now c.args.test.now c.requires.passage after.0 can (state_of c.in-Some-found.state) a.0.0

pub returns : goal.returns
returns g c =
    let m = g.M.Machine.rules c.args.machine.now in
    let p = c.args.passage.now in
    let after = rw (c.in_default.is, c.in_ok-past.ensures) at c.in_ok-_stop.ensures.after in
    let can = rw c.copy-ahead.ensures at c.walk_ahead.ensures.before in
    let a = rw c.in-Some-found.is at c.in_ok-found.ensures in
    let size = rw c.in_ok-past.ensures at c.in_ok-_stop.ensures.colours in
    let k = c.in_ok-only.ensures in
    (passes m p.before.now c.walk_past.new.past p.after.now c.walk_ahead.new.ahead p.left.now p.right.now c.args.test.now c.requires.passage after.0 can (state_of c.in-Some-found.state) a.0, a.1, a.0.1, k.colours ∙ (size ∙ c.requires.colours), k.states)
