use Rattle.channel_ways.proofs.Tracing.{from_one}
use Rattle.channel_ways.proofs.Crossing.{one_order, one_soon, one_older, through}
use Rattle.channel_ways.proofs.passage.passage_source.Goals as goal

pub walk_end-requires-clause-order : goal.walk_end-requires-clause-order
walk_end-requires-clause-order g c =
    let m = g.M.Machine.rules c.args.machine.now in
    let p = c.args.passage.now in
    one_soon m p.before.now p.after.now p.left.now p.right.now c.args.met c.args.test.now c.requires.passage c.in-Some.found (rw c.in-Some.is at c.in_ok-passing.ensures)

pub walk_end-requires-clause-none_older : goal.walk_end-requires-clause-none_older
walk_end-requires-clause-none_older g c =
    let m = g.M.Machine.rules c.args.machine.now in
    let p = c.args.passage.now in
    one_older m p.before.now p.after.now p.left.now p.right.now c.args.met c.args.test.now c.requires.passage c.in-Some.found (rw c.in-Some.is at c.in_ok-passing.ensures)

pub walk_source-requires-clause-order : goal.walk_source-requires-clause-order
walk_source-requires-clause-order g c =
    let m = g.M.Machine.rules c.args.machine.now in
    let p = c.args.passage.now in
    one_order m p.before.now p.after.now p.left.now p.right.now c.args.met c.args.test.now c.requires.passage c.in-Some.found (rw c.in-Some.is at c.in_ok-passing.ensures)

pub walk_source-requires-clause-none_older : goal.walk_source-requires-clause-none_older
walk_source-requires-clause-none_older g c =
    let m = g.M.Machine.rules c.args.machine.now in
    let p = c.args.passage.now in
    one_older m p.before.now p.after.now p.left.now p.right.now c.args.met c.args.test.now c.requires.passage c.in-Some.found (rw c.in-Some.is at c.in_ok-passing.ensures)

pub returns-clause-way : goal.returns-clause-way
returns-clause-way g c =
    let m = g.M.Machine.rules c.args.machine.now in
    let p = c.args.passage.now in
    let q = rw c.in-Some.is at c.in_ok-passing.ensures in
    let on = from_one m c.in-Some.found.only p.right.now c.args.fills.now.items c.walk_source.new.fills.items c.in-Some.found.state c.in_ok-_state._state c.in_ok-end.end q.4 c.in_ok-_state.ensures.held c.in_ok-_state.ensures.way in
    through m p.left.now p.right.now p.after.now c.args.met c.args.test.now c.args.fills.now.items c.walk_source.new.fills.items c.walk_source-2.new.fills.items c.in_ok-source.source c.in-Some.found.state c.in_ok-end.end q.1 c.in_ok-end.ensures.admitted on c.in_ok-source.ensures.way
