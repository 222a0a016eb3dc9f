use Rattle.std.proofs.Common.{arith, refl, ◌≡◌, ◌+◌, ◌-◌, ◌<◌, length, take}
use Rattle.gap_ways.specs.Ways.{state_of}
use Rattle.channel_path.specs.declared.moves.Move.TheVariants.{Letter}
use Rattle.channel_path.specs.Kept.{letters}
use Rattle.channel_path.proofs.Moving.{one_fits}
use Rattle.channel_path.proofs.Keeping.{count_more}
use Rattle.channel_ways.proofs.Running.{place_older}
use Rattle.channel_ways.proofs.Tracing.{came_from, at_place, added_moves, run_place, at_start}
use Rattle.channel_ways.proofs.back.walk_source.Goals as goal

pub run_before-run-requires : goal.run_before-run-requires
run_before-run-requires g c =
    let m = g.M.Machine.rules c.args.machine.now in
    let xs = c.args.moves.now in
    let p = length c.args.moves.now - 1 - c.loop-turn.turn in
    let turn = c.loop-turn-test.true in
    let lt : p < length xs = omega arith in
    let was = c.loop-turn.invariant.run (p + 1) (omega arith) in
    let more = count_more xs p (Letter 0 0 0) (letters (take p xs)) lt refl in
    omega arith

pub move_source-requires-clause-fits : goal.move_source-requires-clause-fits
move_source-requires-clause-fits g c = let lt = c.loop-turn-test.true in one_fits (g.M.Machine.rules c.args.machine.now) c.requires.order.0 (length c.args.moves.now - 1 - c.loop-turn.turn) c.args.moves.now (Letter 0 0 0) (omega arith) c.requires.order.2

pub move_source-requires-clause-colours : goal.move_source-requires-clause-colours
move_source-requires-clause-colours g c =
    let m = g.M.Machine.rules c.args.machine.now in
    let xs = c.args.moves.now in
    let p = length c.args.moves.now - 1 - c.loop-turn.turn in
    let turn = c.loop-turn-test.true in
    let lt : p < length xs = omega arith in
    let was = c.loop-turn.invariant.run (p + 1) (omega arith) in
    let more = count_more xs p (Letter 0 0 0) (letters (take p xs)) lt refl in
    let sum = c.run_before-run.ensures in
    let run : c.run_before-run.result ≡ letters (take p xs) = omega arith in
    let is = run_place m c.args.before.now xs c.in_ok-pasts.pasts.items p c.run_before-run.result c.index-past.result.now lt c.in_ok-pasts.ensures run c.index-past.ensures in
    is.0

pub move_source-requires-clause-none_older : goal.move_source-requires-clause-none_older
move_source-requires-clause-none_older g c =
    let m = g.M.Machine.rules c.args.machine.now in
    let xs = c.args.moves.now in
    let p = length c.args.moves.now - 1 - c.loop-turn.turn in
    let turn = c.loop-turn-test.true in
    let lt : p < length xs = omega arith in
    let was = c.loop-turn.invariant.run (p + 1) (omega arith) in
    let more = count_more xs p (Letter 0 0 0) (letters (take p xs)) lt refl in
    let sum = c.run_before-run.ensures in
    let run : c.run_before-run.result ≡ letters (take p xs) = omega arith in
    let is = run_place m c.args.before.now xs c.in_ok-pasts.pasts.items p c.run_before-run.result c.index-past.result.now lt c.in_ok-pasts.ensures run c.index-past.ensures in
    place_older m c.args.before.now c.index-past.result.now xs p (Letter 0 0 0) lt is c.requires.none_older

pub move_source-requires-clause-reached : goal.move_source-requires-clause-reached
move_source-requires-clause-reached g c =
    let m = g.M.Machine.rules c.args.machine.now in
    let xs = c.args.moves.now in
    let p = length c.args.moves.now - 1 - c.loop-turn.turn in
    let turn = c.loop-turn-test.true in
    let lt : p < length xs = omega arith in
    let was = c.loop-turn.invariant.run (p + 1) (omega arith) in
    let more = count_more xs p (Letter 0 0 0) (letters (take p xs)) lt refl in
    let sum = c.run_before-run.ensures in
    let run : c.run_before-run.result ≡ letters (take p xs) = omega arith in
    let is = run_place m c.args.before.now xs c.in_ok-pasts.pasts.items p c.run_before-run.result c.index-past.result.now lt c.in_ok-pasts.ensures run c.index-past.ensures in
    came_from m c.args.before.now c.index-past.result.now c.requires.order.0 xs p (Letter 0 0 0) (state_of c.loop-turn.here) lt c.requires.order.1 c.requires.order.2 is (c.loop-turn.invariant.reached (p + 1) (omega arith))

pub loop-turn-preserved : goal.loop-turn-preserved
loop-turn-preserved g c =
    let m = g.M.Machine.rules c.args.machine.now in
    let xs = c.args.moves.now in
    let p = length c.args.moves.now - 1 - c.loop-turn.turn in
    let turn = c.loop-turn-test.true in
    let lt : p < length xs = omega arith in
    let was = c.loop-turn.invariant.run (p + 1) (omega arith) in
    let more = count_more xs p (Letter 0 0 0) (letters (take p xs)) lt refl in
    let sum = c.run_before-run.ensures in
    let run : c.run_before-run.result ≡ letters (take p xs) = omega arith in
    let is = run_place m c.args.before.now xs c.in_ok-pasts.pasts.items p c.run_before-run.result c.index-past.result.now lt c.in_ok-pasts.ensures run c.index-past.ensures in
    let src = c.in_ok-here.ensures in
    let at = at_place m c.args.before.now c.index-past.result.now xs p (Letter 0 0 0) (state_of c.in_ok-here.here) lt is src.0 src.1 in
    let way = added_moves m xs p (Letter 0 0 0) c.args.fills.now.items c.loop-turn.fills.items c.move_source.new.fills.items c.index-past.result.now c.args.target c.loop-turn.here c.in_ok-here.here lt (c.loop-turn.invariant.way (p + 1) (omega arith)) src in
    record {
      run = λ j q. let same : j ≡ p = omega arith in rw same run;
      reached = λ j q. let same : j ≡ p = omega arith in rw same at;
      way = λ j q. let same : j ≡ p = omega arith in rw same way;
    }

pub returns-clause-held : goal.returns-clause-held
returns-clause-held g c = let turn = c.loop-turn-test.false in let end = c.loop-turn.auto.turn-end in at_start (g.M.Machine.rules c.args.machine.now) c.args.before.now (state_of c.loop-turn.here) (c.loop-turn.invariant.reached 0 (omega arith))

pub returns-clause-way : goal.returns-clause-way
returns-clause-way g c = let turn = c.loop-turn-test.false in let end = c.loop-turn.auto.turn-end in c.loop-turn.invariant.way 0 (omega arith)
