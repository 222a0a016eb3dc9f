use Rattle.std.proofs.Common.{◌≡◌, ◌+◌, ◌-◌, arith}
use Rattle.gap_ways.specs.Ways.{state_of}
use Rattle.strand_search.proofs.Growing.{grow_on, grow_same}
use Rattle.strand_search.proofs.Stepping.{held_colour, hours_back_more, hours_back_none}
use Rattle.strand_search.proofs.back.back_to_start.Goals as goal

pub loop-turn-init : goal.loop-turn-init
loop-turn-init g c = record {
  held = λ h e. let same : h ≡ c.args.hour = omega arith in rw same c.requires.held;
  way = λ h e. let same : h ≡ c.args.hour = omega arith in rw same (hours_back_none c.args.spec.now c.args.store.now c.args.hour c.args.way.rows.items (state_of c.args.way.here));
  grow = grow_same c.args.reads.now;
}

pub loop-turn-preserved : goal.loop-turn-preserved
loop-turn-preserved g c =
    let d = c.args.spec.now in
    let s = c.args.store.now in
    let n = c.args.hour in
    let here = c.args.hour - 1 - c.loop-turn.turn in
    let lt = c.loop-turn-test.true in
    let (size, are) = c.requires.pasts in
    let held = c.loop-turn.invariant.held (here + 1) (omega arith) in
    let colour = held_colour d s (here + 1) _ (state_of c.loop-turn.at.here) (are (here + 1) (omega arith)) held in
    let way = hours_back_more d s here (here + 1) n c.args.way.rows.items c.loop-turn.at.rows.items c.in_ok-at.at.rows.items (state_of c.in_ok-at.at.here) (state_of c.loop-turn.at.here) (state_of c.args.way.here) c.requires.spec (omega arith) colour (c.loop-turn.invariant.way (here + 1) (omega arith)) c.in_ok-at.ensures.way in
    record {
      held = λ h e. let same : h ≡ here = omega arith in rw same c.in_ok-at.ensures.held;
      way = λ h e. let same : h ≡ here = omega arith in rw same way;
      grow = grow_on c.args.reads.now c.loop-turn.reads c.back_over_hour.new.reads c.loop-turn.invariant.grow c.back_over_hour.ensures.grow;
    }

pub returns-clause-way : goal.returns-clause-way
returns-clause-way g c = let end = c.loop-turn.auto.turn-end in let stop = c.loop-turn-test.false in c.loop-turn.invariant.way 0 (omega arith)
