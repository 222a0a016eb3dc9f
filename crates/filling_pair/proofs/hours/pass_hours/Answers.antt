use Rattle.std.proofs.Common.{◌-◌}
use Rattle.filling_pair.specs.Walking.{own_hours, track_of}
use Rattle.filling_pair.proofs.Overall.{hour_turn}
use Rattle.filling_pair.proofs.Growing.{grow_on}
use Rattle.filling_pair.proofs.hours.pass_hours.Goals as goal

pub loop-hour-preserved : goal.loop-hour-preserved
loop-hour-preserved g c =
    let k = track_of c.args.follower.now in
    record {
      grow = grow_on _ _ _ c.loop-hour.invariant.grow c.pass_hour-at.ensures.grow;
      fits = c.pass_hour-at.ensures.fits;
      passed = hour_turn k c.args.store.now c.args.to c.loop-hour.hour (own_hours k c.args.store.now c.args.from (c.args.to - c.args.from)) c.args.cursor.now.here c.loop-hour.at.here c.pass_hour-at.result.here c.args.cursor.now.fills.now c.loop-hour.at.fills.now c.pass_hour-at.result.fills.now c.loop-hour-test.true c.loop-hour.invariant.passed c.pass_hour-at.ensures.passed;
    }
