use Rattle.std.proofs.Common.{◌↔◌, ◌∷◌, subst, List}
use Rattle.sig_base.specs.declared.values.Row.{Row}
use Rattle.reach.specs.Runs.{State}
use Rattle.filling_pair.specs.Strands.{no_fill}
use Rattle.filling_pair.specs.Walking.{In, Walks, track_of}
use Rattle.filling_pair.proofs.Passing.{fill_end, fill_stop, fill_turn, since_turn}
use Rattle.filling_pair.proofs.walk.pass_fills.Goals as goal

pub returns-then-until-fill-clause-walked : goal.returns-then-until-fill-clause-walked
returns-then-until-fill-clause-walked c =
    fill_stop (track_of c.args.follower.now) c.args.until c.args.cursor.now.here c.loop-i.here c.args.cursor.now.fills.now c.loop-i.i no_fill c.loop-i-test.true c.if-until-fill.true c.loop-i.invariant.walked

pub loop-i-preserved : goal.loop-i-preserved
loop-i-preserved c =
    let k = track_of c.args.follower.now in
    let all = c.args.cursor.now.fills.now in
    let m = subst (λ (r : Row). (more : List Row) (u : State) → In c.loop-i.here (λ s. Walks k (r ∷ more) s u) ↔ In c.moved-here.result (λ s. Walks k more s u)) c.row_of.ensures c.moved-here.ensures.moved in
    record {
      fits = c.moved-here.ensures.fits;
      rest = since_turn c.args.until all c.loop-i.i no_fill c.loop-i-test.true c.if-until-fill.false c.loop-i.invariant.rest;
      walked = fill_turn k c.args.until c.args.cursor.now.here c.loop-i.here c.moved-here.result all c.loop-i.i no_fill c.loop-i-test.true c.if-until-fill.false c.loop-i.invariant.walked m;
    }

pub returns-clause-walked : goal.returns-clause-walked
returns-clause-walked c =
    fill_end (track_of c.args.follower.now) c.args.until c.args.cursor.now.here c.loop-i.here c.args.cursor.now.fills.now c.loop-i.i c.loop-i-test.false c.loop-i.invariant.walked
