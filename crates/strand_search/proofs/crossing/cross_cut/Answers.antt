use Rattle.std.proofs.Common.{◌+◌}
use Rattle.gap_ways.specs.Ways.{state_of}
use Rattle.strand_search.proofs.Coming.{stands_here}
use Rattle.strand_search.proofs.crossing.cross_cut.Goals as goal

pub on_over-requires-clause-alone : goal.on_over-requires-clause-alone
on_over-requires-clause-alone c =
    let passes = rw c.in-Some.is at c.in_ok-found.ensures in
    (c.args.asked.now.at + 1, stands_here c.args.spec.now c.args.asked.now c.args.before.now c.args.cut.now c.args.after.now c.in-Some.here c.requires.fits passes, c.requires.fits.onward)

pub returns : goal.returns
returns c =
    let passes = rw c.in-Some.is at c.in_ok-found.ensures in
    let back = rw c.new-earlier.ensures.items at c.in_ok-source.ensures.way in
    let on = rw c.new-later.ensures.items at c.in_ok-end.ensures.way in
    record {
      held = c.in_ok-source.ensures.held;
      admitted = c.in_ok-end.ensures.admitted;
      alone = c.in_ok-end.ensures.alone;
      colours = c.in_ok-end.ensures.colours;
      late = c.in_ok-end.ensures.late;
      here = state_of c.in-Some.here.state;
      answers = passes.1;
      left = back;
      right = on;
    }
