use Rattle.arrival_measures.specs.Steps.{arrival_in, fault_in}
use Rattle.arrival_measures.proofs.Filters.{kept_more}
use Rattle.arrival_measures.proofs.faults.told_apart.Goals as goal

pub loop-one-preserved : goal.loop-one-preserved
loop-one-preserved c = record {
  arrivals = kept_more arrival_in c.args.found.now c.loop-one.one-index _ c.loop-one.arrivals.items c.add_detection.new.arrivals.items c.loop-one-test.true c.loop-one.invariant.arrivals c.in_ok-add_detection.ensures.arrivals;
  faults = kept_more fault_in c.args.found.now c.loop-one.one-index _ c.loop-one.faults.items c.add_detection.new.faults.items c.loop-one-test.true c.loop-one.invariant.faults c.in_ok-add_detection.ensures.faults;
}
