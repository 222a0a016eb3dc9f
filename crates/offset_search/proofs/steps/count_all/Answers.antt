use Rattle.std.proofs.Common.{◌<◌, ◌^◌, length, arith}
use Rattle.offset_search.proofs.Counts.{counts_are}
use Rattle.offset_search.proofs.steps.count_all.Goals as goal

pub returns : goal.returns
returns c =
    let fits : length c.args.arrivals.now < 2 ^ 64 = omega arith in
    counts_are c.args.arrivals.now c.add_all.new.steps c.sum_up.new.steps (length c.args.counts.now) fits c.add_all.ensures c.add_all.auto.steps (omega arith) c.sum_up.ensures
