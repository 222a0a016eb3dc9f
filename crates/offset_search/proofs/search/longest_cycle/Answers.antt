use Rattle.std.proofs.Common.{◌≡◌, rules, arith}
use Rattle.offset_search.specs.Shifted.{longest}
use Rattle.offset_search.proofs.Counts.{longest_few}
use Rattle.offset_search.proofs.search.longest_cycle.Goals as goal

pub returns-clause-few : goal.returns-clause-few
returns-clause-few c =
    let value : c.fold.result ≡ longest c.args.arrivals.now = search rules in
    omega (arith, longest_few c.args.arrivals.now c.requires)
