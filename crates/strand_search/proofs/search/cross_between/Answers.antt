use Rattle.std.proofs.Common.{◌≡◌, ◌+◌, ◌/◌, length, arith, rules}
use Rattle.strand_search.proofs.Pointing.{ahead_here, past_here}
use Rattle.strand_search.proofs.search.cross_between.Goals as goal

pub cross-requires-clause-before : goal.cross-requires-clause-before
cross-requires-clause-before g c = past_here c.args.spec.now c.args.store.now (c.args.asked.now.at / 36000) (c.args.asked.now.at / 36000) c.args.points.now.pasts.items c.index-before.result.now (omega arith) c.requires.points.pasts c.index-before.ensures

pub cross-requires-clause-after : goal.cross-requires-clause-after
cross-requires-clause-after g c =
    let (n, sum, are) = c.requires.points.aheads in
    let size : c.len.result ≡ length c.args.points.now.aheads.items = search rules in
    let last = are.0 in
    ahead_here c.args.spec.now c.args.store.now n _ (c.args.asked.now.at / 36000 + 1) c.args.points.now.aheads.items c.index-after.result.now (omega arith) (omega arith) are c.index-after.ensures
