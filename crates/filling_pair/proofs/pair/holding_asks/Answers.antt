use Rattle.std.proofs.Common.{refl}
use Rattle.filling_pair.proofs.Holding.{holding_more}
use Rattle.filling_pair.proofs.pair.holding_asks.Goals as goal

pub loop-term-preserved : goal.loop-term-preserved
loop-term-preserved c =
    let lt = c.loop-term-test.true in
    holding_more c.args.spec c.args.terms.now c.loop-term.term-index _ c.term-item.result c.loop-term.asks.items c.push.new.self.items _ lt c.term-item.is c.in_ok-push.ensures.items ((refl, refl, refl, c.colours_for.ensures.own, c.colours_for.ensures.other), tt) c.loop-term.invariant
