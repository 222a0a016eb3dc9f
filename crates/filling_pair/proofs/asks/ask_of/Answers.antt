use Rattle.std.proofs.Common.{arith, sym, subst}
use Rattle.filling_pair.specs.declared.asks.Ask.{Ask}
use Rattle.filling_pair.specs.Asks.{IsAmong}
use Rattle.filling_pair.proofs.Replying.{ask_at, none_before}
use Rattle.filling_pair.proofs.asks.ask_of.Goals as goal

pub returns-then-ask-spec : goal.returns-then-ask-spec
returns-then-ask-spec c =
    let lt = c.loop-ask-test.true in
    (c.if-ask-spec.true, subst (λ (a : Ask). IsAmong a c.args.asks.now) (sym c.ask-item.is) (ask_at c.args.asks.now c.loop-ask.ask-index c.ask-item.result lt))

pub returns : goal.returns
returns c =
    let end = c.loop-ask-test.false in
    none_before c.args.spec c.args.asks.now (λ i d lt. c.loop-ask.invariant i d (omega arith))
