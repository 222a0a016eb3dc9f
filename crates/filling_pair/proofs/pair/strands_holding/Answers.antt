use Rattle.std.proofs.Common.{sym, subst, List}
use Rattle.filling_pair.specs.declared.asks.Ask.{Ask}
use Rattle.filling_pair.specs.Asks.{AreHolding}
use Rattle.filling_pair.proofs.Termed.{holding_fit, keeps_told}
use Rattle.filling_pair.proofs.pair.strands_holding.Goals as goal

pub replies-requires-clause-asks : goal.replies-requires-clause-asks
replies-requires-clause-asks g c =
    let holding = subst (λ (asks : List Ask). AreHolding c.args.one.spec c.args.terms.now asks) (sym c.deref.ensures.value) c.in_ok-asks.ensures in
    holding_fit c.args.specs.now c.args.one.spec c.args.terms.now c.deref.result.now c.requires.clause.within holding

pub returns-clause-shows : goal.returns-clause-shows
returns-clause-shows g c =
    let holding = subst (λ (asks : List Ask). AreHolding c.args.one.spec c.args.terms.now asks) (sym c.deref.ensures.value) c.in_ok-asks.ensures in
    keeps_told c.args.specs.now c.args.store.now c.args.line.now c.args.terms.now c.requires.clause c.args.one c.deref.result.now c.requires.one holding c.replies.result c.replies.ensures.strands
