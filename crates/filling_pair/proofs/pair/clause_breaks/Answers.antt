use Rattle.std.proofs.Common.{sym, ◌∙◌, subst, List}
use Rattle.filling_pair.specs.declared.asks.Ask.{Ask}
use Rattle.filling_pair.specs.Asks.{FitAsks, LacksReply, ReplyAll}
use Rattle.filling_pair.proofs.Termed.{breaks_lacks, breaks_shows, failing_fit}
use Rattle.filling_pair.proofs.pair.clause_breaks.Goals as goal

pub replies-requires-clause-asks : goal.replies-requires-clause-asks
replies-requires-clause-asks g c =
    let same = c.deref.ensures.value ∙ c.in_ok-asks.ensures in
    subst (λ (asks : List Ask). FitAsks c.args.specs.now asks) (sym same) (failing_fit c.args.specs.now c.args.terms.now c.requires.within)

pub unreachable-requires : goal.unreachable-requires
unreachable-requires g c =
    let same = c.deref.ensures.value ∙ c.in_ok-asks.ensures in
    let lacks = rw c.in-None.is at c.in_ok-strands.ensures.strands in
    breaks_lacks c.args.specs.now c.args.store.now c.args.line.now c.args.terms.now c.requires (subst (λ (asks : List Ask). LacksReply c.args.specs.now c.args.store.now c.args.line.now asks) same lacks)

pub returns-clause-shows : goal.returns-clause-shows
returns-clause-shows g c =
    let same = c.deref.ensures.value ∙ c.in_ok-asks.ensures in
    let all = rw c.in-Some.is at c.in_ok-strands.ensures.strands in
    breaks_shows c.args.specs.now c.args.store.now c.args.line.now c.args.terms.now c.requires c.in-Some.strands (subst (λ (asks : List Ask). ReplyAll c.args.specs.now c.args.store.now c.args.line.now asks c.in-Some.strands) same all)
