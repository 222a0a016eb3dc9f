use Rattle.std.proofs.Common.{sym, subst, List}
use Rattle.span_set.specs.declared.set.Span.{Span}
use Rattle.channel_path.specs.Walks.{EnteredBefore}
use Rattle.lost_rows.proofs.Starting.{first_before}
use Rattle.lost_rows.proofs.explain.pasts_up_to.Goals as goal

pub returns-clause-entered : goal.returns-clause-entered
returns-clause-entered g c =
    let early = subst (λ (z : List (List Span)). EnteredBefore z c.args.from) (sym c.in_ok-first.ensures) c.requires.entered in
    c.in_ok-walk_pasts.ensures.entered c.args.from (first_before c.in_ok-pasts.pasts c.in_ok-first.first c.args.from c.in_ok-pasts.ensures.states early) c.requires.order c.requires.end
