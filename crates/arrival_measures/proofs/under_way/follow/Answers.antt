use Rattle.std.proofs.Common.{◌∙◌, ◌++◌, List, ap, subst, sym}
use Rattle.sig_base.specs.declared.values.Row.{Row}
use Rattle.hour_sweep.specs.Hours.{AreOrdered}
use Rattle.arrival_measures.specs.Opens.{open_at}
use Rattle.arrival_measures.proofs.Between.{within_ordered}
use Rattle.arrival_measures.proofs.under_way.follow.Goals as goal

pub returns : goal.returns
returns c = λ a b earlier or le e lo h.
    let is = c.rows_between.ensures a b or in
    let order = subst (λ (zs : List Row). AreOrdered c.args.at c.args.to zs) (sym is) (within_ordered a b c.args.at c.args.to c.args.rows.now or le) in
    c.over.ensures earlier order e lo h ∙ ap (λ (zs : List Row). open_at c.args.phase c.args.detector c.args.begun.from c.args.to (earlier ++ zs)) is
