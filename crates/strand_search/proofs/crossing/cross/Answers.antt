use Rattle.sig_base.proofs.Common.{ok_more}
use Rattle.gap_ways.proofs.Finding.{match_more}
use Rattle.strand_search.proofs.Placed.{fits_cut}
use Rattle.strand_search.proofs.Coming.{crossed, none_comes}
use Rattle.strand_search.proofs.crossing.cross.Goals as goal

pub cross_cut-requires-clause-fits : goal.cross_cut-requires-clause-fits
cross_cut-requires-clause-fits g c =
    let part = c.in_ok-part.part in
    rw (c.at.ensures, c.at-2.ensures) (fits_cut c.args.spec.now c.args.store.now c.args.asked.now part.rows.now part.stretches.items c.in_ok-part.ensures.store c.requires.asked c.in_ok-part.ensures.part c.in_ok-cut.cut c.in_ok-cut.ensures c.args.before.now c.args.after.now c.requires.before c.requires.after)

pub returns-clause-way : goal.returns-clause-way
returns-clause-way g c =
    let d = c.args.spec.now in
    let s = c.args.store.now in
    let part = c.in_ok-part.part in
    let is = c.in_ok-part.ensures.store in
    let found = rw (c.at.ensures, c.at-2.ensures) at c.cross_cut.ensures in
    ok_more _ _ c.cross_cut.result (λ r. match_more _ _ _ _ r (none_comes d s c.args.asked.now part.rows.now part.stretches.items is c.requires.asked c.in_ok-part.ensures.part c.in_ok-cut.cut c.in_ok-cut.ensures c.args.before.now c.args.after.now c.requires.before c.requires.after c.requires.spec) (λ way. crossed d s c.args.asked.now part.rows.now part.stretches.items is c.requires.asked c.in_ok-part.ensures.part c.in_ok-cut.cut c.in_ok-cut.ensures c.args.before.now c.args.after.now c.requires.before c.requires.after way)) found
