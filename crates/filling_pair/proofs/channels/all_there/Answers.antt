use Rattle.filling_pair.proofs.Judged.{one_has}
use Rattle.filling_pair.proofs.channels.all_there.Goals as goal

pub returns-in-Interval : goal.returns-in-Interval
returns-in-Interval c = rw c.in-Interval.is (one_has c.has_strand.result c.in-Interval.item.spec c.args.strands.now c.has_strand.ensures)

pub returns-in-Conflict : goal.returns-in-Conflict
returns-in-Conflict c = rw c.in-Conflict.is (rw c.terms.ensures.terms at c.each_term_has.ensures)

pub returns-in-Companion : goal.returns-in-Companion
returns-in-Companion c = rw c.in-Companion.is (rw c.terms-in-Companion.ensures.terms at c.each_term_has-in-Companion.ensures)

pub returns-in-Parents : goal.returns-in-Parents
returns-in-Parents c = rw c.in-Parents.is (rw c.terms-in-Parents.ensures.terms at c.each_term_has-in-Parents.ensures)
