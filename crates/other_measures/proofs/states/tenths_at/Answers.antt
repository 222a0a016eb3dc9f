use Rattle.other_measures.proofs.Seeing.{seen_counted, unseen_counted}
use Rattle.other_measures.proofs.states.tenths_at.Goals as goal

pub returns-in-Some : goal.returns-in-Some
returns-in-Some c = λ cfg. rw c.in-Some.is (seen_counted cfg c.in-Some.seen.now c.args.spec c.args.asked c.tenths_of.result c.from.result c.from.ensures c.tenths_of.ensures)

pub returns-in-None : goal.returns-in-None
returns-in-None c = λ cfg. rw c.in-None.is (unseen_counted cfg c.args.spec c.args.asked)
