use Rattle.arrival_measures.proofs.Knowing.{told_in}
use Rattle.arrival_measures.proofs.judged.has_at.Goals as goal

pub returns-then-at-stretch-2 : goal.returns-then-at-stretch-2
returns-then-at-stretch-2 c = λ yes known a b are lo. told_in known a b c.args.at c.args.stretches.now c.args.place are c.if-place-stretches.false c.if-at-stretch.false c.if-at-stretch-2.true
