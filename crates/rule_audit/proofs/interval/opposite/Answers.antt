use Rattle.rule_audit.proofs.Judging.{least_opposite, most_opposite}
use Rattle.rule_audit.proofs.interval.opposite.Goals as goal

pub returns-in-AtLeast : goal.returns-in-AtLeast
returns-in-AtLeast c =
    let bound = rw c.in-AtLeast.is at c.requires in
    rw c.in-AtLeast.is (least_opposite c.in-AtLeast.age bound.0)

pub returns-in-AtMost : goal.returns-in-AtMost
returns-in-AtMost c = rw c.in-AtMost.is (most_opposite c.in-AtMost.age)
