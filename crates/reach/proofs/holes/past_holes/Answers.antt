use Rattle.std.proofs.lemmas.Int.{to_z-of_z}
use Rattle.reach.proofs.holes.past_holes.Goals as goal

pub returns-clause-earliest : goal.returns-clause-earliest
returns-clause-earliest g c =
    let rf = c.ranges.from in let rt = c.ranges.to in
    simp to_z-of_z at c.arrivals.ensures.earliest

pub returns-clause-bounded : goal.returns-clause-bounded
returns-clause-bounded g c =
    let rf = c.ranges.from in let rt = c.ranges.to in
    simp to_z-of_z at c.arrivals.ensures.bounded
