use Rattle.std.proofs.lemmas.Int.{to_z-of_z}
use Rattle.gap_ways.proofs.rounds.rounds_of.Goals as goal

pub returns-clause-rounds : goal.returns-clause-rounds
returns-clause-rounds g c = let rf = c.ranges.from in let rt = c.ranges.to in simp to_z-of_z at c.in_ok-tables.ensures.rounds
