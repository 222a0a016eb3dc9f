use Rattle.std.proofs.lemmas.Int.{to_z-of_z}
use Rattle.reach.proofs.Later.{lower_table}
use Rattle.reach.proofs.ahead.Ahead.lower.Goals as goal

pub invariant_of-self : goal.invariant_of-self
invariant_of-self c =
    let r = c.ranges.limit in
    lower_table c.args.limit c.self.inside.colours c.self.inside.latest c.lower_all-self-inside.result (simp to_z-of_z at c.lower_all-self-inside.ensures) c.self.invariant
