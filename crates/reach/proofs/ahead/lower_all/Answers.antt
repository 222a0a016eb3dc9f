use Rattle.std.proofs.Common.{arith, ◌<◌, ◌↔◌, ℤ, ◌≤ℤ◌, length}
use Rattle.std.proofs.lemmas.Int.{to_z-of_z}
use Rattle.reach.specs.Ahead.{NotLater}
use Rattle.reach.specs.Latest.{entry_of}
use Rattle.reach.proofs.Later.{length_set}
use Rattle.reach.proofs.Entering.{entry_more}
use Rattle.reach.proofs.ahead.lower_all.Goals as goal

pub loop-colour-preserved : goal.loop-colour-preserved
loop-colour-preserved c =
    let r = c.ranges.limit in
    let i = simp to_z-of_z at c.loop-colour.invariant in
    let within : c.loop-colour.colour < length c.loop-colour.new = (let l = i.0 in let b = c.loop-colour-test.true in omega arith) in
    let one = simp to_z-of_z at c.lowered.ensures in
    (length_set _ _ _ i.0, simp to_z-of_z (entry_more (λ k x. (e : ℤ) → NotLater x e ↔ (NotLater (entry_of c.args.latest.now k) e × (e ≤ℤ c.args.limit))) c.loop-colour.new c.loop-colour.colour c.lowered.result within i.1 one))
