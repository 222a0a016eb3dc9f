use Rattle.std.proofs.Common.{arith, ◌<◌, ◌↔◌, ℤ, length}
use Rattle.reach.specs.Ahead.{NotLater}
use Rattle.reach.specs.Latest.{entry_of}
use Rattle.reach.proofs.Later.{length_set}
use Rattle.reach.proofs.Entering.{entry_more}
use Rattle.reach.proofs.before_keep.meet_all.Goals as goal

pub loop-colour-preserved : goal.loop-colour-preserved
loop-colour-preserved c =
    let i = c.loop-colour.invariant in
    let within : c.loop-colour.colour < length c.loop-colour.new = (let l = i.0 in let b = c.loop-colour-test.true in omega arith) in
    (length_set _ _ _ i.0, entry_more (λ k x. (e : ℤ) → NotLater x e ↔ (NotLater (entry_of c.args.latest.now k) e × NotLater (entry_of c.args.limits.now k) e)) c.loop-colour.new c.loop-colour.colour c.meet_one.result within i.1 c.meet_one.ensures)
