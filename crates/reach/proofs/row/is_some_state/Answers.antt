use Rattle.std.proofs.Common.{refl}
use Rattle.reach.proofs.States.{held_at}
use Rattle.reach.proofs.row.is_some_state.Goals as goal

pub returns-in-Some : goal.returns-in-Some
returns-in-Some c = (λ _. held_at c.args.sets.now c.loop-set.set-index c.set-item.result c.in-Some._least c.loop-set-test.true c.set-item.is c.in-Some.ensures.0, λ _. refl)
