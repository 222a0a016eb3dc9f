use Rattle.std.proofs.Common.{arith}
use Rattle.std.specs.Prelude.{option_copied}
use Rattle.std.proofs.lemmas.Result.{IfOk-weaker}
use Rattle.example_hours.proofs.Between.{has_opened}
use Rattle.example_hours.proofs.points.carried.Goals as goal

pub forward-requires-clause-in_range : goal.forward-requires-clause-in_range
forward-requires-clause-in_range c =
    let few = c.blanked.ensures.store.few in
    let lt = c.requires.within in
    omega arith

pub forward-requires-clause-fit : goal.forward-requires-clause-fit
forward-requires-clause-fit c =
    let pasts = c.requires.before.pasts in
    record { shape = pasts.shape; early = pasts.early }

pub returns : goal.returns
returns c =
    let s = c.args.store.now in
    let has = has_opened s c.args.hour (option_copied c.opened-rows.result) c.blanked.result.now c.blanked.ensures.store c.requires.within c.opened-rows.ensures.rows c.blanked.ensures.value in
    IfOk-weaker c.forward.result _ _ (λ v h. h s has c.requires.before) c.forward.ensures.carry
