use Rattle.std.proofs.Common.{◌<◌, length, arith}
use Rattle.std.specs.Prelude.{option_copied}
use Rattle.std.proofs.lemmas.Result.{IfOk-weaker}
use Rattle.example_hours.proofs.Between.{has_opened}
use Rattle.example_hours.proofs.points.future_between.Goals as goal

pub returns : goal.returns
returns c =
    let s = c.args.store.now in
    let two = c.requires.stored in
    let lt : 1 < length s.hours = omega arith in
    let has = has_opened s 1 (option_copied c.opened-rows.result) c.blanked.result.now c.requires.is_store lt c.opened-rows.ensures.rows c.blanked.ensures.value in
    IfOk-weaker c.backward.result _ _ (λ v h. h s has c.in_ok-end.ensures) c.backward.ensures.future
