use Rattle.std.proofs.Common.{arith}
use Rattle.std.specs.Prelude.{option_copied}
use Rattle.example_hours.proofs.Between.{opened_between}
use Rattle.example_hours.proofs.wanted.has_points.Goals as goal

pub phase_points-requires-clause-in_range : goal.phase_points-requires-clause-in_range
phase_points-requires-clause-in_range c =
    let few = c.requires.has_hour.is_store.few in
    let lt = c.requires.has_hour.within in
    omega arith

pub phase_points-requires-clause-agrees : goal.phase_points-requires-clause-agrees
phase_points-requires-clause-agrees c =
    let s = c.args.store.now in
    (s, opened_between c.args.config.now s c.args.hour c.args.between.now.before.now (option_copied c.opened-rows.result) c.blanked-blanked.result.now c.args.between.now.after.now c.opened-rows.ensures.rows c.blanked-blanked.ensures.value c.requires)
