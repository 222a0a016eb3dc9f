use Rattle.std.proofs.Common.{rules, w64}
use Rattle.std.specs.Prelude.{FitsSigned}
use Rattle.std.proofs.lemmas.Int.{to_z-of_z}
use Rattle.reach.proofs.Alone.{sees_single}
use Rattle.reach.proofs.seen.seen_single.Goals as goal

pub returns : goal.returns
returns c =
    let f1 : FitsSigned w64 c.args.one.entry = search rules in
    let f2 : FitsSigned w64 c.args.test.now.at = search rules in
    let there = simp to_z-of_z at c.is_there-here.ensures in
    sees_single c.args.one c.args.latest.now c.args.test.now c.is_there-here.result c.is_met-meets.result _ c.requires.single there c.is_met-meets.ensures c.both.ensures c.first_alone.ensures
