use Rattle.std.proofs.Common.{arith, refl, rules, w64}
use Rattle.std.specs.Prelude.{FitsSigned}
use Rattle.std.proofs.lemmas.Int.{ints, to_z-of_z}
use Rattle.reach.specs.Runs.{state}
use Rattle.reach.proofs.Alone.{holds_single}
use Rattle.channel_path.proofs.sure.single_after.Goals as goal

pub row_single-requires-clause-place : goal.row_single-requires-clause-place
row_single-requires-clause-place g c =
    let o = c.args.one in
    let early = c.requires.place (state o.colour o.entry) ((holds_single o c.requires.single (state o.colour o.entry)).1 (refl, refl)) in
    let before = rw c.in-Letter.is at early in
    let at = c.from.ensures in
    let fits : FitsSigned w64 c.from.result = search rules in
    simp to_z-of_z (omega (arith, ints))
