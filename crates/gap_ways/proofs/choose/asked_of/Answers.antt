use Rattle.std.proofs.Common.{refl, rules, w64}
use Rattle.std.specs.Prelude.{FitsSigned}
use Rattle.std.proofs.lemmas.Int.{to_z-of_z}
use Rattle.gap_ways.proofs.Asking.{asked_outside}
use Rattle.gap_ways.proofs.choose.asked_of.Goals as goal

pub returns-then-has-clause-asked : goal.returns-then-has-clause-asked
returns-then-has-clause-asked c =
    let fa : FitsSigned w64 c.args.test.now.at = search rules in
    let out = simp to_z-of_z at c.outside.ensures.asked in
    rw c.if-met.false (asked_outside c.args.test.now c.args.colour c.outside.result (c.if-has.ensures.0 refl) out)
