use Rattle.std.proofs.Common.{refl}
use Rattle.reach.specs.declared.seen.Test.{Test}
use Rattle.reach.specs.declared.seen.AgeBound.TheVariants.{Any}
use Rattle.board.specs.Verdicts.{MayPass}
use Rattle.arrival_measures.proofs.Counting.{says}
use Rattle.arrival_measures.proofs.judged.seen.Goals as goal

pub returns : goal.returns
returns c = λ log test is known mask.
    let asked : Test = record { colours = c.args.colours; bound = Any; at = c.from.result } in
    let sees = (rw is.same at c.seen_from.ensures) known in
    says test (MayPass log c.args.at c.args.spec) asked c.seen_from.result.0 refl mask sees.some_true sees.some_false
