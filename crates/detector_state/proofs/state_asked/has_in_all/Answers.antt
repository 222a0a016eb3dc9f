use Rattle.std.proofs.Common.{refl}
use Rattle.reach.specs.declared.seen.Test.{Test}
use Rattle.reach.specs.declared.seen.AgeBound.TheVariants.{Any}
use Rattle.board.specs.Verdicts.{MayPass}
use Rattle.detector_state.proofs.Asking.{all_have}
use Rattle.detector_state.proofs.state_asked.has_in_all.Goals as goal

pub returns : goal.returns
returns c = λ known.
    let test : Test = record { colours = c.with.result; bound = Any; at = c.from.result } in
    all_have (MayPass c.args.view.now c.args.at c.args.spec) test c.none.result c.args.colour c.seen_at_end-seen.result.some_false refl c.none.ensures c.with.ensures (c.seen_at_end-seen.ensures known).some_false
