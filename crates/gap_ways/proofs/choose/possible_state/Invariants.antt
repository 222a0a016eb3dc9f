use Rattle.std.proofs.Common.{◌<◌}
use Rattle.reach.specs.Runs.{State}
use Rattle.gap_ways.specs.Choices.{IsAnswer}
use Rattle.gap_ways.proofs.choose.possible_state.Given as goal

abbrev pub invariant-loop-colour : goal.invariant-loop-colour
invariant-loop-colour g l = (s : State) → s.colour < l.colour → IsAnswer l.past l.ahead l.met l.test s → ⊥
