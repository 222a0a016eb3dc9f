use Rattle.std.proofs.Common.{◌≡◌, drop}
use Rattle.board.specs.Logs.{first_tenth}
use Rattle.detector_state.proofs.Asking.{IsCounted}
use Rattle.detector_state.proofs.state_count.tenths_of.Given as goal

abbrev pub invariant-loop-one : goal.invariant-loop-one
invariant-loop-one l = l.from ≡ first_tenth l.view.hour → IsCounted l.view l.spec l.asked l.from l.at l.count (drop l.one-index l.moves)
