use Rattle.std.proofs.Common.{◌≡◌, ◌<◌, ℕ, true}
use Rattle.gap_map.specs.Stretches.{known_at}
use Rattle.board.specs.Verdicts.{MayPass}
use Rattle.detector_state.specs.States.{AllHave}
use Rattle.detector_state.proofs.state_asked.is_open.Given as goal

abbrev pub invariant-loop-colour : goal.invariant-loop-colour
invariant-loop-colour l = known_at l.view.stretches l.at ≡ true → (c : ℕ) → c < l.colour → AllHave (MayPass l.view l.at l.spec) c → ⊥
