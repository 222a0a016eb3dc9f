use Rattle.std.proofs.Common.{◌≡◌, ◌<◌, ℕ, Option, length, get_or}
use Rattle.std.specs.Prelude.{option_copied}
use Rattle.board.specs.Logs.{HourLog}
use Rattle.detector_state.specs.declared.state_asked.Asked.TheVariants.{Colour}
use Rattle.other_measures.specs.States.{HasTenths, IsWhatIsSeen, MetBy, coordination}
use Rattle.other_measures.proofs.coordination_sums.state_tenths.Given as goal

abbrev pub invariant-loop-state : goal.invariant-loop-state
invariant-loop-state l = record {
  len : length l.all ≡ 7;
  tenths : (log : Option HourLog) (first : ℕ) → IsWhatIsSeen l.config (option_copied l.seen) log first → (q : ℕ) → q < l.state → HasTenths (MetBy log) first l.config coordination (Colour q) (get_or l.all q 0);
}
