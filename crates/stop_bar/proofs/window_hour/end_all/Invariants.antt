use Rattle.std.proofs.Common.{◌≡◌, ℕ, take}
use Rattle.signal_log.specs.Log.{Log}
use Rattle.detector_state.specs.Hours.{TellsEach}
use Rattle.stop_bar.specs.Windows.{AreEnded, ArePending, EndIn, services_of}
use Rattle.stop_bar.proofs.window_hour.end_all.Given as goal

abbrev pub invariant-loop-one : goal.invariant-loop-one
invariant-loop-one l = record {
  services : services_of l.ended.items ≡ services_of (take l.one-index l.pending);
  numbers : (log : Log) (i : ℕ) → TellsEach log i l.hour.first l.hour.end l.switched → EndIn l.hour.first l.hour.end l.pending → ArePending log i l.hour.first l.pending → AreEnded log i l.ended.items;
}
