use Rattle.std.proofs.Common.{ℕ, take}
use Rattle.hour_store.specs.Store.{Store}
use Rattle.signal_log.specs.Log.{log_of}
use Rattle.detector_state.specs.Hours.{IsSwitched}
use Rattle.stop_bar.specs.Lists.{Each}
use Rattle.stop_bar.specs.All.{IsHourHeld, IsPlaceOf, bars_of}
use Rattle.stop_bar.proofs.detectors.detectors_hour.Given as goal

abbrev pub invariant-loop-bar : goal.invariant-loop-bar
invariant-loop-bar l = (s : Store) → IsHourHeld l.config s l.hour l.courses.rows l.courses.stretches l.pasts → Each (λ b parts. (i : ℕ) → IsPlaceOf l.config b i → IsSwitched (log_of l.config.specs s) i l.hour parts) (take l.bar-index (bars_of l.config.approaches)) l.told.items
