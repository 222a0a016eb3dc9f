use Rattle.std.proofs.Common.{◌++◌, List, take}
use Rattle.sig_base.specs.declared.values.Row.{Row}
use Rattle.signal_log.specs.Log.{Log}
use Rattle.hour_sweep.specs.Rows.{known_rows}
use Rattle.stop_bar.specs.All.{AreAtBars, AreTold, IsCutHour, bars_of}
use Rattle.stop_bar.proofs.AllBars.{AreDone}
use Rattle.stop_bar.proofs.all.bars_hour.Given as goal

abbrev pub invariant-loop-place : goal.invariant-loop-place
invariant-loop-place l = (log : Log) (before rows : List Row) → IsCutHour log l.config l.hour before rows l.cuts → AreTold log l.config l.hour l.detectors → AreAtBars log l.config before l.hour l.fn.at → AreDone log l.config l.hour (before ++ known_rows log.known rows) (take l.place (bars_of l.config.approaches)) l.ended.items l.after.items
