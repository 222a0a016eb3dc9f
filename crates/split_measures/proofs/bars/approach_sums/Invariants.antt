use Rattle.std.proofs.Common.{◌≡◌, ◌≤◌, ◌+◌, List, length, take}
use Rattle.sig_base.specs.declared.values.Row.{Row}
use Rattle.signal_log.specs.Log.{Log}
use Rattle.stop_bar.specs.Lists.{Each}
use Rattle.stop_bar.specs.All.{AreAllOver, AreAtBars, bar_with, bars_of}
use Rattle.split_measures.specs.Hours.{IsApproachSum, IsLogUpto}
use Rattle.split_measures.proofs.bars.approach_sums.Given as goal

abbrev pub invariant-loop-place : goal.invariant-loop-place
invariant-loop-place l = record {
  count : l.next ≡ length (bars_of (take l.place l.config.approaches));
  low : l.next ≤ l.place;
  done : (log : Log) (upto : List Row) → IsLogUpto log l.config l.hour upto → AreAllOver log l.config l.hour upto l.ended → AreAtBars log l.config upto (l.hour + 1) l.at → Each (λ a sum. IsApproachSum log l.config l.hour upto sum (bar_with a a.stop_bar)) (take l.place l.config.approaches) l.sums.items;
}
