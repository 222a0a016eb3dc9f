use Rattle.std.proofs.Common.{ℕ, [], take}
use Rattle.signal_log.specs.Log.{Log}
use Rattle.stop_bar.specs.All.{IsPlaceOf, bars_of}
use Rattle.stop_bar.specs.Bars.{IsAtBar}
use Rattle.stop_bar.specs.Lists.{Each}
use Rattle.stop_bar.proofs.all.AtBars.start.Given as goal

abbrev pub invariant-loop-place : goal.invariant-loop-place
invariant-loop-place l = (log : Log) → Each (λ b at. (i : ℕ) → IsPlaceOf l.config b i → IsAtBar log i l.config.phases b.phase [] 0 at) (take l._place (bars_of l.config.approaches)) l.bars.items
