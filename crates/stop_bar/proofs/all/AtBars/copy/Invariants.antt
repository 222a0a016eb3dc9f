use Rattle.std.proofs.Common.{◌≡◌, take}
use Rattle.stop_bar.proofs.all.AtBars.copy.Given as goal

abbrev pub invariant-loop-bar : goal.invariant-loop-bar
invariant-loop-bar l = l.bars.items ≡ take l.bar-index l.bar-items
