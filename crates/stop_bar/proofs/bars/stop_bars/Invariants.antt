use Rattle.std.proofs.Common.{◌≡◌, true, take}
use Rattle.std.specs.Prelude.{All}
use Rattle.sig_base.specs.Numbers.{has_phase}
use Rattle.stop_bar.specs.All.{bars_of}
use Rattle.stop_bar.proofs.bars.stop_bars.Given as goal

abbrev pub invariant-loop-place : goal.invariant-loop-place
invariant-loop-place l = record {
  bars : l.bars.items ≡ bars_of (take l.place l.config.approaches);
  phases : All (λ b. has_phase l.config.phases b.phase ≡ true) l.bars.items;
}
