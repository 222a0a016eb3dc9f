use Rattle.std.proofs.Common.{◌≡◌, ◌+◌, ◌<◌, ℕ, get_or, length}
use Rattle.hour_work.specs.Numbers.{Numbers, block, patched, total_of}
use Rattle.hour_work.proofs.reported.blocks_with.Given as goal

abbrev pub invariant-loop-place : goal.invariant-loop-place
invariant-loop-place l = record {
  size : l.first + length l.blocks.items ≡ l.place;
  each : (i : ℕ) (d : Numbers) → i < length l.blocks.items → get_or l.blocks.items i d ≡ total_of (block (l.first + i) (patched l.hours l.from l.parts));
}
