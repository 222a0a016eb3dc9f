use Rattle.std.proofs.Common.{◌≡◌, ℕ, ◌<◌, length, get_or}
use Rattle.ring_config.specs.Settings.{floor_of}
use Rattle.ring_config.proofs.channels.floors_of.Given as goal

abbrev pub invariant-loop-colour : goal.invariant-loop-colour
invariant-loop-colour l = record {
  len : length l.tenths ≡ 16;
  filled : (k : ℕ) → k < l.colour → get_or l.tenths k 0 ≡ floor_of l.floors l.spec k;
}
