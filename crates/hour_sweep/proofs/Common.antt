-- Lemmas that several crates use.
use Rattle.std.proofs.Common.{◌≡◌, ℕ, ◌+◌, arith}
use Rattle.hour_sweep.specs.Hours.{point}

pub next_point : (k : ℕ) → point k + 36000 ≡ point (k + 1)
next_point k = omega arith
