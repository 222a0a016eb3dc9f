-- Lemmas that several crates use.
use Rattle.std.proofs.Common.{◌≡◌, arith}
use Rattle.hour_sweep.specs.Sums.{capped}

pub capped_zero : 0 ≡ capped 0
unfolding capped
capped_zero = omega arith

pub capped_none : capped 0 ≡ 0
unfolding capped
capped_none = omega arith

pub capped_one : capped 1 ≡ 1
unfolding capped
capped_one = omega arith
