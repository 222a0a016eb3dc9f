-- Sets of colours.
use Rattle.std.specs.Prelude.{◌≡◌, ℕ}
use Rattle.std.specs.Int.{bit_at}

-- the colour is in the mask
abbrev pub Has : ℕ → ℕ → Type 0
Has mask c = bit_at mask c ≡ 1
