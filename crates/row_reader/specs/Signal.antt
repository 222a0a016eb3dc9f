-- What the identifier of a signal is.
use Rattle.std.specs.Prelude.{◌==◌, ◌&&◌, ◌||◌, not, nat_le, ℕ, Bool, List, length}
use Rattle.std.specs.List.{list_all}

-- the text can be a signal's identifier: 1 to 32 bytes, each a printed character other than a comma or a double quote
abbrev pub is_signal : List ℕ → Bool
is_signal text =
    (nat_le 1 (length text) && nat_le (length text) 32) && list_all (λ b. (nat_le 0x21 b && nat_le b 0x7E) && not (b == 44 || b == 34)) text

-- For contracts alone: a byte that an identifier may have.
abbrev pub is_signal_byte : ℕ → Bool
is_signal_byte b = (nat_le 0x21 b && nat_le b 0x7E) && not (b == 44 || b == 34)
