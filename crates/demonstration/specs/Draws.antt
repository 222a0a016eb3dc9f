-- The draws that the demonstration is made of.
use Rattle.std.specs.Prelude.{◌+◌, ◌*◌, ◌/◌, ◌%◌, ◌^◌, ℕ, zero, suc}

-- the number that follows x in the sequence from which the demonstration is drawn
unfoldable pub next : ℕ → ℕ
next x = (1103515245 * x + 12345) % 2 ^ 31

-- the draw that a number of the sequence gives
abbrev pub drawn : ℕ → ℕ
drawn x = x / 65536

-- the number of this place in the sequence with this start, which has place 0
unfoldable pub number_at : ℕ → ℕ → ℕ
number_at start zero = start
number_at start (suc i) = next (number_at start i)

-- the draw of this place, from 1
abbrev pub draw : ℕ → ℕ → ℕ
draw start i = drawn (number_at start i)
