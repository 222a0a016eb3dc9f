-- How much of a stretch is known.
use Rattle.std.specs.Prelude.{ℕ, ◌-◌, if◌then◌else◌}
use Rattle.gap_map.specs.declared.stretch.Stretch.{Stretch}

-- how many tenths of the stretch are known: all of them or none
abbrev pub known_len : Stretch → ℕ
known_len s = if s.known then s.to - s.from else 0
