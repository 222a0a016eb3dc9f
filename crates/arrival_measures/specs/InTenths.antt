-- A cycle at the rows of a tenth that may have more of them.
use Rattle.std.specs.Prelude.{ℕ, ◌+◌, ◌-◌, ◌^◌, min, nat_lt, if◌then◌else◌, List}
use Rattle.sig_base.specs.declared.values.Row.{Row}
use Rattle.hour_sweep.specs.Sums.{capped}
use Rattle.arrival_measures.specs.declared.in_tenth.InTenth.{InTenth}
use Rattle.arrival_measures.specs.Arrivals.{is_on}
use Rattle.arrival_measures.specs.Green.{arrivals_in, green_arrivals_in, green_tenths_in, shows_green, green_after}

-- a cycle of phase p that has begun at tenth a, and detector d, at tenth t, by these rows up to the end of t
unfoldable pub in_tenth : ℕ → ℕ → ℕ → ℕ → List Row → InTenth
in_tenth p d a t rows = record {
  cycle = record {
    from = a;
    arrivals = capped (arrivals_in d a t rows);
    green = capped (green_arrivals_in p d a t rows);
    green_tenths = green_tenths_in p a t rows;
    is_green = shows_green p a rows t;
  };
  at = t;
  arrivals = capped (arrivals_in d t (t + 1) rows);
}

-- its tenth has ended, and those up to t have no rows
unfoldable pub ended : ℕ → InTenth → InTenth
ended t w = record {
  cycle = record {
    from = w.cycle.from;
    arrivals = capped (w.cycle.arrivals + w.arrivals);
    green = capped (w.cycle.green + (if w.cycle.is_green then w.arrivals else 0));
    green_tenths = min (w.cycle.green_tenths + (if w.cycle.is_green then t - w.at else 0)) (2 ^ 32 - 1);
    is_green = w.cycle.is_green;
  };
  at = t;
  arrivals = 0;
}

unfoldable pub moved : ℕ → InTenth → InTenth
moved t w = if nat_lt w.at t then ended t w else w

-- a row of its tenth
unfoldable pub with_row : ℕ → ℕ → InTenth → Row → InTenth
with_row p d w x = record {
  cycle = record w.cycle { is_green = green_after p x w.cycle.is_green };
  at = w.at;
  arrivals = capped (w.arrivals + (if is_on d x then 1 else 0));
}

-- a row of its tenth or of a later one
abbrev pub tenth_after : ℕ → ℕ → InTenth → Row → InTenth
tenth_after p d w x = with_row p d (moved x.at w) x
