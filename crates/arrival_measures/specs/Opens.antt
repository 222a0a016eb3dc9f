-- What a cycle that has begun gives up to a tenth.
use Rattle.std.specs.Prelude.{ℕ, false, List}
use Rattle.sig_base.specs.declared.values.Row.{Row}
use Rattle.hour_sweep.specs.Sums.{capped}
use Rattle.arrival_measures.specs.declared.open.Open.{Open}
use Rattle.arrival_measures.specs.Arrivals.{rows_within}
use Rattle.arrival_measures.specs.Green.{arrivals_in, green_arrivals_in, green_tenths_in, greens}

-- what a cycle of phase p that began at tenth a has given up to tenth b at detector d
unfoldable pub open_at : ℕ → ℕ → ℕ → ℕ → List Row → Open
open_at p d a b rows = record {
  from = a;
  arrivals = capped (arrivals_in d a b rows);
  green = capped (green_arrivals_in p d a b rows);
  green_tenths = green_tenths_in p a b rows;
  is_green = greens p false (rows_within a b rows);
}
