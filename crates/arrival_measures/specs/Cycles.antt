-- Arrivals and green in whole cycles.
use Rattle.std.specs.Prelude.{ℕ, ◌-◌, List, map, sum}
use Rattle.sig_base.specs.declared.values.Row.{Row}
use Rattle.hour_sweep.specs.Sums.{capped}
use Rattle.service_cut.specs.declared.items.Cycle.{Cycle}
use Rattle.arrival_measures.specs.Green.{arrivals_in, green_arrivals_in, green_tenths_in}

-- how many tenths a cycle lasts
abbrev pub cycle_tenths : Cycle → ℕ
cycle_tenths c = c.to - c.from

-- what whole cycles of a phase give for one detector: arrivals, those on green, and the tenths of green and of all
pub record CycleNumbers : Type 0 where
  pub arrivals : ℕ
  pub green : ℕ
  pub green_tenths : ℕ
  pub tenths : ℕ

-- the sums over these cycles of phase p, for detector d
unfoldable pub numbers_of : ℕ → ℕ → List Row → List Cycle → CycleNumbers
numbers_of p d rows cs = record {
  arrivals = capped (sum (map (λ c. arrivals_in d c.from c.to rows) cs));
  green = capped (sum (map (λ c. green_arrivals_in p d c.from c.to rows) cs));
  green_tenths = capped (sum (map (λ c. green_tenths_in p c.from c.to rows) cs));
  tenths = capped (sum (map cycle_tenths cs));
}
