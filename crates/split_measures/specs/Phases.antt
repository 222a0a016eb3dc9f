-- The numbers of phases, as counts and sums over whole services and whole cycles.
use Rattle.std.specs.Prelude.{ℕ, ◌+◌, ◌-◌, Bool, true, false, if◌then◌else◌, None, List, map, length, sum, count_by}
use Rattle.sig_base.specs.declared.values.PhaseItem.{PhaseItem}
use Rattle.sig_base.specs.Numbers.{has_phase}
use Rattle.service_cut.specs.declared.items.Service.{Service}
use Rattle.service_cut.specs.declared.items.Cycle.{Cycle}
use Rattle.service_cut.specs.declared.items.Termination.{Termination}
use Rattle.service_cut.specs.declared.items.Termination.TheVariants.{GapOut, MaxOut, ForceOff, Unlogged}
use Rattle.hour_sweep.specs.Sums.{capped, lesser, greater, least, greatest, own, by_number}
use Rattle.split_measures.specs.declared.sums.PhaseSum.{PhaseSum}

-- both greens ended for the same reason
abbrev pub is_end : Termination → Termination → Bool
is_end GapOut GapOut = true
is_end MaxOut MaxOut = true
is_end ForceOff ForceOff = true
is_end Unlogged Unlogged = true
is_end _ _ = false

-- 1 where the green of the service ended so, else 0
abbrev pub ends_by : Termination → Service → ℕ
ends_by e s = if is_end e s.end then 1 else 0

-- the split of a service: the tenths from its begin of green to its end of yellow, without red clearance
abbrev pub split : Service → ℕ
split s = s.r - s.b

-- the length of a cycle in tenths
abbrev pub cycle_length : Cycle → ℕ
cycle_length c = c.to - c.from

-- the numbers of these services and cycles of one phase
unfoldable pub phase_sum_of : List Service → List Cycle → PhaseSum
phase_sum_of ss cs = record {
  services = capped (length ss);
  least = least (map split ss);
  greatest = greatest (map split ss);
  sum = capped (sum (map split ss));
  gap_out = capped (count_by (λ s. is_end GapOut s.end) ss);
  max_out = capped (count_by (λ s. is_end MaxOut s.end) ss);
  force_off = capped (count_by (λ s. is_end ForceOff s.end) ss);
  unlogged = capped (count_by (λ s. is_end Unlogged s.end) ss);
  cycles = capped (length cs);
  cycle_sum = capped (sum (map cycle_length cs));
}

-- the numbers of a phase in two parts of a log together
abbrev pub added : PhaseSum → PhaseSum → PhaseSum
added a b = record {
  services = capped (a.services + b.services);
  least = lesser a.least b.least;
  greatest = greater a.greatest b.greatest;
  sum = capped (a.sum + b.sum);
  gap_out = capped (a.gap_out + b.gap_out);
  max_out = capped (a.max_out + b.max_out);
  force_off = capped (a.force_off + b.force_off);
  unlogged = capped (a.unlogged + b.unlogged);
  cycles = capped (a.cycles + b.cycles);
  cycle_sum = capped (a.cycle_sum + b.cycle_sum);
}

-- the services of phase p among these
abbrev pub services_of : ℕ → List Service → List Service
services_of p ss = own (λ s. s.phase) p ss

-- the cycles of phase p among these
abbrev pub cycles_of : ℕ → List Cycle → List Cycle
cycles_of p cs = own (λ c. c.phase) p cs

-- the numbers of phase p
abbrev pub phase_sum : List Service → List Cycle → ℕ → PhaseSum
phase_sum ss cs p = phase_sum_of (services_of p ss) (cycles_of p cs)

-- the numbers of each phase, by number; a phase has a number from 1 to 16
abbrev pub phase_sums : List PhaseItem → List Service → List Cycle → List PhaseSum
phase_sums phases ss cs = by_number (has_phase phases) (phase_sum ss cs) 17

-- the numbers of no services and no cycles
abbrev pub zero_sum : PhaseSum
zero_sum = record { services = 0; least = None; greatest = None; sum = 0; gap_out = 0; max_out = 0; force_off = 0; unlogged = 0; cycles = 0; cycle_sum = 0 }
