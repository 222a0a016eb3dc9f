-- The numbers of one service or of one cycle.
use Rattle.std.proofs.Common.{◌≡◌, ℕ, ◌+◌, ◌^◌, ◌<◌, Bool, true, false, cond, [], ◌∷◌, Some, None, sum, refl, arith}
use Rattle.std.specs.Prelude.{count_by}
use Rattle.service_cut.specs.declared.items.Service.{Service}
use Rattle.service_cut.specs.declared.items.Cycle.{Cycle}
use Rattle.service_cut.specs.declared.items.Termination.TheVariants.{GapOut, MaxOut, ForceOff, Unlogged}
use Rattle.hour_sweep.specs.Sums.{capped}
use Rattle.hour_sweep.proofs.SumCommon.{capped_none, capped_one}
use Rattle.split_measures.specs.Phases.{is_end, ends_by, split, cycle_length, phase_sum_of}

sum_one : (n : ℕ) → n < 2 ^ 32 → capped (sum (n ∷ [])) ≡ n
unfolding capped
sum_one n lt = omega arith

count_if : (v : Bool) → capped (0 + cond v 1 0) ≡ cond v 1 0
unfolding capped
count_if true = omega arith
count_if false = omega arith

pub count_one : {X : Type 0} (p : X → Bool) (x : X) → capped (count_by p (x ∷ [])) ≡ cond (p x) 1 0
count_one p x = count_if (p x)

pub one_service : (s : Service) (n m a b c d : ℕ) → n ≡ split s → m ≡ n → n < 2 ^ 32 → a ≡ ends_by GapOut s → b ≡ ends_by MaxOut s → c ≡ ends_by ForceOff s → d ≡ ends_by Unlogged s → record { services = 1; least = Some n; greatest = Some n; sum = m; gap_out = a; max_out = b; force_off = c; unlogged = d; cycles = 0; cycle_sum = 0 } ≡ phase_sum_of (s ∷ []) []
unfolding phase_sum_of
one_service s n m a b c d e f lt ea eb ec ed =
    rw (ea, eb, ec, ed, f, e) (rw (
      count_one (λ (x : Service). is_end GapOut x.end) s,
      count_one (λ (x : Service). is_end MaxOut x.end) s,
      count_one (λ (x : Service). is_end ForceOff x.end) s,
      count_one (λ (x : Service). is_end Unlogged x.end) s,
      sum_one (split s) (rw e at lt),
      capped_one,
      capped_none,
    ) refl)

pub one_cycle : (c : Cycle) (n : ℕ) → n ≡ cycle_length c → n < 2 ^ 32 → record { services = 0; least = None; greatest = None; sum = 0; gap_out = 0; max_out = 0; force_off = 0; unlogged = 0; cycles = 1; cycle_sum = n } ≡ phase_sum_of [] (c ∷ [])
unfolding phase_sum_of
one_cycle c n e lt = rw e (rw (sum_one (cycle_length c) (rw e at lt), capped_one, capped_none) refl)
