-- The numbers of one delay, of one entry and of one exit.
use Rattle.std.proofs.Common.{◌≡◌, ℕ, ◌^◌, ◌<◌, [], ◌∷◌, Option, Some, None, sum, refl, ap, arith}
use Rattle.hour_sweep.specs.Sums.{capped}
use Rattle.hour_sweep.proofs.Adding.{capped_small}
use Rattle.hour_sweep.proofs.SumCommon.{capped_none, capped_one}
use Rattle.other_measures.specs.declared.peds.Delay.{Delay}
use Rattle.other_measures.specs.declared.preempts.PreemptEvent.{PreemptEvent}
use Rattle.other_measures.specs.declared.sums.PedSum.{PedSum}
use Rattle.other_measures.specs.declared.sums.PreemptSum.{PreemptSum}
use Rattle.other_measures.specs.declared.last_rows.Lapse.{Lapse}
use Rattle.other_measures.specs.declared.last_rows.Lapse.TheVariants.{Ran, NotBegun, Partial}
use Rattle.other_measures.specs.declared.preempts.Event.TheVariants.{Entry, Exit}
use Rattle.other_measures.specs.Sums.{ped_sum_of, preempt_sum_of, no_ped_sum, no_preempt_sum, entry_sum, exit_sum}

sum_one : (n : ℕ) → capped (sum (n ∷ [])) ≡ capped n
sum_one n = ap (λ m. capped m) (omega arith)

pub no_delay : no_ped_sum ≡ ped_sum_of []
unfolding ped_sum_of
no_delay = rw capped_none refl

pub no_event : no_preempt_sum ≡ preempt_sum_of []
unfolding preempt_sum_of
no_event = rw capped_none refl

-- what the code has of one delay

pub wait_sum : (z : PedSum) (n m : ℕ) → z ≡ no_ped_sum → m ≡ n → m < 2 ^ 64 → record z { walks = 1; delays = 1; sum = m; greatest = Some n } ≡ record no_ped_sum { walks = 1; delays = 1; sum = capped n; greatest = Some n }
wait_sum z n m e f lt = rw (e, capped_small n (omega arith), f) refl

pub one_wait : (d : Delay) (n : ℕ) → d.wait ≡ Ran n → record no_ped_sum { walks = 1; delays = 1; sum = capped n; greatest = Some n } ≡ ped_sum_of (d ∷ [])
unfolding ped_sum_of
one_wait d n e = rw e (rw (sum_one n, capped_one, capped_none) refl)

pub one_uncalled : (d : Delay) (z : PedSum) → z ≡ no_ped_sum → d.wait ≡ NotBegun → record z { walks = 1; uncalled = 1 } ≡ ped_sum_of (d ∷ [])
unfolding ped_sum_of
one_uncalled d z f e = rw (e, f) (rw (capped_one, capped_none) refl)

pub one_partial : (d : Delay) (z : PedSum) → z ≡ no_ped_sum → d.wait ≡ Partial → record z { walks = 1; partial = 1 } ≡ ped_sum_of (d ∷ [])
unfolding ped_sum_of
one_partial d z f e = rw (e, f) (rw (capped_one, capped_none) refl)

-- what the code has of one entry, and of one exit

pub delay_sum : (z : PreemptSum) (n m : ℕ) → z ≡ no_preempt_sum → m ≡ n → m < 2 ^ 64 → record z { entries = 1; delays = 1; sum = m } ≡ entry_sum (Some n)
delay_sum z n m e f lt = rw (e, capped_small n (omega arith), f) refl

pub dwell_sum : (z : PreemptSum) (n m : ℕ) → z ≡ no_preempt_sum → m ≡ n → m < 2 ^ 64 → record z { dwells = 1; dwell_sum = m } ≡ exit_sum (Ran n)
dwell_sum z n m e f lt = rw (e, capped_small n (omega arith), f) refl

pub one_entry : (x : PreemptEvent) (d : Option ℕ) → x.event ≡ Entry d → entry_sum d ≡ preempt_sum_of (x ∷ [])
unfolding preempt_sum_of
one_entry x None e = rw e (rw (capped_one, capped_none) refl)
one_entry x (Some n) e = rw e (rw (sum_one n, capped_one, capped_none) refl)

pub one_exit : (x : PreemptEvent) (l : Lapse) → x.event ≡ Exit l → exit_sum l ≡ preempt_sum_of (x ∷ [])
unfolding preempt_sum_of
one_exit x (Ran n) e = rw e (rw (sum_one n, capped_one, capped_none) refl)
one_exit x NotBegun e = rw e (rw capped_none refl)
one_exit x Partial e = rw e (rw (capped_one, capped_none) refl)
