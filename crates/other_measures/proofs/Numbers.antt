-- Numbers of one list after another.
use Rattle.std.proofs.Common.{◌≡◌, ℕ, ◌+◌, List, ◌++◌, refl, ap, sym, ◌∙◌, arith}
use Rattle.std.proofs.lemmas.List.Elements.{filter_map-append}
use Rattle.hour_sweep.specs.Sums.{capped}
use Rattle.hour_sweep.proofs.Adding.{length-add, sum-add, count-add, greatest-append}
use Rattle.hour_sweep.proofs.SumPlaces.{own-append}
use Rattle.other_measures.specs.declared.peds.Delay.{Delay}
use Rattle.other_measures.specs.declared.preempts.PreemptEvent.{PreemptEvent}
use Rattle.other_measures.specs.Sums.{ran, is_not_begun, is_partial, waits, ped_sum_of, ped_added, delay_in, dwell_in, is_entry_event, is_late_entry, is_late_exit, preempt_delays, preempt_dwells, preempt_sum_of, preempt_added, delays_of, events_of}

capped_both : 0 ≡ capped (0 + 0)
unfolding capped
capped_both = omega arith

pub ped_sums-append : (ds more : List Delay) → ped_sum_of (ds ++ more) ≡ ped_added (ped_sum_of ds) (ped_sum_of more)
unfolding ped_sum_of
ped_sums-append ds more =
    rw (
      length-add ds more,
      count-add (λ (d : Delay). is_not_begun d.wait) ds more,
      count-add (λ (d : Delay). is_partial d.wait) ds more,
      filter_map-append (λ (d : Delay). ran d.wait) ds more,
      length-add (waits ds) (waits more),
      sum-add (waits ds) (waits more),
      greatest-append (waits ds) (waits more),
      sym capped_both,
    ) refl

pub preempt_sums-append : (es more : List PreemptEvent) → preempt_sum_of (es ++ more) ≡ preempt_added (preempt_sum_of es) (preempt_sum_of more)
unfolding preempt_sum_of
preempt_sums-append es more =
    rw (
      count-add (λ (e : PreemptEvent). is_entry_event e.event) es more,
      count-add (λ (e : PreemptEvent). is_late_entry e.event) es more,
      count-add (λ (e : PreemptEvent). is_late_exit e.event) es more,
      filter_map-append (λ (e : PreemptEvent). delay_in e.event) es more,
      filter_map-append (λ (e : PreemptEvent). dwell_in e.event) es more,
      length-add (preempt_delays es) (preempt_delays more),
      length-add (preempt_dwells es) (preempt_dwells more),
      sum-add (preempt_delays es) (preempt_delays more),
      sum-add (preempt_dwells es) (preempt_dwells more),
      sym capped_both,
    ) refl

pub ped_numbers_add : (p : ℕ) (ds more : List Delay) → ped_sum_of (delays_of p (ds ++ more)) ≡ ped_added (ped_sum_of (delays_of p ds)) (ped_sum_of (delays_of p more))
ped_numbers_add p ds more = ap (λ zs. ped_sum_of zs) (own-append (λ (d : Delay). d.ped) p ds more) ∙ ped_sums-append (delays_of p ds) (delays_of p more)

pub preempt_numbers_add : (p : ℕ) (es more : List PreemptEvent) → preempt_sum_of (events_of p (es ++ more)) ≡ preempt_added (preempt_sum_of (events_of p es)) (preempt_sum_of (events_of p more))
preempt_numbers_add p es more = ap (λ zs. preempt_sum_of zs) (own-append (λ (e : PreemptEvent). e.preempt) p es more) ∙ preempt_sums-append (events_of p es) (events_of p more)
