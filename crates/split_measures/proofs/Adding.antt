-- Numbers of one list after another.
use Rattle.std.proofs.Common.{◌≡◌, ℕ, List, [], ◌∷◌, ◌++◌, map, refl, ap, ap₂, sym, ◌∙◌}
use Rattle.std.proofs.lemmas.List.{append-nil, map-append}
use Rattle.service_cut.specs.declared.items.Service.{Service}
use Rattle.service_cut.specs.declared.items.Cycle.{Cycle}
use Rattle.service_cut.specs.declared.items.Termination.TheVariants.{GapOut, MaxOut, ForceOff, Unlogged}
use Rattle.hour_sweep.proofs.Adding.{length-add, sum-add, count-add, least-append, greatest-append}
use Rattle.hour_sweep.proofs.SumPlaces.{own-append}
use Rattle.split_measures.specs.Phases.{is_end, split, cycle_length, phase_sum_of, added, phase_sum, services_of, cycles_of}

pub sums-append : (ss later : List Service) (cs more : List Cycle) → phase_sum_of (ss ++ later) (cs ++ more) ≡ added (phase_sum_of ss cs) (phase_sum_of later more)
unfolding phase_sum_of
sums-append ss later cs more =
    rw (
      length-add ss later,
      length-add cs more,
      count-add (λ (s : Service). is_end GapOut s.end) ss later,
      count-add (λ (s : Service). is_end MaxOut s.end) ss later,
      count-add (λ (s : Service). is_end ForceOff s.end) ss later,
      count-add (λ (s : Service). is_end Unlogged s.end) ss later,
      map-append split ss later,
      map-append cycle_length cs more,
      sum-add (map split ss) (map split later),
      sum-add (map cycle_length cs) (map cycle_length more),
      least-append (map split ss) (map split later),
      greatest-append (map split ss) (map split later),
    ) refl

pub service_more : (ss : List Service) (s : Service) → phase_sum_of (ss ++ s ∷ []) [] ≡ added (phase_sum_of ss []) (phase_sum_of (s ∷ []) [])
service_more ss s = sums-append ss (s ∷ []) [] []

pub cycle_more : (ss : List Service) (cs : List Cycle) (c : Cycle) → phase_sum_of ss (cs ++ c ∷ []) ≡ added (phase_sum_of ss cs) (phase_sum_of [] (c ∷ []))
cycle_more ss cs c = ap (λ zs. phase_sum_of zs (cs ++ c ∷ [])) (sym (append-nil ss)) ∙ sums-append ss [] cs (c ∷ [])

pub numbers_add : (p : ℕ) (ss later_ss : List Service) (cs later_cs : List Cycle) → phase_sum (ss ++ later_ss) (cs ++ later_cs) p ≡ added (phase_sum ss cs p) (phase_sum later_ss later_cs p)
numbers_add p ss later_ss cs later_cs =
    ap₂ (λ us vs. phase_sum_of us vs) (own-append (λ (s : Service). s.phase) p ss later_ss) (own-append (λ (c : Cycle). c.phase) p cs later_cs)
    ∙ sums-append (services_of p ss) (services_of p later_ss) (cycles_of p cs) (cycles_of p later_cs)
