-- Tables by number.
use Rattle.std.proofs.Common.{◌≡◌, ℕ, zero, suc, ◌+◌, ◌<◌, Bool, List, [], ◌∷◌, length, get_or, set, take, refl, sym, ◌∙◌, arith}
use Rattle.std.proofs.lemmas.List.{get_or_default}
use Rattle.service_cut.specs.declared.items.Service.{Service}
use Rattle.service_cut.specs.declared.items.Cycle.{Cycle}
use Rattle.hour_sweep.specs.Sums.{AreSums, by_number}
use Rattle.hour_sweep.proofs.SumPlaces.{sums_more}
use Rattle.split_measures.specs.declared.sums.PhaseSum.{PhaseSum}
use Rattle.sig_base.specs.declared.values.PhaseItem.{PhaseItem}
use Rattle.sig_base.specs.Numbers.{has_phase}
use Rattle.split_measures.specs.Phases.{phase_sum_of, added, services_of, phase_sum, phase_sums, zero_sum}
use Rattle.split_measures.proofs.Adding.{service_more, cycle_more}

pub services_more : (n : ℕ) (services : List Service) (i : ℕ) (d : Service) (one : PhaseSum) (table new : List PhaseSum) → i < length services → one ≡ phase_sum_of (get_or services i d ∷ []) [] → new ≡ set table (get_or services i d).phase (added (get_or table (get_or services i d).phase zero_sum) one)
    → AreSums (λ x. x.phase) (λ p ss. phase_sum_of ss []) n (take i services) table → AreSums (λ x. x.phase) (λ p ss. phase_sum_of ss []) n (take (i + 1) services) new
services_more n services i d one table new lt o e inv =
    let s = get_or services i d in
    let is : s ≡ get_or services i s = sym (get_or_default services i s d lt) in
    sums_more (λ (x : Service). x.phase) (λ p ss. phase_sum_of ss []) (λ a x. added a (phase_sum_of (x ∷ []) [])) n services i s zero_sum table new (λ p ss. service_more ss s) lt is (rw o at e) inv

pub cycles_more : (n : ℕ) (services : List Service) (cycles : List Cycle) (i : ℕ) (d : Cycle) (one : PhaseSum) (table new : List PhaseSum) → i < length cycles → one ≡ phase_sum_of [] (get_or cycles i d ∷ []) → new ≡ set table (get_or cycles i d).phase (added (get_or table (get_or cycles i d).phase zero_sum) one)
    → AreSums (λ x. x.phase) (λ p cs. phase_sum_of (services_of p services) cs) n (take i cycles) table → AreSums (λ x. x.phase) (λ p cs. phase_sum_of (services_of p services) cs) n (take (i + 1) cycles) new
cycles_more n services cycles i d one table new lt o e inv =
    let c = get_or cycles i d in
    let is : c ≡ get_or cycles i c = sym (get_or_default cycles i c d lt) in
    sums_more (λ (x : Cycle). x.phase) (λ p cs. phase_sum_of (services_of p services) cs) (λ a x. added a (phase_sum_of [] (x ∷ []))) n cycles i c zero_sum table new (λ p cs. cycle_more (services_of p services) cs c) lt is (rw o at e) inv

-- equal numbers below n make equal lists
pub by_number-same : {A : Type 0} (has : ℕ → Bool) (f g : ℕ → A) (n : ℕ) → ((p : ℕ) → p < n → f p ≡ g p) → by_number has f n ≡ by_number has g n
by_number-same has f g zero h = refl
by_number-same has f g (suc n) h = rw (h n (omega arith), by_number-same has f g n (λ p lt. h p (omega arith))) refl

-- what the table has of the phases is what their services and cycles give
pub sums_are : (has : ℕ → Bool) (services : List Service) (cycles : List Cycle) (table : List PhaseSum) (sums : List PhaseSum) → AreSums (λ c. c.phase) (λ p cs. phase_sum_of (services_of p services) cs) 17 cycles table → sums ≡ by_number has (λ p. get_or table p zero_sum) 17 → sums ≡ by_number has (phase_sum services cycles) 17
sums_are has services cycles table sums (len, at) e = e ∙ by_number-same has (λ p. get_or table p zero_sum) (phase_sum services cycles) 17 (λ p lt. at p zero_sum lt)

-- the same from what the code has
pub sums_by : (phases all : List PhaseItem) (services ss : List Service) (cycles cs : List Cycle) (table sums : List PhaseSum) → all ≡ phases → ss ≡ services → cs ≡ cycles → AreSums (λ c. c.phase) (λ p zs. phase_sum_of (services_of p ss) zs) 17 cs table → sums ≡ by_number (has_phase all) (λ p. get_or table p zero_sum) 17 → sums ≡ phase_sums phases services cycles
sums_by phases all services ss cycles cs table sums ea es ec t e = rw (← ea, ← es, ← ec) (sums_are (has_phase all) ss cs table sums t e)
