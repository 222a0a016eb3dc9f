-- The sums over the hours of a report.
use Rattle.std.proofs.Common.{◌≡◌, ◌∙◌, ℕ, zero, suc, ◌+◌, ◌<◌, Bool, true, false, cond, List, [], ◌∷◌, ◌++◌, length, get_or, take, refl, sym, ap, subst, arith}
use Rattle.std.proofs.lemmas.List.{length-append, take_all, take_more}
use Rattle.sig_base.specs.declared.values.Row.{Row}
use Rattle.hour_store.specs.Store.{IsStore, Store, is_known, known_rows}
use Rattle.hour_sweep.specs.Sums.{by_number, merged}
use Rattle.hour_sweep.specs.Hours.{point}
use Rattle.ring_config.specs.Settings.{Settings}
use Rattle.service_cut.specs.declared.items.Service.{Service}
use Rattle.service_cut.specs.declared.items.Cycle.{Cycle}
use Rattle.service_cut.specs.Cut.{cycles_from, services_from}
use Rattle.service_cut.proofs.HourLists.{cycles_add, services_add}
use Rattle.split_measures.specs.Phases.{added, phase_sum, phase_sums}
use Rattle.split_measures.proofs.Adding.{numbers_add}
use Rattle.sig_base.specs.declared.values.PhaseItem.{PhaseItem}
use Rattle.sig_base.specs.Numbers.{has_phase}
use Rattle.other_measures.specs.Hours.{AreNumbers}
use Rattle.arrival_measures.specs.Hours.{HaveCycles}
use Rattle.other_measures.proofs.Stores.{delays_total, first_total, merged-push}
use Rattle.hour_work.specs.Numbers.{Numbers, numbers_sum, total_of}
use Rattle.hour_work.specs.Rows.{earlier_rows, own_rows}
use Rattle.hour_work.specs.Measures.{cycles_in, services_in}
use Rattle.hour_work.specs.Reports.{IsHourPart, IsReport}
use Rattle.hour_work.proofs.NumberLaws.{total_push}
use Rattle.hour_work.proofs.CycleTotals.{cycles_total}
use Rattle.hour_work.proofs.WholeLog.{all_rows, earlier_ordered, more_rows, own_ordered}

-- ---- what each number has, added number by number

push_length : {A : Type 0} (v : Bool) (us vs : List A) (x y : A) → length us ≡ length vs → length (cond v (us ++ x ∷ []) us) ≡ length (cond v (vs ++ y ∷ []) vs)
push_length true us vs x y e = length-append us (x ∷ []) ∙ (ap (λ (n : ℕ). n + 1) e ∙ sym (length-append vs (y ∷ [])))
push_length false us vs x y e = e

number_length : {A : Type 0} (has : ℕ → Bool) (f g : ℕ → A) (n : ℕ) → length (by_number has f n) ≡ length (by_number has g n)
number_length has f g zero = refl
number_length has f g (suc n) = push_length (has n) (by_number has f n) (by_number has g n) (f n) (g n) (number_length has f g n)

merged_if : {A : Type 0} (put : A → A → A) (v : Bool) (us vs ws : List A) (x y z : A) → length us ≡ length vs → merged put us vs ≡ ws → put x y ≡ z → merged put (cond v (us ++ x ∷ []) us) (cond v (vs ++ y ∷ []) vs) ≡ cond v (ws ++ z ∷ []) ws
merged_if put true us vs ws x y z e f g = merged-push put us vs x y e ∙ (ap (λ zs. zs ++ put x y ∷ []) f ∙ ap (λ w. ws ++ w ∷ []) g)
merged_if put false us vs ws x y z e f g = f

merged_numbers : {A : Type 0} (put : A → A → A) (has : ℕ → Bool) (f g h : ℕ → A) (n : ℕ) → ((p : ℕ) → put (f p) (g p) ≡ h p) → merged put (by_number has f n) (by_number has g n) ≡ by_number has h n
merged_numbers put has f g h zero each = refl
merged_numbers put has f g h (suc n) each = merged_if put (has n) (by_number has f n) (by_number has g n) (by_number has h n) (f n) (g n) (h n) (number_length has f g n) (merged_numbers put has f g h n each) (each n)

sums_add : (phases : List PhaseItem) (ss later : List Service) (cs more : List Cycle) → merged added (phase_sums phases ss cs) (phase_sums phases later more) ≡ phase_sums phases (ss ++ later) (cs ++ more)
sums_add phases ss later cs more = merged_numbers added (has_phase phases) (phase_sum ss cs) (phase_sum later more) (phase_sum (ss ++ later) (cs ++ more)) 17 (λ p. sym (numbers_add p ss later cs more))

-- ---- hour by hour

-- the sums are the numbers of these rows from the log's start
pub record IsTotal (c : Settings) (s : Store) (rows : List Row) (t : Numbers) : Type 0 where
  pub splits : t.splits ≡ phase_sums c.phases (services_from (is_known s) c.phases [] rows) (cycles_from (is_known s) c.phases [] rows)
  pub others : AreNumbers (is_known s) c [] rows t.others
  pub arrivals : HaveCycles (is_known s) c [] rows t.arrivals

one_hour : (c : Settings) (s : Store) (p : Numbers) → IsHourPart c s 0 p → IsTotal c s (own_rows s 0) (numbers_sum (total_of []) p)
one_hour c s p is = record {
  splits = is.measures.phases;
  others = first_total c (is_known s) p.others (own_rows s 0) is.measures.numbers;
  arrivals = is.measures.whole_cycles;
}

hour_more : (c : Settings) (s : Store) (hour : ℕ) (t p : Numbers) → IsStore s → hour < length s.hours → IsTotal c s (earlier_rows s hour) t → IsHourPart c s hour p → IsTotal c s (earlier_rows s hour ++ own_rows s hour) (numbers_sum t p)
hour_more c s hour t p store lt so is =
    let known = is_known s in
    let before = earlier_rows s hour in
    let own = own_rows s hour in
    let ob = earlier_ordered s hour store (omega arith) in
    let or = own_ordered s hour store in
    let ss = services_from known c.phases [] before in
    let cs = cycles_from known c.phases [] before in
    record {
      splits =
          ap (λ zs. merged added zs p.splits) so.splits
          ∙ (ap (λ zs. merged added (phase_sums c.phases ss cs) zs) is.measures.phases
          ∙ (sums_add c.phases ss (services_in c s hour) cs (cycles_in c s hour)
          ∙ (ap (λ zs. phase_sums c.phases zs (cs ++ cycles_in c s hour)) (sym (services_add known c.phases (point hour) (point (hour + 1)) before own ob or))
          ∙ ap (λ zs. phase_sums c.phases (services_from known c.phases [] (before ++ own)) zs) (sym (cycles_add known c.phases (point hour) (point (hour + 1)) before own ob or)))));
      others = delays_total c known (point hour) (point (hour + 1)) before own t.others p.others ob or so.others is.measures.numbers;
      arrivals = cycles_total known c (point hour) (point (hour + 1)) before own ob or t.arrivals p.arrivals so.arrivals is.measures.whole_cycles;
    }

pub next_total : (all : List Numbers) (n : ℕ) (d : Numbers) → n < length all → total_of (take (suc n) all) ≡ numbers_sum (total_of (take n all)) (get_or all n d)
next_total all n d lt =
    let next : suc n ≡ n + 1 = omega arith in
    ap (λ k. total_of (take k all)) next ∙ (ap total_of (take_more all n d lt) ∙ total_push (take n all) (get_or all n d))

totals : (c : Settings) (s : Store) (all : List Numbers) (n : ℕ) → IsStore s → IsReport c s all → n < length s.hours → IsTotal c s (earlier_rows s (suc n)) (total_of (take (suc n) all))
totals c s all zero store is lt =
    let d = total_of [] in
    let within : 0 < length all = subst (λ (k : ℕ). 0 < k) (sym is.size) lt in
    subst (λ rs. IsTotal c s rs (total_of (take 1 all))) (sym (more_rows s 0 lt))
    (subst (λ t. IsTotal c s (own_rows s 0) t) (sym (next_total all 0 d within)) (one_hour c s (get_or all 0 d) (is.each 0 d lt)))
totals c s all (suc n) store is lt =
    let d = total_of [] in
    let hour = suc n in
    let within : suc n < length all = subst (λ (k : ℕ). suc n < k) (sym is.size) lt in
    let before = totals c s all n store is (omega arith) in
    subst (λ rs. IsTotal c s rs (total_of (take (suc hour) all))) (sym (more_rows s hour lt))
    (subst (λ t. IsTotal c s (earlier_rows s hour ++ own_rows s hour) t) (sym (next_total all hour d within)) (hour_more c s hour (total_of (take hour all)) (get_or all hour d) store lt before (is.each hour d lt)))

last_total : (c : Settings) (s : Store) (all : List Numbers) (n : ℕ) → length s.hours ≡ n → IsStore s → IsReport c s all → IsTotal c s (earlier_rows s n) (total_of (take n all))
last_total c s all zero e store is = absurd (let some = store.some in omega arith)
last_total c s all (suc n) e store is = totals c s all n store is (omega arith)

-- the sums over all hours are those of the whole log
pub log_total : (c : Settings) (s : Store) (all : List Numbers) → IsStore s → IsReport c s all → IsTotal c s (known_rows s) (total_of all)
log_total c s all store is =
    let whole : take (length s.hours) all ≡ all = take_all (length s.hours) all (let size = is.size in omega arith) in
    subst (λ rs. IsTotal c s rs (total_of all)) (all_rows s)
    (subst (λ ns. IsTotal c s (earlier_rows s (length s.hours)) (total_of ns)) whole (last_total c s all (length s.hours) refl store is))
