-- Tables by number.
use Rattle.std.proofs.Common.{◌≡◌, inl, inr, ℕ, suc, ◌+◌, ◌<◌, Bool, true, false, List, [], ◌∷◌, ◌++◌, length, get_or, set, take, ap, sym, subst, ◌∙◌, add-one}
use Rattle.std.proofs.lemmas.List.{get_or_default}
use Rattle.hour_sweep.specs.Sums.{AreSums}
use Rattle.sig_base.specs.Numbers.{has_number}
use Rattle.hour_sweep.proofs.SumPlaces.{sums_more}
use Rattle.other_measures.specs.declared.peds.Delay.{Delay}
use Rattle.other_measures.specs.declared.preempts.PreemptEvent.{PreemptEvent}
use Rattle.other_measures.specs.declared.sums.PedSum.{PedSum}
use Rattle.other_measures.specs.declared.sums.PreemptSum.{PreemptSum}
use Rattle.other_measures.specs.Sums.{ped_sum_of, ped_added, no_ped_sum, preempt_sum_of, preempt_added, no_preempt_sum}
use Rattle.other_measures.specs.States.{EachOf}
use Rattle.other_measures.proofs.Numbers.{ped_sums-append, preempt_sums-append}

pub delays_more : (n : ℕ) (delays : List Delay) (i : ℕ) (d : Delay) (one : PedSum) (table new : List PedSum) → i < length delays → one ≡ ped_sum_of (get_or delays i d ∷ []) → new ≡ set table (get_or delays i d).ped (ped_added (get_or table (get_or delays i d).ped no_ped_sum) one)
    → AreSums (λ x. x.ped) (λ p ds. ped_sum_of ds) n (take i delays) table → AreSums (λ x. x.ped) (λ p ds. ped_sum_of ds) n (take (i + 1) delays) new
delays_more n delays i d one table new lt o e inv =
    let x = get_or delays i d in
    let is : x ≡ get_or delays i x = sym (get_or_default delays i x d lt) in
    sums_more (λ (z : Delay). z.ped) (λ p ds. ped_sum_of ds) (λ a z. ped_added a (ped_sum_of (z ∷ []))) n delays i x no_ped_sum table new (λ p ds. ped_sums-append ds (x ∷ [])) lt is (rw o at e) inv

pub events_more : (n : ℕ) (events : List PreemptEvent) (i : ℕ) (d : PreemptEvent) (one : PreemptSum) (table new : List PreemptSum) → i < length events → one ≡ preempt_sum_of (get_or events i d ∷ []) → new ≡ set table (get_or events i d).preempt (preempt_added (get_or table (get_or events i d).preempt no_preempt_sum) one)
    → AreSums (λ x. x.preempt) (λ p es. preempt_sum_of es) n (take i events) table → AreSums (λ x. x.preempt) (λ p es. preempt_sum_of es) n (take (i + 1) events) new
events_more n events i d one table new lt o e inv =
    let x = get_or events i d in
    let is : x ≡ get_or events i x = sym (get_or_default events i x d lt) in
    sums_more (λ (z : PreemptEvent). z.preempt) (λ p es. preempt_sum_of es) (λ a z. preempt_added a (preempt_sum_of (z ∷ []))) n events i x no_preempt_sum table new (λ p es. preempt_sums-append es (x ∷ [])) lt is (rw o at e) inv

-- one more number

pub each_none : {A : Type 0} (has : ℕ → Bool) (Is : ℕ → A → Type 0) (xs : List A) → xs ≡ [] → EachOf has Is 0 xs
unfolding EachOf
each_none has Is xs e = e

next_found : {A : Type 0} (has : ℕ → Bool) (Is : ℕ → A → Type 0) (n : ℕ) (xs new : List A) (y : A) → has n ≡ true → Is n y → new ≡ xs ++ y ∷ [] → EachOf has Is n xs → EachOf has Is (suc n) new
unfolding EachOf
next_found has Is n xs new y h is e inv = inl (h, (xs, y, inv, is, e))

next_passed : {A : Type 0} (has : ℕ → Bool) (Is : ℕ → A → Type 0) (n : ℕ) (xs : List A) → has n ≡ false → EachOf has Is n xs → EachOf has Is (suc n) xs
unfolding EachOf
next_passed has Is n xs h inv = inr (h, inv)

pub each_more : {A : Type 0} (has : ℕ → Bool) (Is : ℕ → A → Type 0) (n : ℕ) (xs new : List A) (y : A) → has n ≡ true → Is n y → new ≡ xs ++ y ∷ [] → EachOf has Is n xs → EachOf has Is (n + 1) new
each_more has Is n xs new y h is e inv = subst (λ (k : ℕ). EachOf has Is k new) (sym (add-one n)) (next_found has Is n xs new y h is e inv)

pub each_passed : {A : Type 0} (has : ℕ → Bool) (Is : ℕ → A → Type 0) (n : ℕ) (xs new : List A) → has n ≡ false → new ≡ xs → EachOf has Is n xs → EachOf has Is (n + 1) new
each_passed has Is n xs new h e inv = rw e (subst (λ (k : ℕ). EachOf has Is k xs) (sym (add-one n)) (next_passed has Is n xs h inv))

-- the number is one of these, or isn't
pub is_number : (found numbers : List ℕ) (n : ℕ) (b v : Bool) → b ≡ has_number found n → found ≡ numbers → b ≡ v → has_number numbers n ≡ v
is_number found numbers n b v e f h = sym (ap (λ ns. has_number ns n) f) ∙ sym e ∙ h
