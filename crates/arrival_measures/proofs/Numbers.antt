-- The numbers of whole cycles, added up one by one.
use Rattle.std.proofs.Common.{◌≡◌, ◌≢◌, ℕ, ◌+◌, ◌-◌, ◌<◌, eqb, cond, List, [], ◌∷◌, ◌++◌, map, length, sum, get_or, take, refl, ap, sym, ◌∙◌, arith}
use Rattle.std.proofs.lemmas.Bool.{eq-eqb, ne_eqb}
use Rattle.std.proofs.lemmas.List.{append-nil}
use Rattle.std.proofs.lemmas.List.Elements.{filter_more}
use Rattle.std.proofs.lemmas.List.Sums.{sum-map, sum_by-append, sum_by-cons}
use Rattle.sig_base.specs.declared.values.Row.{Row}
use Rattle.hour_sweep.specs.Sums.{capped, own}
use Rattle.service_cut.specs.declared.items.Cycle.{Cycle}
use Rattle.arrival_measures.specs.declared.open.Open.{Open}
use Rattle.arrival_measures.specs.Green.{arrivals_in, green_arrivals_in, green_tenths_in}
use Rattle.arrival_measures.specs.Opens.{open_at}
use Rattle.arrival_measures.specs.declared.cycles.CycleSum.{CycleSum}
use Rattle.arrival_measures.specs.Cycles.{CycleNumbers, numbers_of, cycle_tenths}
use Rattle.arrival_measures.specs.Steps.{numbers_in, sum_with}

abbrev pub no_cycle_item : Cycle
no_cycle_item = record { phase = 0; from = 0; to = 0; green = 0; yellow = 0 }

sum_push : (f : Cycle → ℕ) (cs : List Cycle) (c : Cycle) → sum (map f (cs ++ c ∷ [])) ≡ sum (map f cs) + f c
sum_push f cs c =
    let a = sum-map f (cs ++ c ∷ []) in
    let b = sum_by-append f cs (c ∷ []) in
    let d = sum_by-cons f c [] in
    let e = sum-map f cs in
    omega arith

capped_more : (n m k l : ℕ) → n ≡ capped k → m ≡ capped l → capped (n + m) ≡ capped (k + l)
unfolding capped
capped_more n m k l a b = omega arith

capped_plain : (n m k l : ℕ) → n ≡ capped k → m ≡ l → capped (n + m) ≡ capped (k + l)
unfolding capped
capped_plain n m k l a b = omega arith

same_numbers : (a b c d e f g h : ℕ) → a ≡ e → b ≡ f → c ≡ g → d ≡ h → let x : CycleNumbers = record { arrivals = a; green = b; green_tenths = c; tenths = d } in let y : CycleNumbers = record { arrivals = e; green = f; green_tenths = g; tenths = h } in x ≡ y
same_numbers a b c d e f g h p q r s = cc

pub numbers_next : (p d : ℕ) (all : List Row) (cs : List Cycle) (c : Cycle) (s new : CycleSum) (o : Open) → numbers_in s ≡ numbers_of p d all cs → o ≡ open_at p d c.from c.to all → new ≡ sum_with s c o → numbers_in new ≡ numbers_of p d all (cs ++ c ∷ [])
unfolding numbers_of open_at
numbers_next p d all cs c s new o e g n =
    let F : Cycle → ℕ = λ z. arrivals_in d z.from z.to all in
    let G : Cycle → ℕ = λ z. green_arrivals_in p d z.from z.to all in
    let H : Cycle → ℕ = λ z. green_tenths_in p z.from z.to all in
    let a0 : s.arrivals ≡ capped (sum (map F cs)) = ap (λ (z : CycleNumbers). z.arrivals) e in
    let b0 : s.green ≡ capped (sum (map G cs)) = ap (λ (z : CycleNumbers). z.green) e in
    let c0 : s.green_tenths ≡ capped (sum (map H cs)) = ap (λ (z : CycleNumbers). z.green_tenths) e in
    let d0 : s.tenths ≡ capped (sum (map cycle_tenths cs)) = ap (λ (z : CycleNumbers). z.tenths) e in
    let a1 : o.arrivals ≡ capped (F c) = ap (λ (z : Open). z.arrivals) g in
    let b1 : o.green ≡ capped (G c) = ap (λ (z : Open). z.green) g in
    let c1 : o.green_tenths ≡ H c = ap (λ (z : Open). z.green_tenths) g in
    ap (λ z. numbers_in z) n ∙ same_numbers _ _ _ _ _ _ _ _
    (capped_more s.arrivals o.arrivals (sum (map F cs)) (F c) a0 a1 ∙ ap (λ k. capped k) (sym (sum_push F cs c)))
    (capped_more s.green o.green (sum (map G cs)) (G c) b0 b1 ∙ ap (λ k. capped k) (sym (sum_push G cs c)))
    (capped_plain s.green_tenths o.green_tenths (sum (map H cs)) (H c) c0 c1 ∙ ap (λ k. capped k) (sym (sum_push H cs c)))
    (capped_plain s.tenths (c.to - c.from) (sum (map cycle_tenths cs)) (cycle_tenths c) d0 refl ∙ ap (λ k. capped k) (sym (sum_push cycle_tenths cs c)))

-- the cycles of one phase

pub own_on : (p : ℕ) (cs : List Cycle) (i : ℕ) (d : Cycle) → i < length cs → (get_or cs i d).phase ≡ p → own (λ (z : Cycle). z.phase) p (take (i + 1) cs) ≡ own (λ (z : Cycle). z.phase) p (take i cs) ++ get_or cs i d ∷ []
own_on p cs i d lt e = filter_more (λ (z : Cycle). eqb z.phase p) cs i d lt ∙ ap (λ v. own (λ (z : Cycle). z.phase) p (take i cs) ++ cond v (get_or cs i d ∷ []) []) (eq-eqb (get_or cs i d).phase p e)

pub own_off : (p : ℕ) (cs : List Cycle) (i : ℕ) (d : Cycle) → i < length cs → (get_or cs i d).phase ≢ p → own (λ (z : Cycle). z.phase) p (take (i + 1) cs) ≡ own (λ (z : Cycle). z.phase) p (take i cs)
own_off p cs i d lt ne = filter_more (λ (z : Cycle). eqb z.phase p) cs i d lt ∙ ap (λ v. own (λ (z : Cycle). z.phase) p (take i cs) ++ cond v (get_or cs i d ∷ []) []) (ne_eqb (get_or cs i d).phase p ne) ∙ append-nil (own (λ (z : Cycle). z.phase) p (take i cs))
