-- Counts by tests as counts of what holds, and the least and the greatest as std says them.
use Rattle.std.proofs.Common.{◌≡◌, ◌∙◌, refl, ap, sym, subst, inl, inr, ℕ, ◌+◌, Bool, true, false, Option, Some, None, List, [], ◌∷◌, arith}
use Rattle.std.specs.Prelude.{count_by, fold, min, max}
use Rattle.std.specs.List.{reduce}
use Rattle.std.proofs.lemmas.Bool.{cases_Bool}
use Rattle.std.proofs.lemmas.List.Sums.{sum_by-cons}
use Rattle.hour_sweep.specs.Sums.{greater, greatest, least, lesser, one_if}
use Rattle.service_cut.specs.declared.items.Service.{Service}
use Rattle.service_cut.specs.declared.items.Termination.{Termination}
use Rattle.service_cut.specs.declared.items.Termination.TheVariants.{ForceOff, GapOut, MaxOut, Unlogged}
use Rattle.split_measures.specs.declared.verdict.SplitVerdict.{SplitVerdict}
use Rattle.split_measures.specs.declared.verdict.SplitVerdict.TheVariants.{Fail, Pass, Undecided, Open, Fault}
use Rattle.split_measures.specs.Failures.{is_verdict}
use Rattle.split_measures.specs.Phases.{is_end}
use Rattle.arrival_measures.specs.Judged.{CountOf}

-- ---- counts

-- a test that passes exactly where P holds counts what has P
counted_so : {X : Type 0} (P : X → Type 0) (t : X → Bool) (xs : List X) → ((x : X) → t x ≡ true → P x) → ((x : X) → P x → t x ≡ true) → CountOf P xs (count_by t xs)
unfolding CountOf
counted_so P t [] so back = refl
counted_so P t (x ∷ xs) so back =
    let rest = counted_so P t xs so back in
    let more : count_by t (x ∷ xs) ≡ one_if (t x) + count_by t xs = sum_by-cons (λ y. one_if (t y)) x xs in
    elim (cases_Bool (t x)) [
      | inl e ↦ let here : one_if (t x) ≡ 1 = rw e refl in inl (so x e, (count_by t xs, omega (arith, more, here), rest))
      | inr f ↦
          let here : one_if (t x) ≡ 0 = rw f refl in
          let same : count_by t xs ≡ count_by t (x ∷ xs) = omega (arith, more, here) in
          inr ((λ p. let bad : true ≡ false = sym (back x p) ∙ f in cc), subst (λ (k : ℕ). CountOf P xs k) same rest)
    ]

pub counted_at : {X : Type 0} (P : X → Type 0) (xs : List X) {n k : ℕ} → n ≡ k → CountOf P xs k → CountOf P xs n
counted_at P xs e h = subst (λ (z : ℕ). CountOf P xs z) (sym e) h

-- ---- services, by how their green ended

end_is : (e s : Termination) → is_end e s ≡ true → s ≡ e
end_is GapOut GapOut h = refl
end_is MaxOut MaxOut h = refl
end_is ForceOff ForceOff h = refl
end_is Unlogged Unlogged h = refl
end_is _ _ h = absurd (let bad : false ≡ true = h in cc)

end_self : (e : Termination) → is_end e e ≡ true
end_self GapOut = refl
end_self MaxOut = refl
end_self ForceOff = refl
end_self Unlogged = refl

pub ends_counted : (e : Termination) (ss : List Service) → CountOf (λ s. s.end ≡ e) ss (count_by (λ s. is_end e s.end) ss)
ends_counted e ss = counted_so (λ (s : Service). s.end ≡ e) (λ s. is_end e s.end) ss (λ s h. end_is e s.end h) (λ s h. subst (λ (z : Termination). is_end e z ≡ true) (sym h) (end_self e))

-- ---- verdicts

verdict_is : (v w : SplitVerdict) → is_verdict v w ≡ true → w ≡ v
verdict_is Fail Fail h = refl
verdict_is Pass Pass h = refl
verdict_is Undecided Undecided h = refl
verdict_is Open Open h = refl
verdict_is Fault Fault h = refl
verdict_is _ _ h = absurd (let bad : false ≡ true = h in cc)

verdict_self : (v : SplitVerdict) → is_verdict v v ≡ true
verdict_self Fail = refl
verdict_self Pass = refl
verdict_self Undecided = refl
verdict_self Open = refl
verdict_self Fault = refl

pub verdicts_counted : (v : SplitVerdict) (vs : List SplitVerdict) → CountOf (λ w. w ≡ v) vs (count_by (is_verdict v) vs)
verdicts_counted v vs = counted_so (λ (w : SplitVerdict). w ≡ v) (is_verdict v) vs (λ w h. verdict_is v w h) (λ w h. subst (λ (z : SplitVerdict). is_verdict v z ≡ true) (sym h) (verdict_self v))

-- ---- the least and the greatest

least_joined : (x y : ℕ) (o : Option ℕ) → lesser (Some (min x y)) o ≡ lesser (Some x) (lesser (Some y) o)
least_joined x y None = refl
least_joined x y (Some z) = let e : min (min x y) z ≡ min x (min y z) = omega arith in ap (λ (k : ℕ). Some k) e

least_folded : (x : ℕ) (xs : List ℕ) → Some (fold min x xs) ≡ lesser (Some x) (least xs)
least_folded x [] = refl
least_folded x (y ∷ ys) = least_folded (min x y) ys ∙ least_joined x y (least ys)

pub least_is : (xs : List ℕ) → least xs ≡ reduce min xs
least_is [] = refl
least_is (x ∷ xs) = sym (least_folded x xs)

greatest_joined : (x y : ℕ) (o : Option ℕ) → greater (Some (max x y)) o ≡ greater (Some x) (greater (Some y) o)
greatest_joined x y None = refl
greatest_joined x y (Some z) = let e : max (max x y) z ≡ max x (max y z) = omega arith in ap (λ (k : ℕ). Some k) e

greatest_folded : (x : ℕ) (xs : List ℕ) → Some (fold max x xs) ≡ greater (Some x) (greatest xs)
greatest_folded x [] = refl
greatest_folded x (y ∷ ys) = greatest_folded (max x y) ys ∙ greatest_joined x y (greatest ys)

pub greatest_is : (xs : List ℕ) → greatest xs ≡ reduce max xs
greatest_is [] = refl
greatest_is (x ∷ xs) = sym (greatest_folded x xs)
