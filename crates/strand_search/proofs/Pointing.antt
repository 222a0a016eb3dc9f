-- One channel's states at hour points, gathered point by point.
use Rattle.std.proofs.Common.{◌≡◌, sym, ap, ◌∙◌, subst, inl, inr, ℕ, ◌+◌, ◌≤◌, ℤ, List, [], ◌∷◌, ◌++◌, length, length-append, get_or, Option, arith}
use Rattle.std.proofs.lemmas.Bool.{cases_eq}
use Rattle.std.proofs.lemmas.List.{get_or_append_left, get_or_default, get_or_push}
use Rattle.span_set.specs.declared.set.Span.{Span}
use Rattle.channel_tables.specs.declared.spec.Spec.{Spec}
use Rattle.hour_store.specs.Store.{Store}
use Rattle.signal_log.specs.Points.{AreAheadsAt, ArePastsAt}
use Rattle.strand_search.specs.Points.{AreAheadsBack, ArePastsUpTo, log_alone, past_at}

module _ (d : Spec) (s : Store) where
  pub pasts_first : (new : List (List (List (List Span)))) (first : List (List (List Span))) → new ≡ first ∷ [] → ArePastsAt (log_alone d s) 0 first → ArePastsUpTo d s 0 new
  pasts_first new first e at = rw e (omega arith, λ k le. let same : k ≡ 0 = omega arith in rw same at)

  pub pasts_more : (n : ℕ) (old new : List (List (List (List Span)))) (one : List (List (List Span))) → new ≡ old ++ one ∷ [] → ArePastsUpTo d s n old → ArePastsAt (log_alone d s) (n + 1) one → ArePastsUpTo d s (n + 1) new
  pasts_more n old new one e (size, at) next = rw e (
    (let l = length-append old (one ∷ []) in omega arith),
    λ k le. elim (cases_eq k (n + 1)) [
      | inl last ↦ rw last (rw (get_or_push old one [] (n + 1) size) next)
      | inr earlier ↦ rw (get_or_append_left old (one ∷ []) [] k (omega arith)) (at k (omega arith))
    ],
  )

  pub past_here : (n k : ℕ) (pasts : List (List (List (List Span)))) (one : List (List (List Span))) → k ≤ n → ArePastsUpTo d s n pasts → one ≡ get_or pasts k one → ArePastsAt (log_alone d s) k one
  past_here n k pasts one le (size, at) e = subst (λ (p : List (List (List Span))). ArePastsAt (log_alone d s) k p) (sym (e ∙ get_or_default pasts k one [] (omega arith))) (at k le)

  pub aheads_more : (n k : ℕ) (old new : List (List (List (Option ℤ)))) (one : List (List (Option ℤ))) → n + 1 + k ≡ length s.hours → new ≡ old ++ one ∷ [] → AreAheadsBack d s n old → AreAheadsAt (log_alone d s) k one → AreAheadsBack d s (n + 1) new
  aheads_more n k old new one point e (size, at) next = rw e (
    (let l = length-append old (one ∷ []) in omega arith),
    λ i j le sum. elim (cases_eq i (n + 1)) [
      | inl last ↦ let same : j ≡ k = omega arith in rw (last, same) (rw (get_or_push old one [] (n + 1) size) next)
      | inr earlier ↦ rw (get_or_append_left old (one ∷ []) [] i (omega arith)) (at i j (omega arith) sum)
    ],
  )

  pub ahead_here : (n i k : ℕ) (aheads : List (List (List (Option ℤ)))) (one : List (List (Option ℤ))) → i ≤ n → i + k ≡ length s.hours → AreAheadsBack d s n aheads → one ≡ get_or aheads i one → AreAheadsAt (log_alone d s) k one
  ahead_here n i k aheads one le sum (size, at) e = subst (λ (a : List (List (Option ℤ))). AreAheadsAt (log_alone d s) k a) (sym (e ∙ get_or_default aheads i one [] (omega arith))) (at i k le sum)

  pub ends_back : (n m : ℕ) (aheads : List (List (List (Option ℤ)))) → n ≡ m → AreAheadsBack d s n aheads → AreAheadsBack d s m aheads
  ends_back n m aheads e are = subst (λ (z : ℕ). AreAheadsBack d s z aheads) e are

  pub past_is : (n k : ℕ) (pasts : List (List (List (List Span)))) (one : List (List (List Span))) (past : List (List Span)) → k ≤ n → ArePastsUpTo d s n pasts → one ≡ get_or pasts k one → past ≡ get_or one 0 [] → past ≡ past_at pasts k
  past_is n k pasts one past le (size, at) e is = is ∙ ap (λ (p : List (List (List Span))). get_or p 0 []) (e ∙ get_or_default pasts k one [] (omega arith))
