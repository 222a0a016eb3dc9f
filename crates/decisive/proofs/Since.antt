-- Rows and stretches from a tenth or a place on.
use Rattle.std.proofs.Common.{◌≡◌, refl, ap, sym, ◌∙◌, inl, inr, ℕ, suc, zero, ◌-◌, ◌<◌, ◌≤◌, true, false, leb, List, [], ◌∷◌, length, take, drop, get_or, arith}
use Rattle.std.specs.List.Sorted.{IsNonDecreasingBy, IsPartitionPoint}
use Rattle.std.proofs.lemmas.Bool.{le-leb, leb-true}
use Rattle.std.proofs.lemmas.List.Sorted.{IsNonDecreasingBy-from_default}
use Rattle.sig_base.specs.declared.values.Row.{Row}
use Rattle.gap_map.specs.declared.stretch.Stretch.{Stretch}
use Rattle.gap_map.specs.Stretches.{FollowOn, known_at}
use Rattle.gap_map.proofs.Cutting.{nat_cases}
use Rattle.board.proofs.Bridge.{known_here, known_there}

drop_none : (q : ℕ) (rows : List Row) → rows ≡ [] → drop q rows ≡ []
drop_none zero rows e = e
drop_none (suc q) [] e = refl
drop_none (suc q) (r ∷ rows) e = absurd (cc)

pub back : (n p : ℕ) (rows : List Row) → n ≤ p → drop p rows ≡ drop (p - n) (drop n rows)
back zero p rows le = let e : p - 0 ≡ p = omega arith in ap (λ q. drop q rows) (sym e)
back (suc n) zero rows le = absurd (omega arith)
back (suc n) (suc p) [] le = sym (drop_none (suc p - suc n) [] refl)
back (suc n) (suc p) (r ∷ rows) le = let e : suc p - suc n ≡ p - n = omega arith in back n p rows (omega arith) ∙ ap (λ q. drop q (drop n rows)) (sym e)

pub take_both : (n p : ℕ) (rows : List Row) → n ≤ p → take n (take p rows) ≡ take n rows
take_both zero p rows le = refl
take_both (suc n) zero rows le = absurd (omega arith)
take_both (suc n) (suc p) [] le = refl
take_both (suc n) (suc p) (r ∷ rows) le = ap (λ rs. r ∷ rs) (take_both n p rows (omega arith))

-- ---- the stretch of a tenth

-- stands where a list has no stretch
abbrev pub no_stretch : Stretch
no_stretch = record { from = 0; to = 0; known = false }

end_later : (f t j : ℕ) (ss : List Stretch) → FollowOn f t ss → j < length ss → f < (get_or ss j no_stretch).to
end_later f t j [] h lt = absurd (omega arith)
end_later f t zero (s ∷ ss) (e, a, h) lt = a
end_later f t (suc j) (s ∷ ss) (e, a, h) lt = let b = end_later s.to t j ss h (omega arith) in omega arith

end_order : (f t i j : ℕ) (ss : List Stretch) → FollowOn f t ss → i ≤ j → j < length ss → (get_or ss i no_stretch).to ≤ (get_or ss j no_stretch).to
end_order f t i j [] h le lt = absurd (omega arith)
end_order f t zero zero (s ∷ ss) h le lt = omega arith
end_order f t zero (suc j) (s ∷ ss) (e, a, h) le lt = let b = end_later s.to t j ss h (omega arith) in omega arith
end_order f t (suc i) zero (s ∷ ss) h le lt = absurd (omega arith)
end_order f t (suc i) (suc j) (s ∷ ss) (e, a, h) le lt = end_order s.to t i j ss h (omega arith) (omega arith)

pub ends_rise : (f t : ℕ) (ss : List Stretch) → FollowOn f t ss → IsNonDecreasingBy (λ (s : Stretch). s.to) ss
ends_rise f t ss h = IsNonDecreasingBy-from_default (λ (s : Stretch). s.to) ss no_stretch (λ i j le lt. end_order f t i j ss h le lt)

-- what is known of a tenth, by the place at which its stretch stands
pub known_point : (f t y i : ℕ) (ss : List Stretch) → FollowOn f t ss → f ≤ y → i ≤ length ss → IsPartitionPoint (λ (s : Stretch). leb s.to y ≡ true) (λ (s : Stretch). leb s.to y ≡ false) ss i → (i < length ss → (get_or ss i no_stretch).known ≡ known_at ss y) × (length ss ≤ i → false ≡ known_at ss y)
known_point f t y i [] h low le at = ((λ lt. absurd (omega arith)), λ ge. refl)
known_point f t y zero (s ∷ ss) h low le at =
    let late : leb s.to y ≡ false = at.1 0 s (omega arith) (omega arith) in
    elim (nat_cases y s.to) [
      | inl (_, here) ↦ ((λ lt. sym (known_here s ss f t y h low here)), λ ge. absurd (omega arith))
      | inr (_, there) ↦ absurd (let yes = le-leb s.to y there in let bad : true ≡ false = sym yes ∙ late in cc)
    ]
known_point f t y (suc i) (s ∷ ss) h low le at =
    let early : leb s.to y ≡ true = at.0 0 s (omega arith) (omega arith) in
    let there : s.to ≤ y = leb-true s.to y early in
    let rest = known_point s.to t y i ss h.2 there (omega arith) ((λ k d lo hi. at.0 (suc k) d (omega arith) (omega arith)), (λ k d lo hi. at.1 (suc k) d (omega arith) (omega arith))) in
    ((λ lt. rest.0 (omega arith) ∙ sym (known_there s ss y there)), λ ge. rest.1 (omega arith) ∙ sym (known_there s ss y there))
