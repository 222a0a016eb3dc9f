-- A store, once other tenths of a range are blanked.
use Rattle.std.proofs.Common.{◌≡◌, inl, inr, ℕ, ◌+◌, ◌*◌, ◌<◌, ◌≤◌, ℤ, pos, ◌-ℤ◌, ◌≤ℤ◌, ◌<ℤ◌, List, refl, arith, rules, w64}
use Rattle.std.proofs.lemmas.Int.{ints}
use Rattle.std.specs.Prelude.{FitsSigned}
use Rattle.span_set.specs.declared.set.Span.{Span}
use Rattle.span_set.specs.Spans.{Within, is_member}
use Rattle.span_set.specs.Changes.{span}
use Rattle.span_set.proofs.Sets.{member_test}
use Rattle.hour_store.specs.Store.{Store, with_blanks}
use Rattle.ring_config.proofs.TrackLaws.{same_both}
use Rattle.session.specs.Moved.{IsIn}
use Rattle.session.specs.Puts.{AreSameBut, SameHour}
use Rattle.session.specs.Ranges.{NoneBlanked, SameApart, With, Without}

pub with_same : (old new : List Span) (f t : ℤ) → With old f t new → SameApart old f t new
with_same old new f t w e out = (λ m. elim ((w e).0 m) [ inl o ↦ o | inr r ↦ absurd (out r) ], λ o. (w e).1 (inl o))

pub without_same : (old new : List Span) (f t : ℤ) → Without old f t new → SameApart old f t new
without_same old new f t w e out = (λ m. ((w e).0 m).0, λ o. (w e).1 (o, out))

same_test : (old new : List Span) (f t : ℤ) (x : ℕ) → SameApart old f t new → (Within (span f t) (pos x) → ⊥) → is_member old (pos x) ≡ is_member new (pos x)
same_test old new f t x same out =
    let s = same (pos x) out in
    let a = member_test old (pos x) in
    let b = member_test new (pos x) in
    same_both (is_member old (pos x)) (is_member new (pos x)) (λ h. b.1 (s.1 (a.0 h))) (λ h. a.1 (s.0 (b.0 h)))

-- an hour without a tenth of the range
same_out : (s : Store) (new : List Span) (f t : ℤ) (k : ℕ) → SameApart s.blanks f t new → ((x : ℕ) → 36000 * k ≤ x → x < 36000 * (k + 1) → Within (span f t) (pos x) → ⊥) → SameHour s (with_blanks s new) k
same_out s new f t k same out = record { rows = refl; blanks = λ x low high. same_test s.blanks new f t x same (out x low high) }

-- an hour without a tenth that was blanked, where none more is
pub clear_same : (s : Store) (new : List Span) (f t : ℤ) (k : ℕ) → Without s.blanks f t new → NoneBlanked s.blanks k → SameHour s (with_blanks s new) k
clear_same s new f t k w none = record {
  rows = refl;
  blanks = λ x low high.
      let old = none x low high in
      let a = member_test s.blanks (pos x) in
      let b = member_test new (pos x) in
      same_both (is_member s.blanks (pos x)) (is_member new (pos x)) (λ h. absurd (cc)) (λ h. a.1 ((w (pos x)).0 (b.0 h)).0);
}

-- an hour before those of the range, or after them
pub same_but_range : (s : Store) (new : List Span) (f t : ℤ) (first last : ℕ) → SameApart s.blanks f t new → IsIn f first → IsIn (t -ℤ pos 1) last → AreSameBut first last s (with_blanks s new)
same_but_range s new f t first last same begin end k (inl below) = same_out s new f t k same (λ x from to w. let a = begin.0 in let b = w.0 in omega (arith, ints))
same_but_range s new f t first last same begin end k (inr above) = same_out s new f t k same (λ x from to w. let a = end.1 in let b = w.1 in omega (arith, ints))

-- the last tenth of a range has room where its ends have
pub fits_before : (f t : ℤ) → FitsSigned w64 f → FitsSigned w64 t → f <ℤ t → FitsSigned w64 (t -ℤ pos 1)
fits_before f t from to some = search (rules, ints)

-- the hours of a range are in their order, and in the window
pub hours_in_order : (f t : ℤ) (first last : ℕ) → f <ℤ t → IsIn f first → IsIn (t -ℤ pos 1) last → first ≤ last
hours_in_order f t first last some begin end = let a = begin.0 in let b = end.1 in omega (arith, ints)

pub hours_within : (t : ℤ) (last n : ℕ) → t ≤ℤ pos (36000 * n) → IsIn (t -ℤ pos 1) last → last < n
hours_within t last n high end = let a = end.0 in omega (arith, ints)
