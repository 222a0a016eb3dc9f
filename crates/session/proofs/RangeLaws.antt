-- The ranges of the tenths that pass a test, and what is in them.
use Rattle.std.proofs.Common.{◌≡◌, ◌≢◌, ◌∙◌, ◌⊎◌, inl, inr, ℕ, zero, suc, ℤ, pos, negsuc, ◌+◌, ◌*◌, ◌^◌, ◌<◌, ◌≤◌, ◌<ℤ◌, ◌≤ℤ◌, ◌↔◌, Bool, true, false, not, int_le, int_lt, List, [], ◌∷◌, refl, sym, ap, subst, arith}
use Rattle.std.proofs.lemmas.Int.{ints}
use Rattle.std.proofs.lemmas.Bool.{cases_eq, false≢true, or_left, or_right, or_cases, and_parts, and_from, false_from_ne_true}
use Rattle.sig_base.proofs.Common.{same_cases, le_said}
use Rattle.span_set.specs.declared.set.Span.{Span}
use Rattle.span_set.specs.Spans.{Above, AreRanges, Member, Within}
use Rattle.span_set.specs.Changes.{span}
use Rattle.span_set.proofs.Sets.{member_test, same_ranges, not_over}
use Rattle.gap_map.proofs.Reaching.{is_le, lt_is}
use Rattle.hour_store.specs.Store.{LieWithin, Store}
use Rattle.session.specs.Ranges.{With, Without, blanked_with, blanked_without, is_between, is_blanked, ranges_from, ranges_of, with_first}

first_above : (t : ℕ) (low : ℤ) (ss : List Span) → low <ℤ pos t → t ≤ 2 ^ 40 → Above (pos t) ss → Above low (with_first t ss)
first_above t low [] l h p = (l, omega (arith, ints), omega (arith, ints), tt)
first_above t low (s ∷ ss) l h p =
    let a = p.0 in let b = p.1 in
    elim (same_cases s.from (pos (t + 1))) as (λ _. Above low (with_first t (s ∷ ss))) [
      | inl x ↦ rw x.0 (l, omega (arith, ints), p.2, p.3)
      | inr x ↦ let n = x.1 in rw x.0 (l, omega (arith, ints), omega (arith, ints), (grind (arith, ints), b, p.2, p.3))
    ]

pub ranges_above : (test : ℕ → Bool) (from n : ℕ) (low : ℤ) → low <ℤ pos from → from + n ≤ 2 ^ 40 → Above low (ranges_from test from n)
unfolding ranges_from
ranges_above test from zero low l h = tt
ranges_above test from (suc n) low l h =
    let next : pos from <ℤ pos (from + 1) = omega (arith, ints) in
    let under : low <ℤ pos (from + 1) = omega (arith, ints) in
    by (test from) refl (ranges_above test (from + 1) n (pos from) next (omega arith)) (ranges_above test (from + 1) n low under (omega arith))
  where
    by : (b : Bool) → test from ≡ b → Above (pos from) (ranges_from test (from + 1) n) → Above low (ranges_from test (from + 1) n) → Above low (ranges_from test from (suc n))
    by true e p q = rw e (first_above from low (ranges_from test (from + 1) n) l (omega arith) p)
    by false e p q = rw e q

first_members : (t : ℕ) (ss : List Span) (e : ℤ) → Above (pos t) ss → Member (with_first t ss) e ↔ ((e ≡ pos t) ⊎ Member ss e)
first_members t [] e p = (λ m. elim m [ inl w ↦ inl (let a = w.0 in let b = w.1 in omega (arith, ints)) | inr n ↦ absurd n ], λ m. elim m [ inl w ↦ inl (omega (arith, ints), omega (arith, ints)) | inr n ↦ absurd n ])
first_members t (s ∷ ss) e p =
    let a = p.0 in let b = p.1 in
    elim (same_cases s.from (pos (t + 1))) as (λ _. Member (with_first t (s ∷ ss)) e ↔ ((e ≡ pos t) ⊎ Member (s ∷ ss) e)) [
      | inl x ↦ let at = x.1 in rw x.0 (
        λ m. elim m [
          | inl w ↦ let c = w.0 in let d = w.1 in elim (below (pos t) e c) [ inl same ↦ inl same | inr more ↦ inr (inl (omega (arith, ints), d)) ]
          | inr n ↦ inr (inr n)
        ],
        λ m. elim m [
          | inl same ↦ inl (omega (arith, ints), omega (arith, ints))
          | inr n ↦ elim n [ inl w ↦ let c = w.0 in inl (omega (arith, ints), w.1) | inr o ↦ inr o ]
        ],
      )
      | inr x ↦ rw x.0 (
        λ m. elim m [ inl w ↦ inl (let c = w.0 in let d = w.1 in omega (arith, ints)) | inr n ↦ inr n ],
        λ m. elim m [ inl same ↦ inl (omega (arith, ints), omega (arith, ints)) | inr n ↦ inr n ],
      )
    ]
  where
    below : (x y : ℤ) → x ≤ℤ y → (y ≡ x) ⊎ (x <ℤ y)
    below x y le = grind (arith, ints)

-- the tenth is one of the n from `from` on, and passes the test
pub record Passes (test : ℕ → Bool) (from n : ℕ) (e : ℤ) : Type 0 where
  pub tenth : ℕ
  pub is_it : e ≡ pos tenth
  pub from_on : from ≤ tenth
  pub before_end : tenth < from + n
  pub passes : test tenth ≡ true

widen : (test : ℕ → Bool) (from n : ℕ) (e : ℤ) → Passes test (from + 1) n e → Passes test from (suc n) e
widen test from n e p = let a = p.from_on in let b = p.before_end in record {
  tenth = p.tenth;
  is_it = p.is_it;
  from_on = omega arith;
  before_end = omega arith;
  passes = p.passes;
}

narrow : (test : ℕ → Bool) (from n : ℕ) (e : ℤ) (p : Passes test from (suc n) e) → (p.tenth ≡ from → ⊥) → Passes test (from + 1) n e
narrow test from n e p other = let a = p.from_on in let b = p.before_end in let o : p.tenth ≢ from = other in record {
  tenth = p.tenth;
  is_it = p.is_it;
  from_on = omega arith;
  before_end = omega arith;
  passes = p.passes;
}

pub ranges_members : (test : ℕ → Bool) (from n : ℕ) → from + n ≤ 2 ^ 40 → (e : ℤ) → Member (ranges_from test from n) e ↔ Passes test from n e
unfolding ranges_from
ranges_members test from zero h e = (λ m. absurd m, λ p. let a = p.from_on in let b = p.before_end in absurd (omega arith))
ranges_members test from (suc n) h e =
    let above = ranges_above test (from + 1) n (pos from) (omega (arith, ints)) (omega arith) in
    by (test from) refl (ranges_members test (from + 1) n (omega arith) e) (first_members from (ranges_from test (from + 1) n) e above)
  where
    by : (b : Bool) → test from ≡ b → Member (ranges_from test (from + 1) n) e ↔ Passes test (from + 1) n e
        → Member (with_first from (ranges_from test (from + 1) n)) e ↔ ((e ≡ pos from) ⊎ Member (ranges_from test (from + 1) n) e)
        → Member (ranges_from test from (suc n)) e ↔ Passes test from (suc n) e
    by true q also first = rw q (
      λ m. elim (first.0 m) [
        | inl same ↦ record { tenth = from; is_it = same; from_on = omega arith; before_end = omega arith; passes = q }
        | inr in_rest ↦ widen test from n e (also.0 in_rest)
      ],
      λ p. elim (cases_eq p.tenth from) [
        | inl same ↦ first.1 (inl (p.is_it ∙ ap pos same))
        | inr other ↦ first.1 (inr (also.1 (narrow test from n e p other)))
      ],
    )
    by false q also first = rw q (
      λ m. widen test from n e (also.0 m),
      λ p. elim (cases_eq p.tenth from) [
        | inl same ↦ absurd (false≢true (sym q ∙ ap test (sym same) ∙ p.passes))
        | inr other ↦ also.1 (narrow test from n e p other)
      ],
    )

-- the test of a range, and what it says
in_range : (f t : ℤ) (k : ℕ) → is_between f t k ≡ true → Within (span f t) (pos k)
in_range f t k e = let p = and_parts (int_le f (pos k)) (int_lt (pos k) t) e in (le_said f (pos k) p.0, lt_is (pos k) t p.1)

range_test : (f t : ℤ) (k : ℕ) → Within (span f t) (pos k) → is_between f t k ≡ true
range_test f t k w = and_from (int_le f (pos k)) (int_lt (pos k) t) (is_le f (pos k) w.0) (not_over (pos k) t w.1)

out_test : (f t : ℤ) (k : ℕ) → (Within (span f t) (pos k) → ⊥) → not (is_between f t k) ≡ true
out_test f t k n = ap not (false_from_ne_true (is_between f t k) (λ e. n (in_range f t k e)))

out_said : (f t : ℤ) (k : ℕ) → not (is_between f t k) ≡ true → Within (span f t) (pos k) → ⊥
out_said f t k e w = false≢true (sym (ap not (range_test f t k w)) ∙ e)

-- a set of tenths of the window has the ranges of the test that says what is in it
ranges_are : (hours : ℕ) (test : ℕ → Bool) (ns : List Span) → hours ≤ 744 → AreRanges ns → LieWithin hours ns
    → ((k : ℕ) → k < 36000 * hours → Member ns (pos k) → test k ≡ true) → ((k : ℕ) → test k ≡ true → Member ns (pos k)) → ns ≡ ranges_of hours test
ranges_are hours test ns few an within all only =
    same_ranges (negsuc (2 ^ 40)) ns (ranges_of hours test) an (ranges_above test 0 (36000 * hours) (negsuc (2 ^ 40)) (omega (arith, ints)) (omega arith)) (λ e. (
      λ m. (ranges_members test 0 (36000 * hours) (omega arith) e).1 (there e m),
      λ m. let p = (ranges_members test 0 (36000 * hours) (omega arith) e).0 m in subst (λ x. Member ns x) (sym p.is_it) (only p.tenth p.passes),
    ))
  where
    there : (e : ℤ) → Member ns e → Passes test 0 (36000 * hours) e
    there (pos k) m = let w = (within (pos k) m).1 in let l : k < 36000 * hours = omega (arith, ints) in record {
      tenth = k;
      is_it = refl;
      from_on = omega arith;
      before_end = omega arith;
      passes = all k l m;
    }
    there (negsuc k) m = let w = (within (negsuc k) m).0 in absurd (omega (arith, ints))

pub with_within : (hours : ℕ) (old ns : List Span) (f t : ℤ) → LieWithin hours old → pos 0 ≤ℤ f → t ≤ℤ pos (36000 * hours) → With old f t ns → LieWithin hours ns
with_within hours old ns f t l low high w e m = elim ((w e).0 m) [
  | inl o ↦ l e o
  | inr r ↦ let a = r.0 in let b = r.1 in (omega (arith, ints), omega (arith, ints))
]

pub without_within : (hours : ℕ) (old ns : List Span) (f t : ℤ) → LieWithin hours old → Without old f t ns → LieWithin hours ns
without_within hours old ns f t l w e m = l e ((w e).0 m).0

pub with_is : (s : Store) (hours : ℕ) (f t : ℤ) (ns : List Span) → hours ≤ 744 → LieWithin hours s.blanks → pos 0 ≤ℤ f → t ≤ℤ pos (36000 * hours) → AreRanges ns → With s.blanks f t ns → ns ≡ ranges_of hours (blanked_with s f t)
with_is s hours f t ns few l low high an w =
    ranges_are hours (blanked_with s f t) ns few an (with_within hours s.blanks ns f t l low high w)
    (λ k lt m. elim ((w (pos k)).0 m) [
      | inl o ↦ or_left (is_blanked s k) (is_between f t k) ((member_test s.blanks (pos k)).1 o)
      | inr r ↦ or_right (is_blanked s k) (is_between f t k) (range_test f t k r)
    ])
    (λ k e. (w (pos k)).1 (elim (or_cases (is_blanked s k) (is_between f t k) e) [
      | inl o ↦ inl ((member_test s.blanks (pos k)).0 o)
      | inr r ↦ inr (in_range f t k r)
    ]))

pub without_is : (s : Store) (hours : ℕ) (f t : ℤ) (ns : List Span) → hours ≤ 744 → LieWithin hours s.blanks → AreRanges ns → Without s.blanks f t ns → ns ≡ ranges_of hours (blanked_without s f t)
without_is s hours f t ns few l an w =
    ranges_are hours (blanked_without s f t) ns few an (without_within hours s.blanks ns f t l w)
    (λ k lt m. let p = (w (pos k)).0 m in and_from (is_blanked s k) (not (is_between f t k)) ((member_test s.blanks (pos k)).1 p.0) (out_test f t k p.1))
    (λ k e. let p = and_parts (is_blanked s k) (not (is_between f t k)) e in (w (pos k)).1 ((member_test s.blanks (pos k)).0 p.0, out_said f t k p.1))
