-- The ranges of the tenths that are blanked after a range is blanked or unblanked.
use Rattle.std.proofs.Common.{◌≡◌, ◌∙◌, ◌⊎◌, inl, inr, ℕ, ℤ, pos, negsuc, ◌*◌, ◌^◌, ◌≤◌, ◌<ℤ◌, ◌≤ℤ◌, Bool, true, false, not, ◌↔◌, int_lt, List, length, refl, sym, ap, subst, arith}
use Rattle.std.proofs.lemmas.Int.{ints}
use Rattle.std.proofs.lemmas.Bool.{and_from, and_parts, false≢true, or_cases, or_left, or_right}
use Rattle.span_set.specs.declared.set.Span.{Span}
use Rattle.span_set.specs.Spans.{AreRanges, Member, Within}
use Rattle.span_set.specs.Changes.{span}
use Rattle.span_set.proofs.Sets.{int_cases, le_cases, member_test}
use Rattle.hour_store.specs.Store.{IsStore, Store}
use Rattle.session.specs.Edits.{reaches_out}
use Rattle.session.specs.Ranges.{With, Without, blanked_with, blanked_without, is_between, is_blanked, ranges_of}
use Rattle.session.proofs.RangeLaws.{Passes, ranges_above, ranges_members, with_is, without_is}
use Rattle.edit_laws.specs.Stores.{IsRange}
use Rattle.edit_laws.specs.Refusals.{ReachesOut}

-- the test of a range that reaches out of the window, and what it says
pub out_cases : (s : Store) (f t : ℤ) → ((reaches_out (length s.hours) f t ≡ true) × ReachesOut s f t) ⊎ ((reaches_out (length s.hours) f t ≡ false) × (pos 0 ≤ℤ f) × (t ≤ℤ pos (36000 * length s.hours)))
out_cases s f t =
    elim (int_cases f (pos 0)) as (λ _. ((reaches_out (length s.hours) f t ≡ true) × ReachesOut s f t) ⊎ ((reaches_out (length s.hours) f t ≡ false) × (pos 0 ≤ℤ f) × (t ≤ℤ pos (36000 * length s.hours)))) [
      | inl x ↦ inl (or_left (int_lt f (pos 0)) (int_lt (pos (36000 * length s.hours)) t) x.0, inl x.1)
      | inr x ↦ elim (int_cases (pos (36000 * length s.hours)) t) [
        | inl y ↦ inl (or_right (int_lt f (pos 0)) (int_lt (pos (36000 * length s.hours)) t) y.0, inr y.1)
        | inr y ↦ inr (rw (x.0, y.0) refl, x.1, y.1)
      ]
    ]

pub out_test : (s : Store) (f t : ℤ) → ReachesOut s f t → reaches_out (length s.hours) f t ≡ true
out_test s f t (inl low) = grind (arith, ints)
out_test s f t (inr high) = grind (arith, ints)

pub in_test : (s : Store) (f t : ℤ) → pos 0 ≤ℤ f → t ≤ℤ pos (36000 * length s.hours) → reaches_out (length s.hours) f t ≡ false
in_test s f t low high = grind (arith, ints)

-- the test of a range, and what it says
pub between : (f t : ℤ) (k : ℕ) → ((is_between f t k ≡ true) × Within (span f t) (pos k)) ⊎ ((is_between f t k ≡ false) × (Within (span f t) (pos k) → ⊥))
between f t k =
    elim (le_cases f (pos k)) as (λ _. ((is_between f t k ≡ true) × Within (span f t) (pos k)) ⊎ ((is_between f t k ≡ false) × (Within (span f t) (pos k) → ⊥))) [
      | inl x ↦ elim (int_cases (pos k) t) as (λ _. ((is_between f t k ≡ true) × Within (span f t) (pos k)) ⊎ ((is_between f t k ≡ false) × (Within (span f t) (pos k) → ⊥))) [
        | inl y ↦ inl (rw (x.0, y.0) refl, (x.1, y.1))
        | inr y ↦ inr (rw (x.0, y.0) refl, λ w. absurd (let a = w.1 in let b = y.1 in omega (arith, ints)))
      ]
      | inr x ↦ inr (rw x.0 refl, λ w. absurd (let a = w.0 in let b = x.1 in omega (arith, ints)))
    ]

with_test : (s : Store) (f t : ℤ) (k : ℕ) → (blanked_with s f t k ≡ true) ↔ (Member s.blanks (pos k) ⊎ Within (span f t) (pos k))
with_test s f t k =
    elim (between f t k) as (λ _. (blanked_with s f t k ≡ true) ↔ (Member s.blanks (pos k) ⊎ Within (span f t) (pos k))) [
      | inl x ↦ (λ e. inr x.1, λ m. or_right (is_blanked s k) (is_between f t k) x.0)
      | inr x ↦ (
        λ e. elim (or_cases (is_blanked s k) (is_between f t k) e) [ inl is ↦ inl ((member_test s.blanks (pos k)).0 is) | inr is ↦ absurd (false≢true (sym x.0 ∙ is)) ],
        λ m. elim m [ inl is ↦ or_left (is_blanked s k) (is_between f t k) ((member_test s.blanks (pos k)).1 is) | inr w ↦ absurd (x.1 w) ],
      )
    ]

without_test : (s : Store) (f t : ℤ) (k : ℕ) → (blanked_without s f t k ≡ true) ↔ (Member s.blanks (pos k) × (Within (span f t) (pos k) → ⊥))
without_test s f t k =
    elim (between f t k) as (λ _. (blanked_without s f t k ≡ true) ↔ (Member s.blanks (pos k) × (Within (span f t) (pos k) → ⊥))) [
      | inl x ↦ (
        λ e. absurd (false≢true (sym (ap not x.0) ∙ (and_parts (is_blanked s k) (not (is_between f t k)) e).1)),
        λ m. absurd (m.1 x.1),
      )
      | inr x ↦ (
        λ e. ((member_test s.blanks (pos k)).0 (and_parts (is_blanked s k) (not (is_between f t k)) e).0, x.1),
        λ m. and_from (is_blanked s k) (not (is_between f t k)) ((member_test s.blanks (pos k)).1 m.0) (ap not x.0),
      )
    ]

-- the ranges of the tenths of the window that pass a test
ranges_good : (s : Store) (test : ℕ → Bool) → length s.hours ≤ 744 → AreRanges (ranges_of (length s.hours) test)
ranges_good s test few = ranges_above test 0 (36000 * length s.hours) (negsuc (2 ^ 40)) (omega (arith, ints)) (omega arith)

ranges_have : (s : Store) (test : ℕ → Bool) (P : ℤ → Type 0) → length s.hours ≤ 744 → ((e : ℤ) → P e → (pos 0 ≤ℤ e) × (e <ℤ pos (36000 * length s.hours))) → ((k : ℕ) → (test k ≡ true) ↔ P (pos k)) → (e : ℤ) → Member (ranges_of (length s.hours) test) e ↔ P e
ranges_have s test P few lie says e =
    let members = ranges_members test 0 (36000 * length s.hours) (omega arith) e in
    (λ m. let p = members.0 m in subst P (sym p.is_it) ((says p.tenth).0 p.passes), λ p. members.1 (there e p))
  where
    there : (e : ℤ) → P e → Passes test 0 (36000 * length s.hours) e
    there (pos k) p = let w = (lie (pos k) p).1 in record {
      tenth = k;
      is_it = refl;
      from_on = omega arith;
      before_end = omega (arith, ints);
      passes = (says k).1 p;
    }
    there (negsuc k) p = let w = (lie (negsuc k) p).0 in absurd (omega (arith, ints))

-- the ranges with those of the range, and without them
pub ranges_with : (s : Store) → IsStore s → (f t : ℤ) → pos 0 ≤ℤ f → t ≤ℤ pos (36000 * length s.hours) → AreRanges (ranges_of (length s.hours) (blanked_with s f t)) × With s.blanks f t (ranges_of (length s.hours) (blanked_with s f t))
ranges_with s is f t low high = (
  ranges_good s (blanked_with s f t) is.few,
  ranges_have s (blanked_with s f t) (λ e. Member s.blanks e ⊎ Within (span f t) e) is.few (λ e m. elim m [
    | inl b ↦ is.blanked e b
    | inr w ↦ let a = w.0 in let b = w.1 in (omega (arith, ints), omega (arith, ints))
  ]) (with_test s f t),
)

pub ranges_without : (s : Store) → IsStore s → (f t : ℤ) → AreRanges (ranges_of (length s.hours) (blanked_without s f t)) × Without s.blanks f t (ranges_of (length s.hours) (blanked_without s f t))
ranges_without s is f t = (
  ranges_good s (blanked_without s f t) is.few,
  ranges_have s (blanked_without s f t) (λ e. Member s.blanks e × (Within (span f t) e → ⊥)) is.few (λ e m. is.blanked e m.0) (without_test s f t),
)

-- there are no others
pub with_one : (s : Store) → IsStore s → (f t : ℤ) → IsRange s f t → (xs ys : List Span) → AreRanges xs → With s.blanks f t xs → AreRanges ys → With s.blanks f t ys → xs ≡ ys
with_one s is f t r xs ys x p y q = with_is s (length s.hours) f t xs is.few is.blanked r.0 r.2 x p ∙ sym (with_is s (length s.hours) f t ys is.few is.blanked r.0 r.2 y q)

pub without_one : (s : Store) → IsStore s → (f t : ℤ) → (xs ys : List Span) → AreRanges xs → Without s.blanks f t xs → AreRanges ys → Without s.blanks f t ys → xs ≡ ys
without_one s is f t xs ys x p y q = without_is s (length s.hours) f t xs is.few is.blanked x p ∙ sym (without_is s (length s.hours) f t ys is.few is.blanked y q)
