-- What comes of an edit.
use Rattle.std.proofs.Common.{◌≡◌, inl, inr, ℕ, ℤ, ◌<◌, ◌≤◌, length, Some, None, is_some, refl, subst, Result, Ok, Err}
use Rattle.std.proofs.lemmas.Bool.{cases_Bool}
use Rattle.sig_base.specs.HourRows.{Shown}
use Rattle.sig_base.specs.declared.values.EditError.{EditError}
use Rattle.sig_base.specs.declared.values.EditError.TheVariants.{TooManyRows, TooManyBlanks}
use Rattle.span_set.proofs.Sets.{int_cases}
use Rattle.hour_store.specs.Store.{IsStore, Store, held_at, rows_held, with_blanks, with_hour}
use Rattle.session.specs.Edits.{Change, load, replace, withdraw, blank, unblank, step_of, unless_many_blanks, unless_many_rows}
use Rattle.session.specs.Ranges.{blanked_with, blanked_without, ranges_of}
use Rattle.edit_laws.specs.Stores.{IsTaken, Makes}
use Rattle.edit_laws.specs.Refusals.{IsRefused}
use Rattle.edit_laws.proofs.Hours.{has_of, le_cases, lt_cases, rows_are}
use Rattle.edit_laws.proofs.Ranges.{out_cases, ranges_with, ranges_without}

-- the answer to the edit is told by the laws
abbrev pub IsTold : Store → Change → Result Store EditError → Type 0
IsTold s ch (Ok t) = IsTaken s ch × Makes s ch t
IsTold s ch (Err e) = IsRefused s ch e

-- by how many rows are held then, and by how many ranges are blanked
rows_told : (s t : Store) (ch : Change) → (20000000 < rows_held t → IsRefused s ch TooManyRows) → (rows_held t ≤ 20000000 → IsTaken s ch × Makes s ch t) → IsTold s ch (unless_many_rows t)
rows_told s t ch many few = elim (lt_cases 20000000 (rows_held t)) as (λ _. IsTold s ch (unless_many_rows t)) [
  | inl x ↦ rw x.0 (many x.1)
  | inr x ↦ rw x.0 (few x.1)
]

blanks_told : (s t : Store) (ch : Change) → (10000 < length t.blanks → IsRefused s ch TooManyBlanks) → (length t.blanks ≤ 10000 → IsTaken s ch × Makes s ch t) → IsTold s ch (unless_many_blanks t)
blanks_told s t ch many few = elim (lt_cases 10000 (length t.blanks)) as (λ _. IsTold s ch (unless_many_blanks t)) [
  | inl x ↦ rw x.0 (many x.1)
  | inr x ↦ rw x.0 (few x.1)
]

module _ (s : Store) (store : IsStore s) where
  load_told : (r : Shown) → IsTold s (load r) (step_of s (load r))
  unfolding step_of
  load_told r = elim (le_cases (length s.hours) r.hour) as (λ _. IsTold s (load r) (step_of s (load r))) [
    | inl out ↦ rw out.0 out.1
    | inr lt ↦ rw lt.0 (elim (cases_Bool (is_some (held_at s r.hour))) [
      | inl held ↦ rw held (lt.1, held)
      | inr free ↦ rw free (rows_told s (with_hour s r.hour (Some r)) (load r) (λ many. (lt.1, free, rw (rows_are s r lt.1) many)) (λ few. ((lt.1, free, rw (rows_are s r lt.1) few), has_of s r.hour (Some r) lt.1)))
    ])
  ]

  replace_told : (r : Shown) → IsTold s (replace r) (step_of s (replace r))
  unfolding step_of
  replace_told r = elim (le_cases (length s.hours) r.hour) as (λ _. IsTold s (replace r) (step_of s (replace r))) [
    | inl out ↦ rw out.0 out.1
    | inr lt ↦ rw lt.0 (elim (cases_Bool (is_some (held_at s r.hour))) [
      | inl held ↦ rw held (rows_told s (with_hour s r.hour (Some r)) (replace r) (λ many. (lt.1, held, rw (rows_are s r lt.1) many)) (λ few. ((lt.1, held, rw (rows_are s r lt.1) few), has_of s r.hour (Some r) lt.1)))
      | inr free ↦ rw free (lt.1, free)
    ])
  ]

  withdraw_told : (hour : ℕ) → IsTold s (withdraw hour) (step_of s (withdraw hour))
  unfolding step_of
  withdraw_told hour = elim (le_cases (length s.hours) hour) as (λ _. IsTold s (withdraw hour) (step_of s (withdraw hour))) [
    | inl out ↦ rw out.0 out.1
    | inr lt ↦ rw lt.0 (elim (cases_Bool (is_some (held_at s hour))) [
      | inl held ↦ rw held ((lt.1, held), has_of s hour None lt.1)
      | inr free ↦ rw free (lt.1, free)
    ])
  ]

  blank_told : (f t : ℤ) → IsTold s (blank f t) (step_of s (blank f t))
  unfolding step_of
  blank_told f t = elim (out_cases s f t) as (λ _. IsTold s (blank f t) (step_of s (blank f t))) [
    | inl out ↦ rw out.0 out.1
    | inr in_it ↦ rw in_it.0 (elim (int_cases f t) [
      | inl some ↦ rw some.0 (
          let good = ranges_with s store f t in_it.1 in_it.2 in
          let new = ranges_of (length s.hours) (blanked_with s f t) in
          blanks_told s (with_blanks s new) (blank f t) (λ many. ((in_it.1, some.1, in_it.2), (new, good.0, good.1, many))) (λ few. (((in_it.1, some.1, in_it.2), (new, good.0, good.1, few)), (refl, good.0, good.1)))
          )
      | inr none ↦ rw none.0 (in_it.1, none.1, in_it.2)
    ])
  ]

  unblank_told : (f t : ℤ) → IsTold s (unblank f t) (step_of s (unblank f t))
  unfolding step_of
  unblank_told f t = elim (out_cases s f t) as (λ _. IsTold s (unblank f t) (step_of s (unblank f t))) [
    | inl out ↦ rw out.0 out.1
    | inr in_it ↦ rw in_it.0 (elim (int_cases f t) [
      | inl some ↦ rw some.0 (
          let good = ranges_without s store f t in
          let new = ranges_of (length s.hours) (blanked_without s f t) in
          blanks_told s (with_blanks s new) (unblank f t) (λ many. ((in_it.1, some.1, in_it.2), (new, good.0, good.1, many))) (λ few. (((in_it.1, some.1, in_it.2), (new, good.0, good.1, few)), (refl, good.0, good.1)))
          )
      | inr none ↦ rw none.0 (in_it.1, none.1, in_it.2)
    ])
  ]

  told : (ch : Change) → IsTold s ch (step_of s ch)
  told (load r) = load_told r
  told (replace r) = replace_told r
  told (withdraw hour) = withdraw_told hour
  told (blank f t) = blank_told f t
  told (unblank f t) = unblank_told f t

  pub made_told : (ch : Change) (t : Store) → step_of s ch ≡ Ok t → IsTaken s ch × Makes s ch t
  made_told ch t e = subst (IsTold s ch) e (told ch)

  pub refused_told : (ch : Change) (e : EditError) → step_of s ch ≡ Err e → IsRefused s ch e
  refused_told ch x e = subst (IsTold s ch) e (told ch)
