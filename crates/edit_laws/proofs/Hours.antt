-- A store with something in the place of an hour.
use Rattle.std.proofs.Common.{◌≡◌, ◌∙◌, ◌⊎◌, inl, inr, ℕ, ◌<◌, ◌≤◌, true, false, nat_le, nat_lt, length, get_or, set, length-set, get_or-set_same, get_or-set_other, Option, Some, None, refl, sym, ap, arith}
use Rattle.std.proofs.lemmas.Bool.{cases_eq}
use Rattle.std.proofs.lemmas.Bool.Decides.{nat_tests}
use Rattle.std.proofs.lemmas.List.{ext_get_or}
use Rattle.sig_base.specs.HourRows.{Shown}
use Rattle.hour_store.specs.Store.{Store, count_in, held_at, rows_held, with_blanks, with_hour}
use Rattle.session.proofs.EditLaws.{rows_changed}
use Rattle.edit_laws.specs.Stores.{HasOf, rows_with}

-- two tests of numbers, and what they say
pub le_cases : (a b : ℕ) → ((nat_le a b ≡ true) × (a ≤ b)) ⊎ ((nat_le a b ≡ false) × (b < a))
le_cases a b = grind (arith, nat_tests)

pub lt_cases : (a b : ℕ) → ((nat_lt a b ≡ true) × (a < b)) ⊎ ((nat_lt a b ≡ false) × (b ≤ a))
lt_cases a b = grind (arith, nat_tests)

pub outside : (n h : ℕ) → n ≤ h → nat_le n h ≡ true
outside n h out = grind (arith, nat_tests)

pub within : (n h : ℕ) → h < n → nat_le n h ≡ false
within n h lt = grind (arith, nat_tests)

-- how many rows are held then
pub rows_are : (s : Store) (r : Shown) → r.hour < length s.hours → rows_with s r ≡ rows_held (with_hour s r.hour (Some r))
rows_are s r lt = rows_changed s r.hour r (rows_held s) (length r.rows) (count_in (held_at s r.hour)) lt refl refl refl

-- it has this of the hour, and all else is as before
pub has_of : (s : Store) (h : ℕ) (x : Option Shown) → h < length s.hours → HasOf s h x (with_hour s h x)
has_of s h x lt = record {
  hours = length-set s.hours h x;
  here = get_or-set_same s.hours h x None lt;
  elsewhere = λ k other. get_or-set_other s.hours h k x None other;
  blanks = refl;
}

-- stores that hold and blank the same
pub same_store : (s t : Store) → s.hours ≡ t.hours → s.blanks ≡ t.blanks → s ≡ t
same_store s t held blanked = ap (λ v. record s { hours = v }) held ∙ ap (λ v. with_blanks t v) blanked

-- and no other store has this of the hour
pub has_one : (s t : Store) (h : ℕ) (x : Option Shown) → h < length s.hours → HasOf s h x t → with_hour s h x ≡ t
has_one s t h x lt p =
    same_store (with_hour s h x) t (ext_get_or None (set s.hours h x) t.hours (length-set s.hours h x ∙ sym p.hours) (λ k in_it. at k)) (sym p.blanks)
  where
    at : (k : ℕ) → get_or (set s.hours h x) k None ≡ get_or t.hours k None
    at k = elim (cases_eq k h) [
      | inl same ↦ ap (λ (i : ℕ). get_or (set s.hours h x) i None) same ∙ get_or-set_same s.hours h x None lt ∙ sym p.here ∙ sym (ap (λ (i : ℕ). get_or t.hours i None) same)
      | inr other ↦ get_or-set_other s.hours h k x None other ∙ sym (p.elsewhere k other)
    ]
