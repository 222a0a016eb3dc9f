-- The open service of one phase, among those of all phases.
use Rattle.std.proofs.Common.{◌≡◌, ◌≢◌, ℕ, zero, suc, ◌+◌, ◌<◌, ◌≤◌, Bool, true, false, cond, eqb, List, Option, Some, None, map, refl, ap, ◌∙◌, arith, inl, inr}
use Rattle.std.specs.Prelude.{filter_map, option_map, unwrap_or}
use Rattle.std.specs.List.{cons_option, range_with_len}
use Rattle.std.proofs.lemmas.Bool.{cases_eq, eq-eqb, ne_eqb}
use Rattle.sig_base.specs.declared.values.PhaseItem.{PhaseItem}
use Rattle.sig_base.specs.declared.values.Row.{Row}
use Rattle.sig_base.specs.Numbers.{has_phase}
use Rattle.sig_base.proofs.Common.{some_same}
use Rattle.hour_sweep.specs.Hours.{point}
use Rattle.hour_sweep.specs.Numbers.{numbered}
use Rattle.service_cut.specs.declared.items.OpenService.{OpenService}
use Rattle.service_cut.specs.declared.services.ServiceBegun.{ServiceBegun}
use Rattle.service_cut.specs.Parts.{open_service, open_service_of, part_of, parts_of, room}
use Rattle.service_cut.specs.Services.{service_begun_of}
use Rattle.service_cut.proofs.Rooms.{has_room}
use Rattle.stop_bar.specs.Going.{tenth_or}
use Rattle.stop_bar.specs.Bars.{open_with}

abbrev HasNot : ℕ → Option OpenService → Type 0
HasNot p None = Unit {0}
HasNot p (Some y) = eqb y.phase p ≡ false

abbrev HasOnly : ℕ → Option OpenService → Type 0
HasOnly p None = Unit {0}
HasOnly p (Some y) = eqb y.phase p ≡ true

find_skip : (p : ℕ) (o : Option OpenService) (rest : List OpenService) → HasNot p o → open_with p (cons_option o rest) ≡ open_with p rest
find_skip p None rest h = refl
find_skip p (Some y) rest h = rw h refl

find_here : (p : ℕ) (o : Option OpenService) (rest : List OpenService) → HasOnly p o → open_with p rest ≡ None → open_with p (cons_option o rest) ≡ o
find_here p None rest h e = e
find_here p (Some y) rest h e = rw h refl

open_not : (p n : ℕ) (o : Option ServiceBegun) → eqb n p ≡ false → HasNot p (open_service_of n o)
open_not p n None h = tt
open_not p n (Some s) h = h

open_only : (p : ℕ) (o : Option ServiceBegun) → HasOnly p (open_service_of p o)
open_only p None = tt
open_only p (Some s) = eq-eqb p p refl

module _ (has : ℕ → Bool) (known : ℕ → Bool) (t : ℕ) (all : List Row) (p : ℕ) where
  part_not : (v : Bool) (a : ℕ) → a ≢ p → HasNot p (open_service (cond v (Some (part_of known t all a)) None))
  unfolding open_service
  part_not true a ne = open_not p a (service_begun_of known t a all) (ne_eqb a p ne)
  part_not false a ne = tt

  find_past : (a n : ℕ) → p < a → open_with p (filter_map open_service (map (numbered has (part_of known t all)) (range_with_len a n))) ≡ None
  find_past a zero lt = refl
  find_past a (suc n) lt = find_skip p (open_service (numbered has (part_of known t all) a)) _ (part_not (has a) a (λ e. omega arith)) ∙ find_past (a + 1) n (omega arith)

  part_here : has p ≡ true → open_service (numbered has (part_of known t all) p) ≡ open_service_of p (service_begun_of known t p all)
  unfolding open_service
  part_here h = rw h refl

  find_in : (a n : ℕ) → a ≤ p → p < a + n → has p ≡ true → open_with p (filter_map open_service (map (numbered has (part_of known t all)) (range_with_len a n))) ≡ open_service_of p (service_begun_of known t p all)
  find_in a zero lo hi h = absurd (omega arith)
  find_in a (suc n) lo hi h = elim (cases_eq a p) [
    | inl e ↦ rw e (
        ap (λ o. open_with p (cons_option o (filter_map open_service (map (numbered has (part_of known t all)) (range_with_len (p + 1) n))))) (part_here h)
        ∙ find_here p (open_service_of p (service_begun_of known t p all)) (filter_map open_service (map (numbered has (part_of known t all)) (range_with_len (p + 1) n))) (open_only p (service_begun_of known t p all)) (find_past (p + 1) n (omega arith))
        )
    | inr ne ↦ find_skip p (open_service (numbered has (part_of known t all) a)) _ (part_not (has a) a ne) ∙ find_in (a + 1) n (omega arith) (omega arith) h
  ]

-- the open service of a configured phase is the one that service_cut has
pub open_found : (known : ℕ → Bool) (phases : List PhaseItem) (p k : ℕ) (rows : List Row) → has_phase phases p ≡ true → open_with p (filter_map open_service (parts_of known (point k) phases rows)) ≡ open_service_of p (service_begun_of known (point k) p rows)
open_found known phases p k rows has =
    let lt = has_room phases p has in
    find_in (has_phase phases) known (point k) rows p 0 (room phases) (omega arith) (omega arith) has

green_to : (t : ℕ) (g : Option Row) → tenth_or t g ≡ unwrap_or (option_map (λ (x : Row). x.at) g) t
green_to t None = refl
green_to t (Some x) = refl

green_end : (p t : ℕ) (s : ServiceBegun) (y : OpenService) (g : Option Row) → s.g ≡ g → open_service_of p (Some s) ≡ Some y → tenth_or t s.g ≡ unwrap_or y.g t
green_end p t s y g e is = green_to t s.g ∙ ap (λ (z : OpenService). unwrap_or z.g t) (some_same _ y is)

-- which has its begin and how far its green has come
pub open_some : (p t : ℕ) (o : Option ServiceBegun) (y : OpenService) → open_service_of p o ≡ Some y → (s : ServiceBegun) × (o ≡ Some s) × (s.b.at ≡ y.b) × (tenth_or t s.g ≡ unwrap_or y.g t)
open_some p t None y e = absurd (cc)
open_some p t (Some s) y e = (s, refl, cc, green_end p t s y s.g refl e)

pub open_none : (p : ℕ) (o : Option ServiceBegun) → open_service_of p o ≡ None → o ≡ None
open_none p None e = refl
open_none p (Some s) e = absurd (cc)
