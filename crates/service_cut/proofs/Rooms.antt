-- The places of the phases in a table.
use Rattle.std.proofs.Common.{◌≡◌, ℕ, ◌+◌, ◌<◌, ◌≤◌, Bool, true, eqb, List, [], ◌∷◌, None, map, length, get_or, drop, refl, ap, sym, ◌∙◌, arith, inl, inr}
use Rattle.std.specs.Prelude.{max}
use Rattle.std.specs.List.{range_with_len}
use Rattle.std.proofs.lemmas.Bool.{eqb-true}
use Rattle.std.proofs.lemmas.List.{drop_more, drop_all}
use Rattle.sig_base.specs.declared.values.PhaseItem.{PhaseItem}
use Rattle.sig_base.specs.Numbers.{has_phase}
use Rattle.sig_base.proofs.Common.{or_cases}
use Rattle.hour_sweep.proofs.Tables.{table_same}
use Rattle.service_cut.specs.Services.{service_begun_of}
use Rattle.service_cut.specs.Cycles.{yellow_of, cycle_begun_of}
use Rattle.service_cut.specs.Parts.{room, part_of, parts_of}
use Rattle.service_cut.specs.Steps.{no_part}

-- each phase has a place
pub has_room : (phases : List PhaseItem) (p : ℕ) → has_phase phases p ≡ true → p < room phases
has_room [] p h = cc
has_room (x ∷ xs) p h =
    elim (or_cases (eqb x.number p) (has_phase xs p) h) [
      | inl e ↦ let same : x.number ≡ p = eqb-true x.number p e in omega arith
      | inr e ↦ omega (arith, has_room xs p e)
    ]

begun_at_start : (known : ℕ → Bool) (p : ℕ) → service_begun_of known 0 p [] ≡ None
unfolding service_begun_of
begun_at_start known p = refl

yellow_at_start : (known : ℕ → Bool) (p : ℕ) → yellow_of known 0 p [] ≡ None
unfolding yellow_of
yellow_at_start known p = refl

pub cycle_at_start : (known : ℕ → Bool) (p : ℕ) → cycle_begun_of known 0 p [] ≡ None
unfolding cycle_begun_of
cycle_at_start known p = refl

part_at_start : (known : ℕ → Bool) (p : ℕ) → record { phase = p; service = None; yellow = None; cycle = None } ≡ part_of known 0 [] p
part_at_start known p = rw (begun_at_start known p, yellow_at_start known p, cycle_at_start known p) refl

pub parts_at_start : (known : ℕ → Bool) (phases : List PhaseItem) → map (no_part phases) (range_with_len 0 (room phases)) ≡ parts_of known 0 phases []
parts_at_start known phases = table_same (has_phase phases) (room phases) (λ p. record { phase = p; service = None; yellow = None; cycle = None }) (part_of known 0 []) (λ p h. part_at_start known p)

-- one more phase

max_move : (a b c : ℕ) → max (max a b) c ≡ max a (max b c)
max_move a b c = omega arith

pub room_more : (phases : List PhaseItem) (i r n new all : ℕ) → i < length phases → n ≡ (get_or phases i (record { number = 0; ring = 0; side = 0 })).number + 1 → new ≡ max r n → max r (room (drop i phases)) ≡ all → max new (room (drop (i + 1) phases)) ≡ all
room_more phases i r n new all lt e m inv =
    let x = get_or phases i (record { number = 0; ring = 0; side = 0 }) in
    rw (m, e) (max_move r (x.number + 1) (room (drop (i + 1) phases)) ∙ sym (ap (λ ps. max r (room ps)) (drop_more phases i (record { number = 0; ring = 0; side = 0 }) lt)) ∙ inv)

pub room_few : (r n new : ℕ) → new ≡ max r n → r ≤ 256 → n ≤ 256 → new ≤ 256
room_few r n new m a b = omega arith

pub room_all : (phases : List PhaseItem) (i r all : ℕ) → length phases ≤ i → max r (room (drop i phases)) ≡ all → r ≡ all
room_all phases i r all le inv = omega (arith, sym (ap (λ ps. max r (room ps)) (drop_all i phases le)) ∙ inv)
