-- Small hours of one channel, for the tests.
use Rattle.std.proofs.Common.{suc, zero, ◌≡◌, refl, sym, ◌∙◌, inl, inr, ℕ, ◌<◌, ◌≤◌, ℤ, Option, List, [], ◌∷◌, length, get_or, replicate, arith}
use Rattle.std.specs.Prelude.{slice_index}
use Rattle.std.proofs.lemmas.Bool.{cases_lt}
use Rattle.std.proofs.lemmas.List.{get_or_past}
use Rattle.span_set.specs.declared.set.Span.{Span}
use Rattle.reach.specs.Runs.{State}
use Rattle.reach.specs.Past.{Holds}
use Rattle.sig_base.specs.declared.values.Row.{Row}
use Rattle.sig_base.specs.HourRows.{AreRowsOf}
use Rattle.gap_map.specs.declared.stretch.Stretch.{Stretch}
use Rattle.channel_tables.specs.declared.spec.Spec.{Spec}
use Rattle.channel_tables.specs.Spec.{IsSpec}
use Rattle.channel_tables.specs.Letters.{IsNumber}
use Rattle.board.specs.Channels.{AreSpecs}
use Rattle.board.specs.Logs.{IsHour, no_spec}
use Rattle.board.specs.Stops.{AreBefore}
use Rattle.board.specs.Places.{AllEarly, AreAheadsOf}
use Rattle.board.specs.Hours.{AreStarts}

zeros : (n c : ℕ) → slice_index (replicate n 0) c ≡ 0
zeros zero c = refl
zeros (suc n) zero = refl
zeros (suc n) (suc c) = zeros n c

pub free_fits : (s : Spec) → s.floors ≡ replicate 16 0 → IsSpec s
free_fits s e = record { low = λ c. let z : slice_index s.floors c ≡ 0 = rw e (zeros 16 c) in omega arith; none = λ h c. rw e (zeros 16 c) }

pub one_spec : (s : Spec) → IsSpec s → IsNumber s.channel.kind s.channel.number → AreSpecs (s ∷ [])
one_spec s fits number = record {
  fit = λ i d lt. let z : i ≡ 0 = omega arith in rw z fits;
  numbered = λ i d lt. let z : i ≡ 0 = omega arith in rw z number;
  distinct = λ i j d li lj ne. absurd (ne (omega arith));
}

pub no_set : (s : State) → Holds [] s → ⊥
no_set s h = absurd h

pub start_early : (specs : List Spec) (pasts : List (List (List Span))) → AreBefore specs pasts → AreStarts specs (length specs) pasts → AllEarly 0 pasts
start_early specs pasts shape starts i s h = elim (cases_lt i (length specs)) [
  | inl lt ↦ ((starts i lt s).0 h).2
  | inr ge ↦ let len = shape.0 in let none : get_or pasts i [] ≡ [] = get_or_past pasts i [] (omega arith) in absurd (no_set s (rw none at h))
]

pub two_rows : (a b : Row) → a.at ≤ b.at → b.at < 36000 → AreRowsOf 0 (a ∷ b ∷ [])
two_rows a b le lt = record { in_range = omega arith; few = omega arith; rise = (omega arith, omega arith, (le, lt, tt)) }

pub hour_with_gap : (a b : Row) (x y z : Stretch) → a.at ≤ b.at → b.at < 36000 → x.from ≡ 0 → 0 < x.to → y.from ≡ x.to → x.to < y.to → z.from ≡ y.to → y.to < z.to → z.to ≡ 36000 → IsHour 0 (a ∷ b ∷ []) (x ∷ y ∷ z ∷ [])
hour_with_gap a b x y z le lt e1 l1 e2 l2 e3 l3 e4 = record { are_rows = two_rows a b le lt; follow = (e1, l1, (e2, l2, (e3, l3, e4))) }

pub whole_hour : (a b : Row) (x : Stretch) → a.at ≤ b.at → b.at < 36000 → x.from ≡ 0 → x.to ≡ 36000 → IsHour 0 (a ∷ b ∷ []) (x ∷ [])
whole_hour a b x le lt e1 e2 = record { are_rows = two_rows a b le lt; follow = (e1, (let e = e2 in omega arith), e2) }

pub colours_fit : (specs : List Spec) (before : List (List (List Span))) (after : List (List (Option ℤ))) (i : ℕ) → i < length specs → AreBefore specs before → AreAheadsOf specs after → length (get_or before i []) ≡ length (get_or after i [])
colours_fit specs before after i lt b a = (b.1 i no_spec lt).0 ∙ sym (a.1 i no_spec lt)
