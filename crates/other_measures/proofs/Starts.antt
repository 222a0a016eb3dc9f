-- Parts before any row, and the places of numbers.
use Rattle.std.proofs.Common.{◌≡◌, inl, inr, ℕ, ◌+◌, ◌<◌, ◌≤◌, max, Bool, true, eqb, ◌||◌, List, [], ◌∷◌, length, get_or, drop, None, map, refl, add-one, drop-cons, arith}
use Rattle.std.specs.List.{range_with_len}
use Rattle.std.proofs.Math.ListN.{drop_of_length-le}
use Rattle.std.proofs.lemmas.Bool.{eqb-true}
use Rattle.sig_base.specs.declared.values.Row.{Row}
use Rattle.sig_base.specs.Numbers.{has_number}
use Rattle.sig_base.proofs.Common.{or_cases}
use Rattle.hour_sweep.proofs.Tables.{table_same}
use Rattle.ring_config.specs.Settings.{Settings}
use Rattle.other_measures.specs.LastRows.{last_row_of}
use Rattle.other_measures.specs.Peds.{is_walk, is_call, ped_of}
use Rattle.other_measures.specs.Preempts.{is_entry, is_exit, is_dwell, call_of, preempt_of}
use Rattle.other_measures.specs.Crossing.{peds_of, preempts_of, no_ped, no_preempt, places}

-- a number has its place in their table
pub number_low : (ns : List ℕ) (n : ℕ) → has_number ns n ≡ true → n < places ns
number_low [] n e = absurd (cc)
number_low (x ∷ xs) n e = elim (or_cases (eqb x n) (has_number xs n) e) [
  | inl s ↦ let same : x ≡ n = eqb-true x n s in omega arith
  | inr s ↦ let low : n < places xs = number_low xs n s in omega arith
]

-- one number more is gone through
pub places_more : (ns : List ℕ) (i d p q all : ℕ) → i < length ns → q ≡ max p (get_or ns i d + 1) → max p (places (drop i ns)) ≡ all → max q (places (drop (i + 1) ns)) ≡ all
places_more ns i d p q all lt e h =
    let here : places (drop i ns) ≡ max (get_or ns i d + 1) (places (drop (i + 1) ns)) = rw (add-one i, drop-cons ns i d) refl in
    omega arith

pub places_all : (ns : List ℕ) (i p : ℕ) → length ns ≤ i → max p (places (drop i ns)) ≡ places ns → p ≡ places ns
places_all ns i p le h =
    let none : drop i ns ≡ [] = drop_of_length-le ns le in
    let zero : places (drop i ns) ≡ 0 = rw none refl in
    omega arith

none_last : (is_last is_first : Row → Bool) (known : ℕ → Bool) → last_row_of is_last is_first known 0 [] ≡ None
unfolding last_row_of
none_last is_last is_first known = refl

none_called : (known : ℕ → Bool) (p : ℕ) → call_of known 0 p [] ≡ None
unfolding call_of
none_called known p = refl

ped_at_start : (known : ℕ → Bool) (p : ℕ) → record { number = p; walk = None } ≡ ped_of known 0 [] p
ped_at_start known p = rw (none_last (is_walk p) (is_call p) known) refl

preempt_at_start : (known : ℕ → Bool) (p : ℕ) → record { number = p; call = None; service = None } ≡ preempt_of known 0 [] p
preempt_at_start known p = rw (none_called known p, none_last (λ z. is_entry p z || is_exit p z) (is_dwell p) known) refl

pub peds_at_start : (known : ℕ → Bool) (c : Settings) → map (no_ped c.peds) (range_with_len 0 (places c.peds)) ≡ peds_of known 0 c []
peds_at_start known c = table_same (has_number c.peds) (places c.peds) (λ p. record { number = p; walk = None }) (ped_of known 0 []) (λ p h. ped_at_start known p)

pub preempts_at_start : (known : ℕ → Bool) (c : Settings) → map (no_preempt c.preempts) (range_with_len 0 (places c.preempts)) ≡ preempts_of known 0 c []
preempts_at_start known c = table_same (has_number c.preempts) (places c.preempts) (λ p. record { number = p; call = None; service = None }) (preempt_of known 0 []) (λ p h. preempt_at_start known p)
