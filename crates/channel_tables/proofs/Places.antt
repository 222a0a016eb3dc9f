-- A row that has a channel has a letter in the channel's table.
use Rattle.std.proofs.Common.{◌≡◌, refl, subst, inl, inr, ℕ, ◌+◌, ◌<◌, ◌≤◌, true, nat_eq, nat_lt, List, [], ◌∷◌, length, Some, arith}
use Rattle.std.specs.List.{list_any}
use Rattle.std.proofs.lemmas.Bool.{cases_Bool}
use Rattle.std.proofs.lemmas.Grind.{common_steps}
use Rattle.event_codes.specs.declared.channels.Channel.{Channel}
use Rattle.event_codes.specs.declared.channels.Kind.{Kind}
use Rattle.event_codes.specs.Channels.{Line, numbered_channel, channel_by, channel_lines, channel_in_table}
use Rattle.channel_tables.specs.Table.{place_from, place_of}
use Rattle.channel_tables.specs.Tables.{table_of}
use Rattle.channel_tables.specs.Letters.{sign_of}

pub place_found : (k n : ℕ) (xs : List ℕ) → list_any (λ s. nat_eq s n) xs ≡ true → (j : ℕ) × (place_from k n xs ≡ Some j) × (j < k + length xs)
place_found k n [] h = absurd (cc)
place_found k n (x ∷ xs) h = elim (cases_Bool (nat_eq x n)) [
  | inl t ↦ rw t (k, refl, omega arith)
  | inr f ↦ let (j, e, l) = place_found (k + 1) n xs (rw f at h) in rw f (j, e, omega arith)
]

-- the row has a letter in the table of this kind
abbrev pub HasLetter : Kind → ℕ → ℕ → Type 0
HasLetter kind code param = (j : ℕ) × (place_of (sign_of kind code param) (table_of kind).signs ≡ Some j) × (j < length (table_of kind).signs)

-- so have all rows of a line of the table of channels
abbrev LineHas : Line → Type 0
LineHas x = (code param : ℕ) → list_any (λ c. nat_eq c code) x.codes_of ≡ true → param ≤ x.most → HasLetter x.kind code param

abbrev LinesHave : List Line → Type 0
LinesHave [] = Unit {0}
LinesHave (x ∷ xs) = LineHas x × LinesHave xs

numbered_is : (kind : Kind) (least most param : ℕ) (channel : Channel) → numbered_channel kind least most param ≡ Some channel → (kind ≡ channel.kind) × (param ≤ most)
numbered_is kind least most param channel e = elim (cases_Bool (nat_lt param least)) [
  | inl t ↦ let k = rw t at e in absurd (cc)
  | inr f ↦ let k = rw f at e in elim (cases_Bool (nat_lt most param)) [
    | inl u ↦ let j = rw u at k in absurd (cc)
    | inr v ↦ let j = rw v at k in (grind (arith, common_steps), grind (arith, common_steps))
  ]
]

lines_letter : (xs : List Line) (code param : ℕ) (channel : Channel) → LinesHave xs → channel_by xs code param ≡ Some channel → HasLetter channel.kind code param
lines_letter [] code param channel h e = absurd (cc)
lines_letter (x ∷ xs) code param channel h e = elim (cases_Bool (list_any (λ c. nat_eq c code) x.codes_of)) [
  | inl t ↦ let (k, m) = numbered_is x.kind x.least x.most param channel (rw t at e) in subst (λ (kind : Kind). HasLetter kind code param) k (h.0 code param t m)
  | inr f ↦ lines_letter xs code param channel h.1 (rw f at e)
]

by_code : (n : ℕ) (xs : List ℕ) → list_any (λ s. nat_eq s n) xs ≡ true → (j : ℕ) × (place_of n xs ≡ Some j) × (j < length xs)
by_code n xs h = let (j, e, l) = place_found 0 n xs h in (j, e, omega arith)

swapped : (n : ℕ) → list_any (λ s. nat_eq s n) (102 ∷ 104 ∷ []) ≡ true → list_any (λ s. nat_eq s n) (104 ∷ 102 ∷ []) ≡ true
swapped n h = grind (arith, common_steps)

to_six : (n : ℕ) → n ≤ 6 → list_any (λ s. nat_eq s n) (0 ∷ 1 ∷ 2 ∷ 3 ∷ 4 ∷ 5 ∷ 6 ∷ []) ≡ true
to_six n h = grind (arith, common_steps)

all_have : LinesHave channel_lines
all_have = (
  λ code param t _. by_code code (0 ∷ 1 ∷ 7 ∷ 8 ∷ 9 ∷ 10 ∷ 11 ∷ 12 ∷ []) t,
  (
    λ code param t _. by_code code (21 ∷ 22 ∷ 23 ∷ 24 ∷ []) t,
    (
      λ code param t _. by_code code (61 ∷ 62 ∷ 63 ∷ 64 ∷ 65 ∷ 66 ∷ []) t,
      (
        λ code param t _. by_code code (81 ∷ 82 ∷ 83 ∷ 84 ∷ 85 ∷ 86 ∷ 87 ∷ 88 ∷ []) t,
        (
          λ code param t _. by_code code (89 ∷ 90 ∷ []) t,
          (
            λ code param t _. by_code code (104 ∷ 102 ∷ []) (swapped code t),
            (
              λ code param t _. by_code code (105 ∷ 106 ∷ 107 ∷ 111 ∷ []) t,
              (λ code param t m. by_code param (0 ∷ 1 ∷ 2 ∷ 3 ∷ 4 ∷ 5 ∷ 6 ∷ []) (to_six param m), tt),
            ),
          ),
        ),
      ),
    ),
  ),
)

pub channel_letter : (code param : ℕ) (channel : Channel) → channel_in_table code param ≡ Some channel → HasLetter channel.kind code param
channel_letter code param channel e = lines_letter channel_lines code param channel all_have e
