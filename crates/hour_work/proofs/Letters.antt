-- The rows of a detector, and the letters that they are.
use Rattle.std.proofs.Common.{◌≡◌, refl, sym, ◌∙◌, subst, inl, inr, ℕ, ◌+◌, ◌-◌, ◌<◌, ◌≤◌, true, false, nat_eq, nat_lt, leb, eqb, if◌then◌else◌, List, [], ◌∷◌, Option, Some, None, arith}
use Rattle.std.specs.List.{list_any}
use Rattle.std.proofs.lemmas.Bool.{and_parts, cases_Bool, eq-eqb, eqb-true, leb-true, ltb-true}
use Rattle.std.proofs.lemmas.Grind.{common_steps}
use Rattle.sig_base.specs.declared.values.Row.{Row}
use Rattle.event_codes.specs.declared.channels.Channel.{Channel}
use Rattle.event_codes.specs.declared.channels.Kind.{Kind}
use Rattle.event_codes.specs.declared.channels.Kind.TheVariants.{Phase, Ped, Overlap, Detector, PedDetector, PreemptInput, PreemptService, Coordination}
use Rattle.event_codes.specs.Channels.{Line, channel_by, channel_in_table, channel_lines, number_of, numbered_channel}
use Rattle.channel_tables.specs.Letters.{letter_in_table}
use Rattle.board.specs.Channels.{is_channel}
use Rattle.detector_state.proofs.Tables.{below_eight}
use Rattle.arrival_measures.specs.Points.{detector_channel as detector}
use Rattle.arrival_measures.specs.Faults.{begins_fault, is_of, is_own}

-- the letter of a channel that a code and a parameter are
abbrev pub letter_of : Channel → ℕ → ℕ → Option ℕ
letter_of ch code param = if is_channel ch (channel_in_table code param) then letter_in_table code param else None

-- ---- a row of the detector

-- the code is a letter of detector d, one of 3 to 7 where it begins a fault
abbrev pub IsLetter : ℕ → ℕ → Type 0
IsLetter d code = (l : ℕ) × (letter_of (detector d) code d ≡ Some l) × (l < 8) × (leb 3 l ≡ begins_fault code)

in_range : (d : ℕ) → 1 ≤ d → d ≤ 128 → numbered_channel Detector 1 128 d ≡ Some (detector d)
in_range d l m = elim (cases_Bool (nat_lt d 1)) [
  | inl t ↦ let a = ltb-true d 1 t in absurd (omega arith)
  | inr f ↦ elim (cases_Bool (nat_lt 128 d)) [ inl t ↦ let a = ltb-true 128 d t in absurd (omega arith) | inr g ↦ rw (f, g) refl ]
]

code_letter : (d code : ℕ) → 1 ≤ d → d ≤ 128 → 81 ≤ code → code ≤ 88 → IsLetter d code
code_letter d code low high least most =
    let e = in_range d low high in
    let self : nat_eq d d ≡ true = eq-eqb d d refl in
    let k = code - 81 in
    let same : 81 + k ≡ code = omega arith in
    subst (λ (n : ℕ). IsLetter d n) same (below_eight (λ n. IsLetter d (81 + n))
    (0, rw (e, self) refl, omega arith, refl)
    (1, rw (e, self) refl, omega arith, refl)
    (2, rw (e, self) refl, omega arith, refl)
    (3, rw (e, self) refl, omega arith, refl)
    (4, rw (e, self) refl, omega arith, refl)
    (5, rw (e, self) refl, omega arith, refl)
    (6, rw (e, self) refl, omega arith, refl)
    (7, rw (e, self) refl, omega arith, refl)
    k (omega arith))

-- a row of the detector is such a letter
pub own_letter : (d : ℕ) (x : Row) → 1 ≤ d → d ≤ 128 → is_of d x ≡ true → (l : ℕ) × (letter_of (detector d) x.code x.param ≡ Some l) × (l < 8) × (leb 3 l ≡ begins_fault x.code)
own_letter d x low high e =
    let parts = and_parts (eqb x.param d) (is_own x.code) e in
    let param : x.param ≡ d = eqb-true x.param d parts.0 in
    let codes = and_parts (leb 81 x.code) (leb x.code 88) parts.1 in
    let (l, is, lt, begins) = code_letter d x.code low high (leb-true 81 x.code codes.0) (leb-true x.code 88 codes.1) in
    (l, subst (λ (n : ℕ). letter_of (detector d) x.code n ≡ Some l) (sym param) is, lt, begins)

-- ---- any other row

-- where a line of the table of channels is of detectors, its codes are theirs
abbrev LineFits : Line → Type 0
LineFits x = (code : ℕ) → x.kind ≡ Detector → list_any (λ c. nat_eq c code) x.codes_of ≡ true → is_own code ≡ true

abbrev LinesFit : List Line → Type 0
LinesFit [] = Unit {0}
LinesFit (x ∷ xs) = LineFits x × LinesFit xs

numbered_in : (kind : Kind) (least most param d : ℕ) → is_channel (detector d) (numbered_channel kind least most param) ≡ true → is_channel (detector d) (Some (record { kind = kind; number = number_of kind param })) ≡ true
numbered_in kind least most param d e = elim (cases_Bool (nat_lt param least)) [
  | inl t ↦ absurd (let bad : false ≡ true = rw t at e in cc)
  | inr f ↦ let more = rw f at e in elim (cases_Bool (nat_lt most param)) [
    | inl t ↦ absurd (let bad : false ≡ true = rw t at more in cc)
    | inr g ↦ rw g at more
  ]
]

detector_kind : (kind : Kind) (param d : ℕ) → is_channel (detector d) (Some (record { kind = kind; number = number_of kind param })) ≡ true → (kind ≡ Detector) × (param ≡ d)
detector_kind Phase param d e = absurd (let bad : false ≡ true = e in cc)
detector_kind Ped param d e = absurd (let bad : false ≡ true = e in cc)
detector_kind Overlap param d e = absurd (let bad : false ≡ true = e in cc)
detector_kind Detector param d e = (refl, sym (eqb-true d param e))
detector_kind PedDetector param d e = absurd (let bad : false ≡ true = e in cc)
detector_kind PreemptInput param d e = absurd (let bad : false ≡ true = e in cc)
detector_kind PreemptService param d e = absurd (let bad : false ≡ true = e in cc)
detector_kind Coordination param d e = absurd (let bad : false ≡ true = e in cc)

lines_own : (xs : List Line) (code param d : ℕ) → LinesFit xs → is_channel (detector d) (channel_by xs code param) ≡ true → (param ≡ d) × (is_own code ≡ true)
lines_own [] code param d fit e = absurd (let bad : false ≡ true = e in cc)
lines_own (x ∷ xs) code param d fit e = elim (cases_Bool (list_any (λ c. nat_eq c code) x.codes_of)) [
  | inl t ↦
      let kind = detector_kind x.kind param d (numbered_in x.kind x.least x.most param d (rw t at e)) in
      (kind.1, fit.0 code kind.0 t)
  | inr f ↦ lines_own xs code param d fit.1 (rw f at e)
]

own_codes : (code : ℕ) → list_any (λ c. nat_eq c code) (81 ∷ 82 ∷ 83 ∷ 84 ∷ 85 ∷ 86 ∷ 87 ∷ 88 ∷ []) ≡ true → is_own code ≡ true
own_codes code h = grind (arith, common_steps)

all_fit : LinesFit channel_lines
all_fit = (
  λ code e _. absurd (cc),
  (
    λ code e _. absurd (cc),
    (
      λ code e _. absurd (cc),
      (
        λ code _ t. own_codes code t,
        (λ code e _. absurd (cc), (λ code e _. absurd (cc), (λ code e _. absurd (cc), (λ code e _. absurd (cc), tt)))),
      ),
    ),
  ),
)

-- any other row is no letter of the detector
pub other_letter : (d : ℕ) (x : Row) → is_of d x ≡ false → letter_of (detector d) x.code x.param ≡ None
other_letter d x e = elim (cases_Bool (is_channel (detector d) (channel_in_table x.code x.param))) [
  | inl t ↦
      let is = lines_own channel_lines x.code x.param d all_fit t in
      let here : is_of d x ≡ true = rw (eq-eqb x.param d is.0, is.1) refl in
      absurd (let bad : true ≡ false = sym here ∙ e in cc)
  | inr f ↦ rw f refl
]
