-- Texts whose words of four or eight bytes are the same.
use Rattle.std.proofs.Common.{◌≡◌, ◌≤◌, ◌<◌, ◌+◌, ◌-◌, ℕ, List, length, take, drop, true, get_or, min, w32, w64, refl, sym, ap, ◌∙◌, arith}
use Rattle.std.specs.Int.{from_le_bytes, to_le_bytes}
use Rattle.std.proofs.lemmas.Bool.{cases_lt}
use Rattle.std.proofs.Common.{inl, inr}
use Rattle.std.specs.Str.{bytes_eq}
use Rattle.std.proofs.lemmas.Slice.Eq.{bytes_eq-Decides}
use Rattle.std.proofs.lemmas.Nat.{le_bytes_4, le_bytes_8}
use Rattle.std.proofs.lemmas.List.{ext_get_or, get_or-take, get_or-drop, length-take-le, length-drop, get_or_past}

-- each is a byte
abbrev pub AreBytes : List ℕ → Type 0
AreBytes text = (i : ℕ) → get_or text i 0 < 256

-- so many bytes of a text from a place on
abbrev chunk : ℕ → ℕ → List ℕ → List ℕ
chunk k at text = take k (drop at text)

chunk-length : (k at : ℕ) (text : List ℕ) → at + k ≤ length text → length (chunk k at text) ≡ k
chunk-length k at text h = length-take-le k (drop at text) (let e = length-drop at text in omega arith)

chunk-at : (k at i : ℕ) (text : List ℕ) → i < k → get_or (chunk k at text) i 0 ≡ get_or text (at + i) 0
chunk-at k at i text h = get_or-take k (drop at text) i 0 h ∙ get_or-drop at text i 0

chunk-bytes : (k at : ℕ) (text : List ℕ) → at + k ≤ length text → AreBytes text → AreBytes (chunk k at text)
chunk-bytes k at text h b i =
    elim (cases_lt i k) as (λ c. get_or (chunk k at text) i 0 < 256) [
      | inl within ↦ rw (chunk-at k at i text within) (b (at + i))
      | inr past ↦ let e : get_or (chunk k at text) i 0 ≡ 0 = get_or_past (chunk k at text) i 0 (let l = chunk-length k at text h in omega arith) in omega arith
    ]

-- the same number stands for the same bytes
same-eight : (at : ℕ) (a b : List ℕ) → at + 8 ≤ length a → at + 8 ≤ length b → AreBytes a → AreBytes b
    → from_le_bytes w64 (chunk 8 at a) ≡ from_le_bytes w64 (chunk 8 at b) → chunk 8 at a ≡ chunk 8 at b
same-eight at a b h k p q e =
    sym (le_bytes_8 (chunk 8 at a) _ (chunk-length 8 at a h) (chunk-bytes 8 at a h p) refl)
    ∙ ap (to_le_bytes w64) e
    ∙ le_bytes_8 (chunk 8 at b) _ (chunk-length 8 at b k) (chunk-bytes 8 at b k q) refl

same-four : (at : ℕ) (a b : List ℕ) → at + 4 ≤ length a → at + 4 ≤ length b → AreBytes a → AreBytes b
    → from_le_bytes w32 (chunk 4 at a) ≡ from_le_bytes w32 (chunk 4 at b) → chunk 4 at a ≡ chunk 4 at b
same-four at a b h k p q e =
    sym (le_bytes_4 (chunk 4 at a) _ (chunk-length 4 at a h) (chunk-bytes 4 at a h p) refl)
    ∙ ap (to_le_bytes w32) e
    ∙ le_bytes_4 (chunk 4 at b) _ (chunk-length 4 at b k) (chunk-bytes 4 at b k q) refl

same-byte : (k at i : ℕ) (a b : List ℕ) → chunk k at a ≡ chunk k at b → at ≤ i → i < at + k → get_or a i 0 ≡ get_or b i 0
same-byte k at i a b e low high =
    let s : at + (i - at) ≡ i = omega arith in
    rw s at (sym (chunk-at k at (i - at) a (omega arith)) ∙ ap (λ (xs : List ℕ). get_or xs (i - at) 0) e ∙ chunk-at k at (i - at) b (omega arith))

-- words at the front, behind it and at the end make up the text
pub same-front : (text front : List ℕ) (last middle : ℕ) → 8 ≤ length front → length front ≤ 24 → length front ≤ length text → AreBytes text → AreBytes front
    → last ≡ length front - 8 → middle ≡ min last 8
    → from_le_bytes w64 (chunk 8 0 text) ≡ from_le_bytes w64 (chunk 8 0 front)
    → from_le_bytes w64 (chunk 8 middle text) ≡ from_le_bytes w64 (chunk 8 middle front)
    → from_le_bytes w64 (chunk 8 last text) ≡ from_le_bytes w64 (chunk 8 last front)
    → take (length front) text ≡ front
same-front text front last middle least most room p q el em a b c =
    let n = length front in
    let l : length (take n text) ≡ n = length-take-le n text room in
    let x : chunk 8 0 text ≡ chunk 8 0 front = same-eight 0 text front (omega arith) least p q a in
    let y : chunk 8 middle text ≡ chunk 8 middle front = same-eight middle text front (omega (arith, el, em, room, least)) (omega (arith, el, em, least)) p q b in
    let z : chunk 8 last text ≡ chunk 8 last front = same-eight last text front (omega (arith, el, room, least)) (omega (arith, el, least)) p q c in
    ext_get_or 0 (take n text) front l (λ i h.
    let within : i < n = omega (arith, l, h) in
    get_or-take n text i 0 within
    ∙ elim (cases_lt i 8) as (λ k. get_or text i 0 ≡ get_or front i 0) [
      | inl low ↦ same-byte 8 0 i text front x (omega arith) low
      | inr high ↦ elim (cases_lt i (middle + 8)) as (λ k. get_or text i 0 ≡ get_or front i 0) [
        | inl below ↦ same-byte 8 middle i text front y (omega (arith, em)) below
        | inr above ↦ same-byte 8 last i text front z (omega (arith, el, em, most)) (omega (arith, el, least))
      ]
    ])

-- the first four bytes and the last four make up a text of four to eight
pub same-short : (a b : List ℕ) (last : ℕ) → length a ≡ length b → 4 ≤ length b → length b ≤ 8 → AreBytes a → AreBytes b → last ≡ length b - 4
    → from_le_bytes w32 (chunk 4 0 a) ≡ from_le_bytes w32 (chunk 4 0 b)
    → from_le_bytes w32 (chunk 4 last a) ≡ from_le_bytes w32 (chunk 4 last b)
    → bytes_eq a b ≡ true
same-short a b last len least most p q el x y =
    let first : chunk 4 0 a ≡ chunk 4 0 b = same-four 0 a b (omega (arith, len, least)) (omega (arith, least)) p q x in
    let second : chunk 4 last a ≡ chunk 4 last b = same-four last a b (omega (arith, el, len, least)) (omega (arith, el, least)) p q y in
    (bytes_eq-Decides a b).1 (ext_get_or 0 a b len (λ i h.
    elim (cases_lt i 4) as (λ k. get_or a i 0 ≡ get_or b i 0) [
      | inl low ↦ same-byte 4 0 i a b first (omega arith) low
      | inr high ↦ same-byte 4 last i a b second (omega (arith, el, most)) (omega (arith, el, least, len, h))
    ]))
