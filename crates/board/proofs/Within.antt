-- The rows, the stretches and the known places of an hour.
use Rattle.std.proofs.Common.{suc, zero, ◌≡◌, sym, ◌∙◌, inl, inr, ℕ, ◌+◌, ◌<◌, ◌≤◌, true, false, List, [], ◌∷◌, length, drop, get_or, arith}
use Rattle.std.proofs.lemmas.Bool.{cases_lt}
use Rattle.sig_base.specs.declared.values.Row.{Row}
use Rattle.sig_base.specs.HourRows.{RiseIn}
use Rattle.gap_map.specs.declared.stretch.Stretch.{Stretch}
use Rattle.gap_map.specs.Stretches.{FollowOn, known_at}
use Rattle.board.specs.Moves.{RowsIn, count_before}
use Rattle.board.specs.Logs.{IsHour, first_tenth, end_tenth, no_row}
use Rattle.board.specs.Places.{IsPlace}
use Rattle.board.proofs.Bridge.{cut_rows, known_late, known_there, late_end}
use Rattle.board.proofs.Rows.{place_before}
use Rattle.board.proofs.Adding.{count_le}

pub rise_rows : (f t : ℕ) (rs : List Row) → f ≤ t → RiseIn f t rs → RowsIn f t rs
rise_rows f t [] le h = le
rise_rows f t (r ∷ rs) le h = (h.0, h.1, (let b = h.1 in rise_rows r.at t rs (omega arith) h.2))

pub hour_rows : (h : ℕ) (rows : List Row) (ss : List Stretch) → IsHour h rows ss → RowsIn (first_tenth h) (end_tenth h) rows
hour_rows h rows ss is = rise_rows (first_tenth h) (end_tenth h) rows (omega arith) is.are_rows.rise

pub few_rows : (h : ℕ) (rows : List Row) (ss : List Stretch) → IsHour h rows ss → length rows ≤ 400000
few_rows h rows ss is = is.are_rows.few

no_stretches : (h : ℕ) → FollowOn (first_tenth h) (end_tenth h) [] → ⊥
no_stretches h e = absurd (omega arith)

pub some_stretch : (h : ℕ) (rows : List Row) (ss : List Stretch) → IsHour h rows ss → 1 ≤ length ss
some_stretch h rows [] is = absurd (no_stretches h is.follow)
some_stretch h rows (s ∷ ss) is = omega arith

pub first_start : (f t : ℕ) (ss : List Stretch) (d : Stretch) → 1 ≤ length ss → FollowOn f t ss → (get_or ss 0 d).from ≡ f
first_start f t [] d le h = absurd (omega arith)
first_start f t (s ∷ ss) d le h = h.0

pub last_end : (f t n : ℕ) (ss : List Stretch) (d : Stretch) → n + 1 ≡ length ss → FollowOn f t ss → (get_or ss n d).to ≡ t
last_end f t n [] d le h = absurd (omega arith)
last_end f t zero (s ∷ []) d le h = h.2
last_end f t zero (s ∷ q ∷ ss) d le h = absurd (omega arith)
last_end f t (suc n) (s ∷ ss) d le h = last_end s.to t n ss d (omega arith) h.2

-- a known tenth is one of the stretches'
pub known_within : (f t x : ℕ) (ss : List Stretch) → FollowOn f t ss → known_at ss x ≡ true → (f ≤ x) × (x < t)
known_within f t x [] h is = absurd (cc)
known_within f t x (s ∷ ss) h is = elim (cases_lt x f) [
  | inl lt ↦ let no = known_late (s ∷ ss) f t x h lt in absurd (let bad : true ≡ false = sym is ∙ no in cc)
  | inr ge ↦ elim (cases_lt x s.to) [
    | inl lt ↦ let e = late_end s.to t ss h.2 in (ge, omega arith)
    | inr past ↦ let k = known_within s.to t x ss h.2 (sym (known_there s ss x past) ∙ is) in (ge, k.1)
  ]
]

-- the place before a known row
pub row_place : (h n : ℕ) (rows : List Row) (ss : List Stretch) → IsHour h rows ss → n < length rows → known_at ss (get_or rows n no_row).at ≡ true → IsPlace (first_tenth h) (end_tenth h) rows ss (get_or rows n no_row).at n
row_place h n rows ss is lt known = place_before (first_tenth h) (end_tenth h) n rows ss is.follow (hour_rows h rows ss is) lt known

pub rows_since : (f g t : ℕ) (rs : List Row) → g ≤ f → RowsIn f t rs → RowsIn g t rs
rows_since f g t [] le h = omega arith
rows_since f g t (r ∷ rs) le h = ((let a = h.0 in omega arith), h.1, h.2)

-- the place at the end of a known tenth
pub end_is_place : (h x : ℕ) (rows : List Row) (ss : List Stretch) → IsHour h rows ss → known_at ss x ≡ true → IsPlace (first_tenth h) (end_tenth h) rows ss x (count_before (x + 1) rows) × RowsIn (x + 1) (end_tenth h) (drop (count_before (x + 1) rows) rows)
end_is_place h x rows ss is known =
    let f = first_tenth h in
    let t = end_tenth h in
    let (a, b) = known_within f t x ss is.follow known in
    let r = hour_rows h rows ss is in
    let (k1, k2, _, _) = cut_rows f (x + 1) t rows (omega arith) (omega arith) r in (
      record {
        stretches = is.follow;
        rows_in = r;
        first = a;
        last = b;
        is_known = known;
        count = count_le (x + 1) rows;
        before = k1;
        after = rows_since (x + 1) x t (drop (count_before (x + 1) rows) rows) (omega arith) k2;
      },
      k2,
    )

-- the stretches tell the hour
pub one_hour : (h g : ℕ) (rows : List Row) (ss : List Stretch) → IsHour h rows ss → IsHour g rows ss → h ≡ g
one_hour h g rows ss a b =
    let some = some_stretch h rows ss a in
    let d : Stretch = record { from = 0; to = 0; known = false } in
    let one : (get_or ss 0 d).from ≡ first_tenth h = first_start (first_tenth h) (end_tenth h) ss d some a.follow in
    let two : (get_or ss 0 d).from ≡ first_tenth g = first_start (first_tenth g) (end_tenth g) ss d some b.follow in
    omega arith
