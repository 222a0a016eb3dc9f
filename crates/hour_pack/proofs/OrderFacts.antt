-- Rows in order.
use Rattle.std.proofs.Common.{◌≡◌, ◌≤◌, ◌<◌, ◌+◌, ◌-◌, ℕ, zero, suc, List, [], ◌∷◌, ◌++◌, length, take, drop, get_or, sym, ap, ◌∙◌, arith, add-one}
use Rattle.std.proofs.lemmas.List.{take_more, take_all, take-append-drop}
use Rattle.std.proofs.Math.Seq.{drop-cons}
use Rattle.sig_base.specs.declared.values.Row.{Row}
use Rattle.sig_base.specs.HourRows.{RiseIn}

-- the row that stands for one past the end
abbrev pub no_row : Row
no_row = record { at = 0; code = 0; param = 0 }

-- rows are all but the last one, and that row
pub split_last : (rows : List Row) (d : Row) → 0 < length rows → rows ≡ take (length rows - 1) rows ++ get_or rows (length rows - 1) d ∷ []
split_last rows d h =
    let e : length rows - 1 + 1 ≡ length rows = omega arith in
    let m = rw e at (take_more rows (length rows - 1) d (omega arith)) in
    sym (take_all (length rows) rows (omega arith)) ∙ m

-- rows are those before a place, the row there, and those behind it
pub split_at : (rows : List Row) (i : ℕ) (d : Row) → i < length rows → rows ≡ take i rows ++ get_or rows i d ∷ drop (i + 1) rows
split_at rows i d h =
    let e : drop i rows ≡ get_or rows i d ∷ drop (i + 1) rows = rw (add-one i) (drop-cons rows i d h) in
    sym (take-append-drop i rows) ∙ ap (λ (rest : List Row). take i rows ++ rest) e

-- the bounds may be wider
pub rise-wider : (a b c d : ℕ) (rows : List Row) → c ≤ a → b ≤ d → RiseIn a b rows → RiseIn c d rows
rise-wider a b c d [] low high h = tt
rise-wider a b c d (r ∷ rs) low high h = (omega (arith, h.0), omega (arith, h.1), rise-wider r.at b r.at d rs (omega arith) high h.2)

-- the rows in front of others are in order, and none of them is behind the first of the others
pub rise-front : (a b : ℕ) (xs : List Row) (r : Row) (rest : List Row) → RiseIn a b (xs ++ r ∷ rest) → RiseIn a (r.at + 1) xs × (a ≤ r.at)
rise-front a b [] r rest h = (tt, h.0)
rise-front a b (x ∷ xs) r rest h =
    let front = rise-front x.at b xs r rest h.2 in
    ((h.0, omega (arith, front.1), front.0), omega (arith, h.0, front.1))

-- with one more row, that is no earlier
pub rise-more : (a b c : ℕ) (xs : List Row) (r : Row) → RiseIn a (b + 1) xs → a ≤ b → b ≤ r.at → r.at < c → RiseIn a c (xs ++ r ∷ [])
rise-more a b c [] r h low last high = (omega arith, high, tt)
rise-more a b c (x ∷ xs) r h low last high = (h.0, omega (arith, h.1), rise-more x.at b c xs r h.2 (omega (arith, h.1)) last high)

-- the first so many rows are in order
pub rise-cut : (a b : ℕ) (rows : List Row) (i : ℕ) → RiseIn a b rows → RiseIn a b (take i rows)
rise-cut a b rows zero h = tt
rise-cut a b [] (suc i) h = tt
rise-cut a b (r ∷ rs) (suc i) h = (h.0, h.1, rise-cut r.at b rs i h.2)

-- the rows in front of a place are in order, and none of them is behind the row there
pub rise-before : (a b c : ℕ) (rows : List Row) (i : ℕ) (d : Row) → RiseIn a b rows → i < length rows → c ≤ a → RiseIn c ((get_or rows i d).at + 1) (take i rows)
rise-before a b c rows i d h within low =
    let cut : RiseIn a b (take i rows ++ get_or rows i d ∷ drop (i + 1) rows) = rw (split_at rows i d within) at h in
    rise-wider a _ c _ (take i rows) low (omega arith) (rise-front a b (take i rows) (get_or rows i d) (drop (i + 1) rows) cut).0
