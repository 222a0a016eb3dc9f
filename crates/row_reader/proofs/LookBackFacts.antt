-- A repeat is found from the last row on.
use Rattle.std.proofs.Common.{◌≡◌, ◌≤◌, ◌<◌, ◌+◌, ◌-◌, ℕ, zero, suc, Bool, true, false, List, [], ◌∷◌, ◌++◌, length, take, get_or, refl, ap, ◌∙◌, arith, if◌then◌else◌}
use Rattle.std.specs.Prelude.{◌==◌, ◌&&◌, ◌≢◌, Option, Some, None}
use Rattle.std.specs.Option.{option_or}
use Rattle.std.proofs.lemmas.Bool.Decides.{nat_tests}
use Rattle.std.proofs.lemmas.List.{take_more}
use Rattle.sig_base.specs.declared.values.Row.{Row}
use Rattle.sig_base.specs.HourRows.{RiseIn}
use Rattle.sig_base.proofs.Common.{and_false}
use Rattle.event_codes.specs.Channels.{same_group}
use Rattle.row_reader.specs.Repeats.{group_of_row, last_where, is_event_of, is_repeat, same_event}
use Rattle.row_reader.proofs.RepeatFacts.{last_where-more, rise-below}

-- the row is of the other's group and tenth
abbrev is_near : Row → Row → Bool
is_near row r = (r.at == row.at) && same_group (group_of_row row) (group_of_row r)

-- so many rows are those in front of the last one, and that row
take_last : (rows : List Row) (n : ℕ) (d : Row) → 0 < n → n ≤ length rows → take n rows ≡ take (n - 1) rows ++ get_or rows (n - 1) d ∷ []
take_last rows n d some within =
    let e : n - 1 + 1 ≡ n = omega arith in
    rw e at (take_more rows (n - 1) d (omega arith))

-- one row more is the last of the group, or changes nothing
repeat-more : (front : List Row) (last row : Row)
    → is_repeat (front ++ last ∷ []) row ≡ is_event_of row (option_or (if is_near row last then Some last else None) (last_where (is_near row) front))
repeat-more front last row = ap (is_event_of row) (last_where-more (is_near row) front last)

near-event : (b : Bool) (last row : Row) (o : Option Row) → b ≡ true → is_event_of row (option_or (if b then Some last else None) o) ≡ same_event last row
near-event true last row o e = refl
near-event false last row o e = cc

far-event : (b : Bool) (last row : Row) (o : Option Row) → b ≡ false → is_event_of row (option_or (if b then Some last else None) o) ≡ is_event_of row o
far-event true last row o e = cc
far-event false last row o e = refl

no-event : (b : Bool) (last row : Row) (o : Option Row) → same_event last row ≡ false → is_event_of row o ≡ false
    → is_event_of row (option_or (if b then Some last else None) o) ≡ false
no-event true last row o e h = e
no-event false last row o e h = h

-- the last row decides, where it is of the group and the tenth
pub repeat-here : (rows : List Row) (row d : Row) (n : ℕ) → 0 < n → n ≤ length rows → (get_or rows (n - 1) d).at ≡ row.at
    → same_group (group_of_row row) (group_of_row (get_or rows (n - 1) d)) ≡ true
    → is_repeat (take n rows) row ≡ same_event (get_or rows (n - 1) d) row
repeat-here rows row d n some within at group =
    let last : Row = get_or rows (n - 1) d in
    let same : (last.at == row.at) ≡ true = grind (arith, nat_tests) in
    let near : is_near row last ≡ true = rw (same, group) refl in
    ap (λ (xs : List Row). is_repeat xs row) (take_last rows n d some within)
    ∙ repeat-more (take (n - 1) rows) last row
    ∙ near-event (is_near row last) last row (last_where (is_near row) (take (n - 1) rows)) near

-- a last row of another group is passed over
pub repeat-before : (rows : List Row) (row d : Row) (n : ℕ) → 0 < n → n ≤ length rows
    → same_group (group_of_row row) (group_of_row (get_or rows (n - 1) d)) ≡ false
    → is_repeat (take n rows) row ≡ is_repeat (take (n - 1) rows) row
repeat-before rows row d n some within group =
    let last : Row = get_or rows (n - 1) d in
    let far : is_near row last ≡ false = rw group (and_false (last.at == row.at)) in
    ap (λ (xs : List Row). is_repeat xs row) (take_last rows n d some within)
    ∙ repeat-more (take (n - 1) rows) last row
    ∙ far-event (is_near row last) last row (last_where (is_near row) (take (n - 1) rows)) far

-- a last row of another code or parameter makes no repeat
pub no_repeat-before : (rows : List Row) (row d : Row) (n : ℕ) → 0 < n → n ≤ length rows → same_event (get_or rows (n - 1) d) row ≡ false
    → is_repeat (take (n - 1) rows) row ≡ false → is_repeat (take n rows) row ≡ false
no_repeat-before rows row d n some within other none =
    let last : Row = get_or rows (n - 1) d in
    ap (λ (xs : List Row). is_repeat xs row) (take_last rows n d some within)
    ∙ repeat-more (take (n - 1) rows) last row
    ∙ no-event (is_near row last) last row (last_where (is_near row) (take (n - 1) rows)) other none

no-one : (b : Bool) (x : Row) → b ≡ false → option_or None (if b then Some x else None) ≡ None
no-one true x e = cc
no-one false x e = refl

-- rows of earlier tenths have none of a later one
none-later : (a b : ℕ) (rows : List Row) (row : Row) → RiseIn a b rows → b ≤ row.at → last_where (is_near row) rows ≡ None
none-later a b [] row h le = refl
none-later a b (x ∷ xs) row h le =
    let other : (x.at == row.at) ≡ false = grind (arith, nat_tests, h.1) in
    let far : is_near row x ≡ false = rw other refl in
    ap (λ (o : Option Row). option_or o (if is_near row x then Some x else None)) (none-later x.at b xs row h.2 le) ∙ no-one (is_near row x) x far

rise-last : (a b : ℕ) (xs : List Row) (r : Row) → RiseIn a b (xs ++ r ∷ []) → r.at < b
rise-last a b [] r h = h.1
rise-last a b (x ∷ xs) r h = rise-last x.at b xs r h.2

-- a last row of another tenth ends the search
pub repeat-none : (rows : List Row) (row d : Row) (n : ℕ) → 0 < n → n ≤ length rows → RiseIn 0 (row.at + 1) (take n rows)
    → (get_or rows (n - 1) d).at ≢ row.at → is_repeat (take n rows) row ≡ false
repeat-none rows row d n some within rise other =
    let last : Row = get_or rows (n - 1) d in
    let front : List Row = take (n - 1) rows in
    let cut : RiseIn 0 (row.at + 1) (front ++ last ∷ []) = rw (take_last rows n d some within) at rise in
    let most : last.at < row.at + 1 = rise-last 0 (row.at + 1) front last cut in
    let apart : (last.at == row.at) ≡ false = grind (arith, nat_tests) in
    let far : is_near row last ≡ false = rw apart refl in
    ap (λ (xs : List Row). is_repeat xs row) (take_last rows n d some within)
    ∙ repeat-more front last row
    ∙ far-event (is_near row last) last row (last_where (is_near row) front) far
    ∙ ap (is_event_of row) (none-later 0 (last.at + 1) front row (rise-below 0 (row.at + 1) front last [] cut) (apart-le last.at row.at other most))
  where
    apart-le : (m n : ℕ) → m ≢ n → m < n + 1 → m + 1 ≤ n
    apart-le m n h k = omega arith

-- the first so many rows are in order
pub rise-take : (a b : ℕ) (rows : List Row) (i : ℕ) → RiseIn a b rows → RiseIn a b (take i rows)
rise-take a b rows zero h = tt
rise-take a b [] (suc i) h = tt
rise-take a b (r ∷ rs) (suc i) h = (h.0, h.1, rise-take r.at b rs i h.2)
