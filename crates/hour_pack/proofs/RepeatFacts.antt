-- A repeat is found from the last row on.
use Rattle.std.proofs.Common.{◌≡◌, ◌≤◌, ◌<◌, ◌+◌, ◌-◌, ℕ, Bool, true, false, List, [], ◌∷◌, ◌++◌, length, take, get_or, refl, ap, ◌∙◌, arith, append_assoc, append-nil, if◌then◌else◌}
use Rattle.std.specs.Prelude.{◌==◌, ◌&&◌, ◌≢◌, Option, Some, None}
use Rattle.std.specs.Option.{option_or}
use Rattle.std.proofs.lemmas.Bool.Decides.{nat_tests}
use Rattle.std.proofs.lemmas.List.{take_all, take_more}
use Rattle.sig_base.specs.declared.values.Row.{Row}
use Rattle.sig_base.specs.HourRows.{RiseIn}
use Rattle.event_codes.specs.Channels.{same_group}
use Rattle.row_reader.specs.Repeats.{group_of_row, last_where, is_event_of, is_repeat, same_event, HasNoRepeat}
use Rattle.row_reader.proofs.RepeatFacts.{no_repeat-more, last_where-more}
use Rattle.hour_pack.specs.Repeats.{HasRepeat}
use Rattle.hour_pack.proofs.OrderFacts.{split_last, split_at, rise-front}

-- the row is of the other's group and tenth
abbrev is_near : Row → Row → Bool
is_near row r = (r.at == row.at) && same_group (group_of_row row) (group_of_row r)

no-one : (b : Bool) (x : Row) → b ≡ false → option_or None (if b then Some x else None) ≡ None
no-one true x e = cc
no-one false x e = refl

-- rows of earlier tenths have none of a later one
none-later : (a b : ℕ) (rows : List Row) (row : Row) → RiseIn a b rows → b ≤ row.at → last_where (is_near row) rows ≡ None
none-later a b [] row h le = refl
none-later a b (x ∷ xs) row h le =
    let other : (x.at == row.at) ≡ false = grind (arith, nat_tests, h.1) in
    let far : is_near row x ≡ false = rw other refl in
    ap (λ (o : Option Row). option_or o (if is_near row x then Some x else None)) (none-later x.at b xs row h.2 le) ∙ no-one (is_near row x) x far

-- one row more is the last of the group, or changes nothing
repeat-more : (front : List Row) (last row : Row)
    → is_repeat (front ++ last ∷ []) row ≡ is_event_of row (option_or (if is_near row last then Some last else None) (last_where (is_near row) front))
repeat-more front last row = ap (is_event_of row) (last_where-more (is_near row) front last)

near-event : (b : Bool) (last row : Row) (o : Option Row) → b ≡ true → is_event_of row (option_or (if b then Some last else None) o) ≡ same_event last row
near-event true last row o e = refl
near-event false last row o e = cc

far-event : (b : Bool) (last row : Row) (o : Option Row) → b ≡ false → is_event_of row (option_or (if b then Some last else None) o) ≡ is_event_of row o
far-event true last row o e = cc
far-event false last row o e = refl

-- the last row decides, where it is of the group and the tenth
pub repeat-here : (rows : List Row) (row d : Row) → 0 < length rows → (get_or rows (length rows - 1) d).at ≡ row.at
    → same_group (group_of_row row) (group_of_row (get_or rows (length rows - 1) d)) ≡ true
    → is_repeat rows row ≡ same_event (get_or rows (length rows - 1) d) row
repeat-here rows row d some at group =
    let last : Row = get_or rows (length rows - 1) d in
    let same : (last.at == row.at) ≡ true = grind (arith, nat_tests) in
    let near : is_near row last ≡ true = rw (same, group) refl in
    ap (λ (xs : List Row). is_repeat xs row) (split_last rows d some)
    ∙ repeat-more (take (length rows - 1) rows) last row
    ∙ near-event (is_near row last) last row (last_where (is_near row) (take (length rows - 1) rows)) near

-- a last row of another group is passed over
pub repeat-before : (rows : List Row) (row d : Row) → 0 < length rows
    → same_group (group_of_row row) (group_of_row (get_or rows (length rows - 1) d)) ≡ false
    → is_repeat rows row ≡ is_repeat (take (length rows - 1) rows) row
repeat-before rows row d some group =
    let last : Row = get_or rows (length rows - 1) d in
    let far : is_near row last ≡ false = rw group (and-false (last.at == row.at)) in
    ap (λ (xs : List Row). is_repeat xs row) (split_last rows d some)
    ∙ repeat-more (take (length rows - 1) rows) last row
    ∙ far-event (is_near row last) last row (last_where (is_near row) (take (length rows - 1) rows)) far
  where
    and-false : (b : Bool) → (b && false) ≡ false
    and-false true = refl
    and-false false = refl

-- a last row of another tenth ends the search
pub repeat-none : (rows : List Row) (row d : Row) → 0 < length rows → RiseIn 0 (row.at + 1) rows
    → (get_or rows (length rows - 1) d).at ≢ row.at → is_repeat rows row ≡ false
repeat-none rows row d some rise other =
    let last : Row = get_or rows (length rows - 1) d in
    let front : List Row = take (length rows - 1) rows in
    let cut : RiseIn 0 (row.at + 1) (front ++ last ∷ []) = rw (split_last rows d some) at rise in
    let least = rise-front 0 (row.at + 1) front last [] cut in
    let most : last.at < row.at + 1 = rise-last 0 (row.at + 1) front last cut in
    let apart : (last.at == row.at) ≡ false = grind (arith, nat_tests) in
    let far : is_near row last ≡ false = rw apart refl in
    ap (λ (xs : List Row). is_repeat xs row) (split_last rows d some)
    ∙ repeat-more front last row
    ∙ far-event (is_near row last) last row (last_where (is_near row) front) far
    ∙ ap (is_event_of row) (none-later 0 (last.at + 1) front row least.0 (apart-le last.at row.at other most))
  where
    rise-last : (a b : ℕ) (xs : List Row) (r : Row) → RiseIn a b (xs ++ r ∷ []) → r.at < b
    rise-last a b [] r h = h.1
    rise-last a b (x ∷ xs) r h = rise-last x.at b xs r h.2

    apart-le : (m n : ℕ) → m ≢ n → m < n + 1 → m + 1 ≤ n
    apart-le m n h k = omega arith

-- ---- any repeat

-- rows none of which is a repeat, and then others
no_repeat-front : (before xs : List Row) (r : Row) (rest : List Row) → HasNoRepeat before (xs ++ r ∷ rest) → is_repeat (before ++ xs) r ≡ false
no_repeat-front before [] r rest h = rw (append-nil before) h.0
no_repeat-front before (x ∷ xs) r rest h = rw append_assoc at (no_repeat-front (before ++ x ∷ []) xs r rest h.1)

-- one repeat is enough
pub repeat-one : (rows : List Row) (i : ℕ) (d : Row) → i < length rows → is_repeat (take i rows) (get_or rows i d) ≡ true → HasRepeat rows
repeat-one rows i d h e = (take i rows, get_or rows i d, _, split_at rows i d h, e)

-- rows with a repeat aren't without one
pub repeat-not : (rows : List Row) → HasRepeat rows → HasNoRepeat [] rows → ⊥
repeat-not rows (before, row, after, e, yes_it_is) none =
    let no_it_isnt : is_repeat before row ≡ false = no_repeat-front [] before row after (rw e at none) in
    cc

pub event-param : (last row : Row) → last.code ≡ row.code → same_event last row ≡ (last.param == row.param)
event-param last row e = let f : (last.code == row.code) ≡ true = grind (arith, nat_tests) in rw f refl

pub event-code : (last row : Row) → last.code ≢ row.code → same_event last row ≡ (last.code == row.code)
event-code last row e = let f : (last.code == row.code) ≡ false = grind (arith, nat_tests) in rw f refl

-- all rows were looked at
pub no_repeat-all : (rows : List Row) (i : ℕ) → length rows ≤ i → HasNoRepeat [] (take i rows) → HasNoRepeat [] rows
no_repeat-all rows i h k = rw (take_all i rows h) at k

-- one row more was looked at
pub no_repeat-next : (rows : List Row) (i : ℕ) (d : Row) → i < length rows → HasNoRepeat [] (take i rows) → is_repeat (take i rows) (get_or rows i d) ≡ false → HasNoRepeat [] (take (i + 1) rows)
no_repeat-next rows i d h k e = rw (take_more rows i d h) (no_repeat-more [] (take i rows) (get_or rows i d) k e)
