-- Dropping the repeats of rows in order, and what is left then.
use Rattle.std.proofs.Common.{◌≡◌, ◌≤◌, ◌<◌, ◌+◌, ℕ, Bool, true, false, List, [], ◌∷◌, ◌++◌, length, refl, sym, ap, ◌∙◌, arith, drop, get_or, append_assoc, append-nil, if◌then◌else◌, inl, inr}
use Rattle.std.specs.Prelude.{◌==◌, ◌&&◌, Option, Some, None}
use Rattle.std.specs.Option.{option_or}
use Rattle.std.proofs.lemmas.Bool.Decides.{nat_tests}
use Rattle.std.proofs.lemmas.List.{length-append}
use Rattle.std.proofs.Math.ListN.{drop_of_length-le}
use Rattle.event_codes.specs.declared.channels.Group.{Group}
use Rattle.sig_base.specs.declared.values.Row.{Row}
use Rattle.sig_base.specs.HourRows.{RiseIn}
use Rattle.sig_base.proofs.Common.{next_row, or_none}
use Rattle.row_reader.specs.Repeats.{group_of_row, last_where, is_event_of, is_repeat, kept_after, without_repeats, repeats_of, HasNoRepeat, IsPartOf}
use Rattle.row_reader.specs.Last.{is_row, if_at, TellsAt}

pub or-assoc : (a b c : Option Row) → option_or (option_or a b) c ≡ option_or a (option_or b c)
or-assoc None b c = refl
or-assoc (Some r) b c = refl

pub last_where-more : (test : Row → Bool) (xs : List Row) (y : Row)
    → last_where test (xs ++ y ∷ []) ≡ option_or (if test y then Some y else None) (last_where test xs)
last_where-more test [] y = sym (or_none (if test y then Some y else None))
last_where-more test (x ∷ xs) y =
    ap (λ (o : Option Row). option_or o (if test x then Some x else None)) (last_where-more test xs y)
    ∙ or-assoc (if test y then Some y else None) (last_where test xs) (if test x then Some x else None)

-- ---- the last row of a group, and the last one at a tenth

front-le : (from to : ℕ) (xs : List Row) (row : Row) (rest : List Row) → RiseIn from to (xs ++ row ∷ rest) → from ≤ row.at
front-le from to [] row rest h = h.0
front-le from to (x ∷ xs) row rest h = omega (arith, h.0, front-le x.at to xs row rest h.2)

-- a row between two tenths
abbrev Lies : ℕ → ℕ → Row → Type 0
Lies from to r = (from ≤ r.at) × (r.at ≤ to)

lies-one : (from to : ℕ) (x r : Row) (b : Bool) → Lies from to x → (if b then Some x else None) ≡ Some r → Lies from to r
lies-one from to x r true h e = let q : x ≡ r = cc in rw (← q) h
lies-one from to x r false h e = cc

lies-or : (from to : ℕ) (x r : Row) (o : Option Row) (b : Bool) → Lies from to x → ((q : Row) → o ≡ Some q → Lies x.at to q)
    → option_or o (if b then Some x else None) ≡ Some r → Lies from to r
lies-or from to x r None b h k e = lies-one from to x r b h e
lies-or from to x r (Some q) b h k e =
    let s : q ≡ r = cc in
    let l : Lies x.at to q = k q refl in
    rw (← s) (omega (arith, h.0, l.0), l.1)

last-lies : (p : Row → Bool) (from to : ℕ) (xs : List Row) (row : Row) (rest : List Row) (r : Row)
    → RiseIn from to (xs ++ row ∷ rest) → last_where p xs ≡ Some r → Lies from row.at r
last-lies p from to [] row rest r h e = cc
last-lies p from to (x ∷ xs) row rest r h e =
    lies-or from row.at x r (last_where p xs) (p x) (h.0, front-le x.at to xs row rest h.2)
    (λ q f. last-lies p x.at to xs row rest q h.2 f) e

one_at : (t : ℕ) (x : Row) (a b : Bool) → (if a && b then Some x else None) ≡ (if b then (if a then Some x else None) else None)
one_at t x true true = refl
one_at t x true false = refl
one_at t x false true = refl
one_at t x false false = refl

at-one : (t : ℕ) (x : Row) (b : Bool) → (if b then (if x.at == t then Some x else None) else None) ≡ if_at t (if b then Some x else None)
at-one t x true = refl
at-one t x false = refl

earlier : (t : ℕ) (x r : Row) (a b : Bool) → (r.at == t) ≡ a → Lies x.at t r
    → option_or (if a then Some r else None) (if (x.at == t) && b then Some x else None) ≡ (if a then Some r else None)
earlier t x r true b e h = refl
earlier t x r false b e h = let f : (x.at == t) ≡ false = grind (arith, nat_tests, h.0, h.1) in rw f refl

at-step : (t : ℕ) (x : Row) (o : Option Row) (b : Bool) → ((r : Row) → o ≡ Some r → Lies x.at t r)
    → option_or (if_at t o) (if (x.at == t) && b then Some x else None) ≡ if_at t (option_or o (if b then Some x else None))
at-step t x None b h = one_at t x (x.at == t) b ∙ at-one t x b
at-step t x (Some r) b h = earlier t x r (r.at == t) b refl (h r refl)

pub last-at : (p : Row → Bool) (from to : ℕ) (xs : List Row) (row : Row) (rest : List Row) → RiseIn from to (xs ++ row ∷ rest)
    → last_where (λ r. (r.at == row.at) && p r) xs ≡ if_at row.at (last_where p xs)
last-at p from to [] row rest h = refl
last-at p from to (x ∷ xs) row rest h =
    ap (λ (o : Option Row). option_or o (if (x.at == row.at) && p x then Some x else None)) (last-at p x.at to xs row rest h.2)
    ∙ at-step row.at x (last_where p xs) (p x) (λ r e. last-lies p x.at to xs row rest r h.2 e)

event-if : (row r : Row) (a : Bool) → is_event_of row (if a then Some r else None) ≡ (a && ((r.code == row.code) && (r.param == row.param)))
event-if row r true = refl
event-if row r false = refl

event-at : (row : Row) (o : Option Row) → is_event_of row (if_at row.at o) ≡ is_row row o
event-at row None = refl
event-at row (Some r) = event-if row r (r.at == row.at)

-- the list with this row at its end, at the last tenth
pub rise-end : (from to : ℕ) (xs : List Row) (row : Row) → from ≤ row.at → row.at + 1 ≡ to → RiseIn from to xs → RiseIn from to (xs ++ row ∷ [])
rise-end from to [] row le e h = (le, omega (arith, e), tt)
rise-end from to (x ∷ xs) row le e h = (h.0, h.1, rise-end x.at to xs row (omega (arith, e, h.1)) e h.2)

-- what was looked up tells whether a further row is a repeat
pub repeat-told : (kept : List Row) (row : Row) (look_up : Group → Option Row) (b : Bool)
    → TellsAt row.at look_up kept → b ≡ is_row row (look_up (group_of_row row)) → b ≡ is_repeat kept row
repeat-told kept row look_up b tells e =
    e ∙ sym (event-at row (look_up (group_of_row row))) ∙ ap (is_event_of row) (tells (group_of_row row))

-- ---- the loop

pub rise-lower : (a b to : ℕ) (xs : List Row) → a ≤ b → RiseIn b to xs → RiseIn a to xs
rise-lower a b to [] h k = tt
rise-lower a b to (x ∷ xs) h k = (omega (arith, k.0), k.1, k.2)

rise-without : (from to : ℕ) (xs : List Row) (row : Row) (rest : List Row) → RiseIn from to (xs ++ row ∷ rest) → RiseIn from to (xs ++ rest)
rise-without from to [] row rest h = rise-lower from row.at to rest h.0 h.2
rise-without from to (x ∷ xs) row rest h = (h.0, h.1, rise-without x.at to xs row rest h.2)

-- the rows in front of others are in order, and none of them is behind the first of the others
pub rise-below : (from to : ℕ) (xs : List Row) (row : Row) (rest : List Row) → RiseIn from to (xs ++ row ∷ rest) → RiseIn from (row.at + 1) xs
rise-below from to [] row rest h = tt
rise-below from to (x ∷ xs) row rest h = (h.0, omega (arith, front-le x.at to xs row rest h.2), rise-below x.at to xs row rest h.2)

-- these rows are kept so far, and those are left
pub record IsKept (from to : ℕ) (rows kept rest : List Row) : Type 0 where
  pub same : without_repeats rows ≡ kept_after kept rest
  pub rise : RiseIn from to (kept ++ rest)
  pub count : length kept + length rest ≤ length rows

pub kept-start : (from to : ℕ) (rows : List Row) → RiseIn from to rows → IsKept from to rows [] rows
kept-start from to rows h = record { same = refl; rise = h; count = omega arith }

-- the next row is behind those that are kept, or at the tenth of the last one
pub kept-rise : (from to : ℕ) (rows kept : List Row) (i : ℕ) (d : Row) → i < length rows → IsKept from to rows kept (drop i rows)
    → RiseIn 0 ((get_or rows i d).at + 1) kept
kept-rise from to rows kept i d within h =
    let row : Row = get_or rows i d in
    let k : IsKept from to rows kept (row ∷ drop (i + 1) rows) = rw (next_row rows i d within) at h in
    rise-lower 0 from (row.at + 1) kept (omega arith) (rise-below from to kept row (drop (i + 1) rows) k.rise)

pub kept-dropped : (from to : ℕ) (rows kept : List Row) (i : ℕ) (d : Row) → i < length rows
    → IsKept from to rows kept (drop i rows) → is_repeat kept (get_or rows i d) ≡ true → IsKept from to rows kept (drop (i + 1) rows)
kept-dropped from to rows kept i d within h r =
    let row : Row = get_or rows i d in
    let k : IsKept from to rows kept (row ∷ drop (i + 1) rows) = rw (next_row rows i d within) at h in
    record {
      same = k.same ∙ ap (λ (b : Bool). kept_after (if b then kept else kept ++ row ∷ []) (drop (i + 1) rows)) r;
      rise = rise-without from to kept row (drop (i + 1) rows) k.rise;
      count = omega (arith, k.count);
    }

pub kept-added : (from to : ℕ) (rows kept : List Row) (i : ℕ) (d : Row) → i < length rows
    → IsKept from to rows kept (drop i rows) → is_repeat kept (get_or rows i d) ≡ false → IsKept from to rows (kept ++ get_or rows i d ∷ []) (drop (i + 1) rows)
kept-added from to rows kept i d within h r =
    let row : Row = get_or rows i d in
    let k : IsKept from to rows kept (row ∷ drop (i + 1) rows) = rw (next_row rows i d within) at h in
    record {
      same = k.same ∙ ap (λ (b : Bool). kept_after (if b then kept else kept ++ row ∷ []) (drop (i + 1) rows)) r;
      rise = rw (append_assoc kept (row ∷ []) (drop (i + 1) rows)) k.rise;
      count = omega (arith, k.count, length-append kept (row ∷ []));
    }

-- nothing is left
pub kept-end : (from to : ℕ) (rows kept : List Row) (i : ℕ) → length rows ≤ i
    → IsKept from to rows kept (drop i rows) → (kept ≡ without_repeats rows) × RiseIn from to kept
kept-end from to rows kept i h k =
    let e : drop i rows ≡ [] = drop_of_length-le rows h in
    let m : IsKept from to rows kept [] = rw e at k in
    (sym m.same, rw append-nil at m.rise)

-- ---- what is kept

-- what is kept after these rows
record More (kept rows : List Row) : Type 0 where
  pub more : List Row
  pub same : kept_after kept rows ≡ kept ++ more
  pub part : IsPartOf more rows

more-with : (kept : List Row) (row : Row) (rest : List Row) (b : Bool) → More kept rest → More (kept ++ row ∷ []) rest
    → (out : List Row) → out ≡ kept_after (if b then kept else kept ++ row ∷ []) rest
    → (more : List Row) × (out ≡ kept ++ more) × IsPartOf more (row ∷ rest)
more-with kept row rest true h k out e = (h.more, e ∙ h.same, inl h.part)
more-with kept row rest false h k out e =
    (row ∷ k.more, e ∙ k.same ∙ append_assoc kept (row ∷ []) k.more, inr (k.more, refl, k.part))

kept_after-more : (kept rows : List Row) → More kept rows
kept_after-more kept [] = record { more = []; same = sym (append-nil kept); part = refl }
kept_after-more kept (r ∷ rs) =
    let m = more-with kept r rs (is_repeat kept r) (kept_after-more kept rs) (kept_after-more (kept ++ r ∷ []) rs) (kept_after kept (r ∷ rs)) refl in
    record { more = m.0; same = m.1; part = m.2 }

pub kept-part : (rows : List Row) → IsPartOf (without_repeats rows) rows
kept-part rows = let m = kept_after-more [] rows in rw m.same m.part

part-length : (xs ys : List Row) → IsPartOf xs ys → length xs ≤ length ys
part-length xs [] h = rw h (omega arith)
part-length xs (y ∷ ys) h =
    elim h as (λ k. length xs ≤ length (y ∷ ys)) [
      | inl k ↦ omega (arith, part-length xs ys k)
      | inr k ↦ omega (arith, ap (λ (l : List Row). length l) k.1, part-length k.0 ys k.2)
    ]

pub kept-count : (rows : List Row) → length (without_repeats rows) + repeats_of rows ≡ length rows
kept-count rows = omega (arith, part-length (without_repeats rows) rows (kept-part rows))

pub no_repeat-more : (before xs : List Row) (row : Row) → HasNoRepeat before xs → is_repeat (before ++ xs) row ≡ false → HasNoRepeat before (xs ++ row ∷ [])
no_repeat-more before [] row h e = (rw (append-nil before) at e, tt)
no_repeat-more before (x ∷ xs) row h e =
    (h.0, no_repeat-more (before ++ x ∷ []) xs row h.1 (rw (append_assoc before (x ∷ []) xs) e))

no_repeat-after : (kept rows : List Row) → HasNoRepeat [] kept → HasNoRepeat [] (kept_after kept rows)
no_repeat-after kept [] h = h
no_repeat-after kept (r ∷ rs) h = go (is_repeat kept r) refl (no_repeat-after kept rs h) (λ k. no_repeat-after (kept ++ r ∷ []) rs k)
  where
    go : (b : Bool) → is_repeat kept r ≡ b → HasNoRepeat [] (kept_after kept rs) → (HasNoRepeat [] (kept ++ r ∷ []) → HasNoRepeat [] (kept_after (kept ++ r ∷ []) rs))
        → HasNoRepeat [] (kept_after (if b then kept else kept ++ r ∷ []) rs)
    go true e k m = k
    go false e k m = m (no_repeat-more [] kept r h e)

pub kept-no_repeat : (rows : List Row) → HasNoRepeat [] (without_repeats rows)
kept-no_repeat rows = no_repeat-after [] rows tt
