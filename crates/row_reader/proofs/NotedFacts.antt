-- What is noted of the rows of one tenth.
use Rattle.std.proofs.Common.{◌≡◌, ◌≤◌, ◌<◌, ◌+◌, ℕ, zero, suc, Bool, true, false, List, [], ◌∷◌, ◌++◌, length, refl, sym, ap, ◌∙◌, arith, ◌-◌, take, drop, get_or, add-one, append_assoc, if◌then◌else◌}
use Rattle.std.specs.Prelude.{◌==◌, ◌&&◌, Option, Some, None, replicate}
use Rattle.std.specs.Option.{option_or}
use Rattle.std.proofs.lemmas.Bool.Decides.{nat_tests}
use Rattle.std.proofs.lemmas.List.{take-append-drop, take_all}
use Rattle.event_codes.specs.declared.channels.Group.{Group}
use Rattle.event_codes.specs.declared.channels.Group.TheVariants.{Of, Alone}
use Rattle.event_codes.specs.Cells.{cell_of}
use Rattle.event_codes.specs.Channels.{same_group}
use Rattle.event_codes.proofs.Groups.{same_group-is, same_group-symm}
use Rattle.sig_base.specs.declared.values.Row.{Row}
use Rattle.sig_base.specs.HourRows.{RiseIn}
use Rattle.sig_base.proofs.Common.{and_first, and_last, or_none}
use Rattle.row_reader.specs.Repeats.{group_of_row, last_where}
use Rattle.row_reader.specs.Last.{no_row, is_row, if_at, last_of, looked_up, IsWithAll, IsWithLast, Knows, StartsAt}
use Rattle.row_reader.proofs.RepeatFacts.{last_where-more, last-at, or-assoc, rise-below, rise-end, rise-lower}

abbrev no_one : Option Row
no_one = None

get_or-none : (n i : ℕ) → get_or (replicate n no_one) i no_one ≡ no_one
get_or-none zero i = refl
get_or-none (suc n) zero = refl
get_or-none (suc n) (suc i) = get_or-none n i

get_or-nones : (cells : List (Option Row)) (n i : ℕ) → get_or (cells ++ replicate n no_one) i no_one ≡ get_or cells i no_one
get_or-nones [] n i = get_or-none n i
get_or-nones (x ∷ xs) n zero = refl
get_or-nones (x ∷ xs) n (suc i) = get_or-nones xs n i

-- ---- one row more is noted

rise-front : (a b : ℕ) (xs ys : List Row) → RiseIn a b (xs ++ ys) → RiseIn a b xs
rise-front a b [] ys h = tt
rise-front a b (x ∷ xs) ys h = (h.0, h.1, rise-front x.at b xs ys h.2)

before-one : (b : Bool) (row r : Row) (o : Option Row) (until : ℕ) → row.at < until → ((q : Row) → o ≡ Some q → q.at < until)
    → (if b then Some row else o) ≡ Some r → r.at < until
before-one true row r o until h k e = let s : row ≡ r = cc in rw (← s) h
before-one false row r o until h k e = k r e

at-one : (t : ℕ) (row : Row) (b c : Bool) (o p : Option Row) → b ≡ c → (row.at == t) ≡ true → if_at t o ≡ p
    → if_at t (if b then Some row else o) ≡ option_or (if (row.at == t) && c then Some row else None) p
at-one t row true true o p e f h = rw f refl
at-one t row true false o p e f h = cc
at-one t row false true o p e f h = cc
at-one t row false false o p e f h = rw f h

-- a row of the tenth whose rows are noted was noted too
pub knows-noted : (until : ℕ) (old new : Group → Option Row) (kept : List Row) (row : Row) → row.at + 1 ≡ until → Knows until old kept → IsWithLast row old new
    → Knows until new (kept ++ row ∷ [])
knows-noted until old new kept row here h w = (
  λ b rise g r e. before-one (same_group (group_of_row row) g) row r (old g) until (omega (arith, here)) (h.0 b (rise-front 0 b kept (row ∷ []) rise) g) (sym (w g) ∙ e),
  λ t e rise g.
      let same : (row.at == t) ≡ true = grind (arith, nat_tests) in
      ap (if_at t) (w g)
      ∙ at-one t row (same_group (group_of_row row) g) (same_group g (group_of_row row)) (old g) _ (same_group-symm (group_of_row row) g) same
      (h.1 t e (rise-front 0 until kept (row ∷ []) rise) g)
      ∙ sym (last_where-more (λ r. (r.at == t) && same_group g (group_of_row r)) kept row),
)

same_parts : (a b : Row) → a.at ≡ b.at → a.code ≡ b.code → a.param ≡ b.param → a ≡ b
same_parts a b p q r =
    let made : ℕ → ℕ → ℕ → Row = λ at code param. record { at = at; code = code; param = param } in
    ap (λ (n : ℕ). made n a.code a.param) p ∙ ap (λ (n : ℕ). made b.at n a.param) q ∙ ap (λ (n : ℕ). made b.at b.code n) r

is_row-some : (row : Row) (o : Option Row) → is_row row o ≡ true → o ≡ Some row
is_row-some row None h = cc
is_row-some row (Some r) h =
    let parts : (r.code == row.code) && (r.param == row.param) ≡ true = and_last (r.at == row.at) _ h in
    let at : (r.at == row.at) ≡ true = and_first _ _ h in
    let code : (r.code == row.code) ≡ true = and_first _ _ parts in
    let param : (r.param == row.param) ≡ true = and_last (r.code == row.code) _ parts in
    ap (λ (q : Row). Some q) (same_parts r row (grind (arith, nat_tests)) (grind (arith, nat_tests)) (grind (arith, nat_tests)))

-- the last row of its group was noted once more, which changes nothing
same_looks : (old new : Group → Option Row) (row : Row) → IsWithLast row old new → is_row row (old (group_of_row row)) ≡ true → (g : Group) → new g ≡ old g
same_looks old new row w h g = w g ∙ go (same_group (group_of_row row) g) refl
  where
    go : (b : Bool) → same_group (group_of_row row) g ≡ b → (if b then Some row else old g) ≡ old g
    go true e = sym (is_row-some row (old (group_of_row row)) h) ∙ ap old ((same_group-is (group_of_row row) g).0 e)
    go false e = refl

pub knows-again : (until : ℕ) (old new : Group → Option Row) (kept : List Row) (row : Row) → Knows until old kept → IsWithLast row old new
    → is_row row (old (group_of_row row)) ≡ true → Knows until new kept
knows-again until old new kept row h w same = (
  λ b rise g r e. h.0 b rise g r (sym (same_looks old new row w same g) ∙ e),
  λ t e rise g. ap (if_at t) (same_looks old new row w same g) ∙ h.1 t e rise g,
)

-- a row of another tenth changes nothing
pub knows-passed : (until : ℕ) (look_up : Group → Option Row) (kept : List Row) (row : Row) → (row.at + 1 ≡ until → ⊥) → Knows until look_up kept
    → Knows until look_up (kept ++ row ∷ [])
knows-passed until look_up kept row other h = (
  λ b rise. h.0 b (rise-front 0 b kept (row ∷ []) rise),
  λ t e rise g.
      let apart : (row.at == t) ≡ false = not_at t e in
      h.1 t e (rise-front 0 until kept (row ∷ []) rise) g
      ∙ none-more apart (same_group g (group_of_row row)) (last_where (λ r. (r.at == t) && same_group g (group_of_row r)) kept)
      ∙ sym (last_where-more (λ r. (r.at == t) && same_group g (group_of_row r)) kept row),
)
  where
    not_at : (t : ℕ) → until ≡ t + 1 → (row.at == t) ≡ false
    not_at t e = let ne : row.at ≡ t → ⊥ = λ q. other (omega (arith, q, e)) in grind (arith, nat_tests)

    none-more : {b : Bool} → b ≡ false → (c : Bool) (p : Option Row) → p ≡ option_or (if b && c then Some row else None) p
    none-more e c p = rw e refl

-- ---- the rows of a tenth are noted

last_where-append : (test : Row → Bool) (xs ys : List Row) → last_where test (xs ++ ys) ≡ option_or (last_where test ys) (last_where test xs)
last_where-append test [] ys = sym (or_none (last_where test ys))
last_where-append test (x ∷ xs) ys =
    ap (λ (o : Option Row). option_or o (if test x then Some x else None)) (last_where-append test xs ys)
    ∙ or-assoc (last_where test ys) (last_where test xs) (if test x then Some x else None)

one-more : (b c : Bool) (row : Row) (o p : Option Row) → b ≡ c → (if b then Some row else option_or o p) ≡ option_or (option_or (if c then Some row else None) o) p
one-more true true row o p e = refl
one-more true false row o p e = cc
one-more false true row o p e = cc
one-more false false row o p e = refl

-- one row more was noted
pub all-more : (rows : List Row) (row : Row) (old mid new : Group → Option Row) → IsWithAll rows old mid → IsWithLast row mid new → IsWithAll (rows ++ row ∷ []) old new
all-more rows row old mid new h w g =
    w g ∙ ap (λ (o : Option Row). if same_group (group_of_row row) g then Some row else o) (h g)
    ∙ one-more (same_group (group_of_row row) g) (same_group g (group_of_row row)) row (last_of g rows) (old g) (same_group-symm (group_of_row row) g)
    ∙ ap (λ (o : Option Row). option_or o (old g)) (sym (last_where-more (λ r. same_group g (group_of_row r)) rows row))

before-step : (x r : Row) (b : ℕ) (o : Option Row) (c : Bool) → x.at < b → ((q : Row) → o ≡ Some q → q.at < b)
    → option_or o (if c then Some x else None) ≡ Some r → r.at < b
before-step x r b None true h k e = let s : x ≡ r = cc in rw (← s) h
before-step x r b None false h k e = cc
before-step x r b (Some q) c h k e = let s : q ≡ r = cc in rw (← s) (k q refl)

-- the last of these rows that passes a test is before what they all are before
before-last : (p : Row → Bool) (a b : ℕ) (xs : List Row) (r : Row) → RiseIn a b xs → last_where p xs ≡ Some r → r.at < b
before-last p a b [] r h e = cc
before-last p a b (x ∷ xs) r h e = before-step x r b (last_where p xs) (p x) h.1 (λ q f. before-last p x.at b xs q h.2 f) e

-- the rows in front of a place are before a tenth where the last of them is
before-place : (a b t n : ℕ) (xs : List Row) → RiseIn a b xs → n ≤ length xs → ((k : ℕ) → n ≡ k + 1 → (get_or xs k no_row).at < t) → RiseIn a t (take n xs)
before-place a b t zero xs h le last = tt
before-place a b t (suc n) [] h le last = absurd (omega arith)
before-place a b t (suc zero) (x ∷ xs) h le last = (h.0, last 0 (omega arith), tt)
before-place a b t (suc (suc n)) (x ∷ y ∷ ys) h le last =
    let m = before-place x.at b t (suc n) (y ∷ ys) h.2 (omega arith) (λ k e. rw (add-one k) at (last (k + 1) (omega (arith, e)))) in
    (h.0, omega (arith, m.0, m.1), m)
before-place a b t (suc (suc n)) (x ∷ []) h le last = absurd (omega arith)

rise-rest : (a b : ℕ) (xs ys : List Row) → RiseIn a b (xs ++ ys) → RiseIn 0 b ys
rise-rest a b [] ys h = rise-lower 0 a b ys (omega arith) h
rise-rest a b (x ∷ xs) ys h = rise-rest x.at b xs ys h.2

none-at : (t : ℕ) (o : Option Row) → ((r : Row) → o ≡ Some r → r.at < t) → if_at t o ≡ None
none-at t None h = refl
none-at t (Some r) h = let below : r.at < t = h r refl in let e : (r.at == t) ≡ false = grind (arith, nat_tests) in rw e refl

same-at : (t : ℕ) (a b c : Option Row) → ((r : Row) → b ≡ Some r → r.at < t) → ((r : Row) → c ≡ Some r → r.at < t)
    → if_at t (option_or a b) ≡ if_at t (option_or a c)
same-at t (Some r) b c h k = refl
same-at t None b c h k = none-at t b h ∙ sym (none-at t c k)

before-or : (b : ℕ) (o p : Option Row) (r : Row) → ((q : Row) → o ≡ Some q → q.at < b) → ((q : Row) → p ≡ Some q → q.at < b) → option_or o p ≡ Some r → r.at < b
before-or b None p r h k e = k r e
before-or b (Some q) p r h k e = h r e

-- the rows in front of a place, those from there on, and one more
split-more : (kept : List Row) (row : Row) (n : ℕ) → kept ++ row ∷ [] ≡ take n kept ++ (drop n kept ++ row ∷ [])
split-more kept row n = ap (λ (xs : List Row). xs ++ row ∷ []) (sym (take-append-drop n kept)) ∙ append_assoc (take n kept) (drop n kept) (row ∷ [])

-- all rows of a later tenth were noted, with one more of it
pub knows-begun : (until : ℕ) (old new : Group → Option Row) (kept run : List Row) (row : Row) (n : ℕ) → run ≡ drop n kept → StartsAt row.at n kept → until ≤ row.at
    → Knows until old kept → IsWithAll (run ++ row ∷ []) old new → Knows (row.at + 1) new (kept ++ row ∷ [])
knows-begun until old new kept run row n is starts later h w = (
  λ b rise g r e. before-or (row.at + 1) (last_of g (run ++ row ∷ [])) (old g) r (λ q f. before-last _ 0 (row.at + 1) (run ++ row ∷ []) q (ends b rise) f)
      (λ q f. omega (arith, h.0 b (rise-front 0 b kept (row ∷ []) rise) g q f)) (sym (w g) ∙ e),
  λ t e rise g. let here : t ≡ row.at = omega (arith, e) in rw here (tells g rise),
)
  where
    split : kept ++ row ∷ [] ≡ take n kept ++ (run ++ row ∷ [])
    split = split-more kept row n ∙ ap (λ (xs : List Row). take n kept ++ (xs ++ row ∷ [])) (sym is)

    ends : (b : ℕ) → RiseIn 0 b (kept ++ row ∷ []) → RiseIn 0 (row.at + 1) (run ++ row ∷ [])
    ends b rise =
        let all : RiseIn 0 (row.at + 1) (kept ++ row ∷ []) = rise-end 0 (row.at + 1) kept row (omega arith) refl (rise-below 0 b kept row [] rise) in
        rise-rest 0 (row.at + 1) (take n kept) (run ++ row ∷ []) (rw split at all)

    tells : (g : Group) → RiseIn 0 (row.at + 1) (kept ++ row ∷ [])
        → if_at row.at (new g) ≡ last_where (λ r. (r.at == row.at) && same_group g (group_of_row r)) (kept ++ row ∷ [])
    tells g rise =
        let p : Row → Bool = λ r. same_group g (group_of_row r) in
        let front : RiseIn 0 row.at (take n kept) = before-place 0 (row.at + 1) row.at n kept (rise-front 0 (row.at + 1) kept (row ∷ []) rise) starts.0 starts.1 in
        ap (if_at row.at) (w g)
        ∙ same-at row.at (last_of g (run ++ row ∷ [])) (old g) (last_of g (take n kept))
        (λ q f. omega (arith, later, h.0 (row.at + 1) (rise-front 0 (row.at + 1) kept (row ∷ []) rise) g q f))
        (λ q f. before-last p 0 row.at (take n kept) q front f)
        ∙ ap (if_at row.at) (sym (last_where-append p (take n kept) (run ++ row ∷ [])) ∙ ap (last_where p) (sym split))
        ∙ sym (last-at p 0 (row.at + 1) (kept ++ row ∷ []) row [] (rise-end 0 (row.at + 1) (kept ++ row ∷ []) row (omega arith) refl rise))

-- cells without a row behind those that there are change nothing
pub looked_up-more : (cells new : List (Option Row)) (n : ℕ) (alone : ℕ × ℕ → Option Row) → length cells ≤ n → new ≡ take n cells ++ replicate (n - length cells) None
    → (g : Group) → looked_up new alone g ≡ looked_up cells alone g
looked_up-more cells new n alone le e (Of c) =
    ap (λ (xs : List (Option Row)). get_or xs (cell_of c) no_one) (e ∙ ap (λ (xs : List (Option Row)). xs ++ replicate (n - length cells) no_one) (take_all n cells le))
    ∙ get_or-nones cells (n - length cells) (cell_of c)
looked_up-more cells new n alone le e (Alone code param) = refl
