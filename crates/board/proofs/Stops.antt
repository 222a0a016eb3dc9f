-- A stop among the moves is a row of the hour at which no run goes on.
use Rattle.std.proofs.Common.{suc, zero, ◌≡◌, refl, ap, sym, ◌∙◌, subst, inl, inr, ℕ, ◌+◌, ◌-◌, ◌<◌, ◌≤◌, true, List, [], ◌∷◌, ◌++◌, length, length-append, length-drop, take, drop, get_or, arith, Option, Some, None}
use Rattle.std.proofs.lemmas.Bool.{cases_lt, cases_Bool}
use Rattle.std.proofs.lemmas.List.{take_at, take_more, length-take-le, get_or_at, get_or_append_left, get_or-append_right, get_or-take, get_or-drop}
use Rattle.span_set.specs.declared.set.Span.{Span}
use Rattle.channel_path.specs.declared.moves.Move.{Move}
use Rattle.channel_path.specs.declared.moves.Move.TheVariants.{Letter, Gap}
use Rattle.channel_path.specs.Walks.{StopsAt, IsMove}
use Rattle.channel_path.proofs.Moving.{gap_keeps, after_end, one_fits}
use Rattle.sig_base.specs.declared.values.Row.{Row}
use Rattle.gap_map.specs.declared.stretch.Stretch.{Stretch}
use Rattle.board.proofs.Bridge.{cut_rows, late_end, known_here, known_there}
use Rattle.board.proofs.Tracks.{Lettered}
use Rattle.board.proofs.Ordering.{own_order}
use Rattle.board.proofs.Cutting.{to_walk}
use Rattle.board.proofs.Rows.{rows_split, place_before, to_next, about_row}
use Rattle.gap_map.specs.Stretches.{FollowOn, known_at}
use Rattle.board.specs.History.{Track}
use Rattle.board.specs.Moves.{RowsIn, count_before, letter_moves, own, stretch_moves, with_letter}
use Rattle.board.specs.Stops.{StopRow, number}
use Rattle.board.specs.Logs.{no_row}
use Rattle.board.specs.Places.{IsStop, upto}
use Rattle.board.proofs.Adding.{count_le}

-- the numbers of the letters rise, from n on and up to m
NumbersIn : ℕ → ℕ → List Move → Type 0
NumbersIn n m [] = n ≤ m
NumbersIn n m (Letter a l i ∷ ms) = (n ≤ i) × NumbersIn (i + 1) m ms
NumbersIn n m (Gap f t ∷ ms) = NumbersIn n m ms

numbers_low : (a n m : ℕ) (ms : List Move) → a ≤ n → NumbersIn n m ms → NumbersIn a m ms
unfolding NumbersIn
numbers_low a n m [] h q = omega arith
numbers_low a n m (Letter x l i ∷ ms) h (q, r) = (omega arith, r)
numbers_low a n m (Gap f t ∷ ms) h q = numbers_low a n m ms h q

numbers_join : (n m p : ℕ) (ms ns : List Move) → NumbersIn n m ms → NumbersIn m p ns → NumbersIn n p (ms ++ ns)
unfolding NumbersIn
numbers_join n m p [] ns a b = numbers_low n m p ns a b
numbers_join n m p (Letter x l i ∷ ms) ns (q, r) b = (q, numbers_join (i + 1) m p ms ns r b)
numbers_join n m p (Gap f t ∷ ms) ns a b = numbers_join n m p ms ns a b

with_numbers : (o : Option ℕ) (at n m : ℕ) (ms : List Move) → NumbersIn (n + 1) m ms → NumbersIn n m (with_letter o at n ms)
unfolding NumbersIn
with_numbers None at n m ms h = numbers_low n (n + 1) m ms (omega arith) h
with_numbers (Some l) at n m ms h = (omega arith, h)

rows_numbers : (k : Track) (n m : ℕ) (rs : List Row) → n + length rs ≡ m → NumbersIn n m (letter_moves k n rs)
unfolding NumbersIn
rows_numbers k n m [] e = omega arith
rows_numbers k n m (r ∷ rs) e = with_numbers (k.letter r.code r.param) r.at n m (letter_moves k (n + 1) rs) (rows_numbers k (n + 1) m rs (omega arith))

part_numbers : (k : Track) (n m : ℕ) (rs : List Row) (s : Stretch) → n + length rs ≡ m → NumbersIn n m (stretch_moves k n rs s)
unfolding NumbersIn
part_numbers k n m rs s e = elim (cases_Bool s.known) [ inl is_known ↦ rw is_known (rows_numbers k n m rs e) | inr not_known ↦ rw not_known (omega arith) ]

own_numbers : (k : Track) (n m : ℕ) (rows : List Row) (ss : List Stretch) → n + length rows ≡ m → NumbersIn n m (own k n rows ss)
unfolding NumbersIn
own_numbers k n m rows [] e = omega arith
own_numbers k n m rows (s ∷ ss) e =
    let c = count_before s.to rows in
    let le = count_le s.to rows in
    let lt1 : length (take c rows) ≡ c = length-take-le c rows le in
    let ld : length (drop c rows) ≡ length rows - c = length-drop c rows in
    numbers_join n (n + c) m (stretch_moves k n (take c rows) s) (own k (n + c) (drop c rows) ss) (part_numbers k n (n + c) (take c rows) s (omega arith)) (own_numbers k (n + c) m (drop c rows) ss (omega arith))

from_at : (n m i a l q : ℕ) (d : Move) (ms : List Move) → NumbersIn n m ms → i < length ms → get_or ms i d ≡ Letter a l q → n ≤ q
unfolding NumbersIn
from_at n m i a l q d [] h lt e = absurd (omega arith)
from_at n m zero a l q d (Letter x y z ∷ ms) (h, g) lt e = let same : z ≡ q = cc in omega arith
from_at n m zero a l q d (Gap f t ∷ ms) h lt e = absurd (cc)
from_at n m (suc i) a l q d (Letter x y z ∷ ms) (h, g) lt e = let k = from_at (z + 1) m i a l q d ms g (omega arith) e in omega arith
from_at n m (suc i) a l q d (Gap f t ∷ ms) h lt e = from_at n m i a l q d ms h (omega arith) e

-- a number stands once
index_once : (n m i j a l b r q : ℕ) (d : Move) (ms : List Move) → NumbersIn n m ms → i < length ms → j < length ms → get_or ms i d ≡ Letter a l q → get_or ms j d ≡ Letter b r q → i ≡ j
unfolding NumbersIn
index_once n m i j a l b r q d [] h li lj e f = absurd (omega arith)
index_once n m zero zero a l b r q d (x ∷ ms) h li lj e f = refl
index_once n m zero (suc j) a l b r q d (Letter x y z ∷ ms) (h, g) li lj e f = let same : z ≡ q = cc in let k = from_at (z + 1) m j b r q d ms g (omega arith) f in absurd (omega arith)
index_once n m zero (suc j) a l b r q d (Gap x t ∷ ms) h li lj e f = absurd (cc)
index_once n m (suc i) zero a l b r q d (Letter x y z ∷ ms) (h, g) li lj e f = let same : z ≡ q = cc in let k = from_at (z + 1) m i a l q d ms g (omega arith) e in absurd (omega arith)
index_once n m (suc i) zero a l b r q d (Gap x t ∷ ms) h li lj e f = absurd (cc)
index_once n m (suc i) (suc j) a l b r q d (Letter x y z ∷ ms) (h, g) li lj e f = ap suc (index_once (z + 1) m i j a l b r q d ms g (omega arith) (omega arith) e f)
index_once n m (suc i) (suc j) a l b r q d (Gap x t ∷ ms) h li lj e f = ap suc (index_once n m i j a l b r q d ms h (omega arith) (omega arith) e f)

-- a letter among the moves is that of a row
RowOf : Track → ℕ → List Row → ℕ → ℕ → ℕ → ℕ → Type 0
RowOf k n rows a l i q = (i ≡ n + q) × (q < length rows) × ((get_or rows q no_row).at ≡ a) × (k.letter (get_or rows q no_row).code (get_or rows q no_row).param ≡ Some l)

with_row : (k : Track) (n j a l i : ℕ) (d : Move) (r : Row) (rs : List Row) (o : Option ℕ) → k.letter r.code r.param ≡ o → ((i2 : ℕ) → i2 < length (letter_moves k (n + 1) rs) → get_or (letter_moves k (n + 1) rs) i2 d ≡ Letter a l i → (q : ℕ) × RowOf k (n + 1) rs a l i q) → j < length (with_letter o r.at n (letter_moves k (n + 1) rs)) → get_or (with_letter o r.at n (letter_moves k (n + 1) rs)) j d ≡ Letter a l i → (q : ℕ) × RowOf k n (r ∷ rs) a l i q
unfolding RowOf
with_row k n j a l i d r rs None e h lt g = let (q, (x, y, z, w)) = h j lt g in (suc q, (omega arith, omega arith, z, w))
with_row k n zero a l i d r rs (Some m) e h lt g = let s1 : r.at ≡ a = cc in let s2 : m ≡ l = cc in let s3 : n ≡ i = cc in (zero, (omega arith, omega arith, s1, e ∙ ap (λ y. Some y) s2))
with_row k n (suc j) a l i d r rs (Some m) e h lt g = let (q, (x, y, z, w)) = h j (omega arith) g in (suc q, (omega arith, omega arith, z, w))

rows_origin : (k : Track) (n j a l i : ℕ) (d : Move) (rs : List Row) → j < length (letter_moves k n rs) → get_or (letter_moves k n rs) j d ≡ Letter a l i → (q : ℕ) × RowOf k n rs a l i q
unfolding RowOf
rows_origin k n j a l i d [] lt e = absurd (omega arith)
rows_origin k n j a l i d (r ∷ rs) lt e = with_row k n j a l i d r rs (k.letter r.code r.param) refl (λ j2 l2 e2. rows_origin k (n + 1) j2 a l i d rs l2 e2) lt e

gap_no : (f t j a l i : ℕ) (d : Move) → j < 1 → get_or (Gap f t ∷ []) j d ≡ Letter a l i → ⊥
gap_no f t zero a l i d lt e = absurd (cc)
gap_no f t (suc j) a l i d lt e = absurd (omega arith)

part_origin : (k : Track) (n j a l i : ℕ) (d : Move) (rs : List Row) (s : Stretch) → j < length (stretch_moves k n rs s) → get_or (stretch_moves k n rs s) j d ≡ Letter a l i → (s.known ≡ true) × ((q : ℕ) × RowOf k n rs a l i q)
unfolding RowOf
part_origin k n j a l i d rs s lt e = elim (cases_Bool s.known) [
  | inl is_known ↦ (is_known, rows_origin k n j a l i d rs (rw is_known at lt) (rw is_known at e))
  | inr not_known ↦ absurd (gap_no s.from s.to j a l i d (rw not_known at lt) (rw not_known at e))
]

-- and its tenth is known
own_origin : (k : Track) (f t n j a l i : ℕ) (d : Move) (rows : List Row) (ss : List Stretch) → FollowOn f t ss → RowsIn f t rows → j < length (own k n rows ss) → get_or (own k n rows ss) j d ≡ Letter a l i → (known_at ss a ≡ true) × ((q : ℕ) × RowOf k n rows a l i q)
unfolding RowOf
own_origin k f t n j a l i d rows [] h r lt e = absurd (omega arith)
own_origin k f t n j a l i d rows (s ∷ ss) h r lt e =
    let c = count_before s.to rows in
    let le = count_le s.to rows in
    let sm = stretch_moves k n (take c rows) s in
    let tail = own k (n + c) (drop c rows) ss in
    let size : length (sm ++ tail) ≡ length sm + length tail = length-append sm tail in
    let end = late_end s.to t ss h.2 in
    let pos_f = h.1 in
    let (k1, k2, _, _) = cut_rows f s.to t rows (omega arith) end r in
    elim (cases_lt j (length sm)) [
      | inl l1 ↦
          let (known, (q, (x, y, z, w))) = part_origin k n j a l i d (take c rows) s l1 (sym (get_or_append_left sm tail d j l1) ∙ e) in
          let lt1 : length (take c rows) ≡ c = length-take-le c rows le in
          let same : get_or (take c rows) q no_row ≡ get_or rows q no_row = get_or-take c rows q no_row (omega arith) in
          let (_, _, b1, b2) = rows_split f s.to q (take c rows) k1 y in
          (known_here s ss f t a h (rw z at b1) (rw z at b2) ∙ known, (q, (x, omega arith, rw (← same) z, rw (← same) w)))
      | inr ge ↦
          let (known, (q, (x, y, z, w))) = own_origin k s.to t (n + c) (j - length sm) a l i d (drop c rows) ss h.2 k2 (omega arith) (sym (get_or-append_right sm tail (length sm) j d refl ge) ∙ e) in
          let ld : length (drop c rows) ≡ length rows - c = length-drop c rows in
          let same : get_or (drop c rows) q no_row ≡ get_or rows (c + q) no_row = get_or-drop c rows q no_row in
          let (_, _, b1, b2) = rows_split s.to t q (drop c rows) k2 y in
          (known_there s ss a (rw z at b1) ∙ known, (c + q, (omega arith, omega arith, rw (← same) z, rw (← same) w)))
    ]

-- a stop among the moves is one in plain words
stop_letter : (k : Track) (f t n j : ℕ) (rows : List Row) (ss : List Stretch) (before : List (List Span)) (y : Move) → Lettered k → FollowOn f t ss → RowsIn f t rows → get_or (own k 0 rows ss) j (Letter 0 0 0) ≡ y → StopsAt k.rules before (own k 0 rows ss) j → number y ≡ n → IsStop k rows ss f before n
unfolding RowOf
stop_letter k f t n j rows ss before (Gap a b) small s h is (lt, (u, some), none) e =
    let order = (own_order k f t 0 rows ss small s h).0 in
    let fits : a < b = subst (λ (y : Move). IsMove k.rules y) is (one_fits k.rules f j (own k 0 rows ss) (Letter 0 0 0) lt order) in
    let more : take (j + 1) (own k 0 rows ss) ≡ take j (own k 0 rows ss) ++ Gap a b ∷ [] = take_more (own k 0 rows ss) j (Letter 0 0 0) lt ∙ ap (λ y. take j (own k 0 rows ss) ++ y ∷ []) is in
    absurd (none u (rw more ((after_end k.rules before (take j (own k 0 rows ss)) (Gap a b) u).1 (u, some, gap_keeps k.rules a b u fits))))
stop_letter k f t n j rows ss before (Letter a l i) small s h is (lt, (u, some), none) e =
    let (known, (q, (x, y, z, w))) = own_origin k f t 0 j a l i (Letter 0 0 0) rows ss s h lt is in
    let same : q ≡ n = omega arith in
    let yn : n < length rows = rw (← same) y in
    let zn : (get_or rows n no_row).at ≡ a = rw (← same) z in
    let wn : k.letter (get_or rows n no_row).code (get_or rows n no_row).param ≡ Some l = rw (← same) w in
    let kn : known_at ss (get_or rows n no_row).at ≡ true = rw zn known in
    let xs = own k 0 (take n rows) (upto (get_or rows n no_row).at ss) in
    let move = Letter (get_or rows n no_row).at l n in
    let p = place_before f t n rows ss s h yn kn in
    let (rest, about) = about_row k f t n l rows ss s h yn kn wn in
    let front : take (length xs) (own k 0 rows ss) ≡ xs = ap (λ ms. take (length xs) ms) about ∙ take_at xs (move ∷ rest) (length xs) refl in
    let at : get_or (own k 0 rows ss) (length xs) (Letter 0 0 0) ≡ move = ap (λ ms. get_or ms (length xs) (Letter 0 0 0)) about ∙ get_or_at xs move rest (Letter 0 0 0) (length xs) refl in
    let size : length (own k 0 rows ss) ≡ length xs + suc (length rest) = ap length about ∙ length-append xs (move ∷ rest) in
    let is2 : get_or (own k 0 rows ss) j (Letter 0 0 0) ≡ Letter a l n = rw e at is in
    let j_is : j ≡ length xs = index_once 0 (length rows) j (length xs) a l (get_or rows n no_row).at l n (Letter 0 0 0) (own k 0 rows ss) (own_numbers k 0 (length rows) rows ss (omega arith)) lt (omega arith) is2 at in
    let here : take j (own k 0 rows ss) ≡ xs = ap (λ i. take i (own k 0 rows ss)) j_is ∙ front in
    let more : take (j + 1) (own k 0 rows ss) ≡ xs ++ move ∷ [] = take_more (own k 0 rows ss) j (Letter 0 0 0) lt ∙ (ap (λ ms. ms ++ get_or (own k 0 rows ss) j (Letter 0 0 0) ∷ []) here ∙ ap (λ y. xs ++ y ∷ []) (ap (λ i. get_or (own k 0 rows ss) i (Letter 0 0 0)) j_is ∙ at)) in
    record {
      within = yn;
      is_known = kn;
      letter = (l, wn);
      some = (let (v, hv, walk) = some in (u, (v, hv, (to_walk k rows ss f t (get_or rows n no_row).at n v u p).1 (rw here at walk))));
      none = λ o (v, hv, toq). none o (rw more ((after_end k.rules before xs move o).1 (let (b, c, ev) = (to_next k rows ss f n l v o yn wn).0 toq in (b, (v, hv, (to_walk k rows ss f t (get_or rows n no_row).at n v b p).0 c), ev))));
    }

pub stop_plain : (k : Track) (f t n : ℕ) (rows : List Row) (ss : List Stretch) (before : List (List Span)) → Lettered k → FollowOn f t ss → RowsIn f t rows → StopRow k.rules before (own k 0 rows ss) n → IsStop k rows ss f before n
stop_plain k f t n rows ss before small s h (j, stops, e) = stop_letter k f t n j rows ss before (get_or (own k 0 rows ss) j (Letter 0 0 0)) small s h refl stops e
