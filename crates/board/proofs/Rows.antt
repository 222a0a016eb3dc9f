-- The place of a row of the hour, and the runs before and after it.
use Rattle.std.proofs.Common.{suc, zero, ◌≡◌, refl, ap, sym, ◌∙◌, subst, inl, inr, ◌↔◌, ℕ, ◌+◌, ◌<◌, ◌≤◌, ℤ, pos, true, List, [], ◌∷◌, ◌++◌, length, length-append, take, drop, get_or, arith, Some}
use Rattle.std.proofs.lemmas.Bool.{eq-eqb, lt-ltb}
use Rattle.std.proofs.lemmas.List.{take_at, take-append-drop, take_more, drop_more, length-take-le, get_or_at}
use Rattle.colour_machine.specs.Rules.{Rules}
use Rattle.span_set.specs.declared.set.Span.{Span}
use Rattle.reach.specs.Runs.{State, Step, Steps}
use Rattle.channel_path.specs.declared.moves.Move.{Move}
use Rattle.channel_path.specs.declared.moves.Move.TheVariants.{Letter}
use Rattle.channel_path.specs.Walks.{AfterMoves}
use Rattle.channel_path.proofs.Moving.{after_end}
use Rattle.sig_base.specs.declared.values.Row.{Row}
use Rattle.gap_map.specs.declared.stretch.Stretch.{Stretch}
use Rattle.board.proofs.Bridge.{known_here, known_there}
use Rattle.board.proofs.Joining.{letters_join}
use Rattle.board.proofs.Cutting.{own_cut, to_walk, stretch_by, known_moves, events_join}
use Rattle.gap_map.specs.Stretches.{FollowOn, known_at}
use Rattle.gap_map.proofs.Cutting.{nat_cases}
use Rattle.board.specs.History.{Track, event_of, events_at, letters}
use Rattle.board.specs.Moves.{RowsIn, count_before, letter_moves, own}
use Rattle.board.specs.Stops.{StopRow}
use Rattle.board.specs.Logs.{no_row}
use Rattle.board.specs.Places.{IsPlace, IsStop, ToPlace, since, upto}

-- the rows before row n, and those from it on
pub rows_split : (f t n : ℕ) (rows : List Row) → RowsIn f t rows → n < length rows → RowsIn f ((get_or rows n no_row).at + 1) (take n rows) × RowsIn (get_or rows n no_row).at t (drop n rows) × (f ≤ (get_or rows n no_row).at) × ((get_or rows n no_row).at < t)
rows_split f t n [] h lt = absurd (omega arith)
rows_split f t zero (r ∷ rows) h lt = ((let a = h.0 in omega arith), (omega arith, h.1, h.2), h.0, h.1)
rows_split f t (suc n) (r ∷ rows) h lt = let (a, b, c, d) = rows_split r.at t n rows h.2 (omega arith) in ((h.0, (omega arith), a), b, (let q = h.0 in omega arith), d)

-- the places before row n and after it
pub place_before : (f t n : ℕ) (rows : List Row) (ss : List Stretch) → FollowOn f t ss → RowsIn f t rows → n < length rows → known_at ss (get_or rows n no_row).at ≡ true → IsPlace f t rows ss (get_or rows n no_row).at n
place_before f t n rows ss s h lt is = let (a, b, c, d) = rows_split f t n rows h lt in record { stretches = s; rows_in = h; first = c; last = d; is_known = is; count = omega arith; before = a; after = b }

rows_push : (f x : ℕ) (rs : List Row) (r : Row) → RowsIn f (x + 1) rs → r.at ≡ x → f ≤ x → RowsIn f (x + 1) (rs ++ r ∷ [])
rows_push f x [] r h e le = (omega arith, omega arith, omega arith)
rows_push f x (q ∷ rs) r h e le = (h.0, h.1, rows_push q.at x rs r h.2 e (let b = h.1 in omega arith))

pub place_after : (f t n : ℕ) (rows : List Row) (ss : List Stretch) → IsPlace f t rows ss (get_or rows n no_row).at n → n < length rows → IsPlace f t rows ss (get_or rows n no_row).at (n + 1)
place_after f t n rows ss p lt =
    let r = get_or rows n no_row in
    let more : RowsIn r.at t (r ∷ drop (n + 1) rows) = subst (λ (xs : List Row). RowsIn r.at t xs) (drop_more rows n no_row lt) p.after in
    record { stretches = p.stretches; rows_in = p.rows_in; first = p.first; last = p.last; is_known = p.is_known; count = omega arith; before = rw (take_more rows n no_row lt) (rows_push f r.at (take n rows) r p.before refl p.first); after = more.2 }

steps_push : (m : Rules) (t : ℤ) (ls : List ℕ) (l : ℕ) (s u : State) → Steps m t s (ls ++ l ∷ []) u ↔ ((v : State) × Steps m t s ls v × Step m t v l u)
steps_push m t [] l s u = ((λ (v, a, e). (s, refl, rw e a)), λ (v, e, a). (u, rw (← e) a, refl))
steps_push m t (x ∷ ls) l s u = (
  (λ (z, a, r). let (v, b, c) = (steps_push m t ls l z u).0 r in (v, (z, a, b), c)),
  λ (v, (z, a, b), c). (z, a, (steps_push m t ls l z u).1 (v, b, c)),
)

-- one row of the channel more
pub to_next : (k : Track) (rows : List Row) (ss : List Stretch) (f n l : ℕ) (s u : State) → n < length rows → k.letter (get_or rows n no_row).code (get_or rows n no_row).param ≡ Some l → ToPlace k rows ss f (get_or rows n no_row).at (n + 1) s u ↔ ((v : State) × ToPlace k rows ss f (get_or rows n no_row).at n s v × Step k.rules (pos (get_or rows n no_row).at) v l u)
to_next k rows ss f n l s u lt e =
    let r = get_or rows n no_row in
    let x = r.at in
    let here : events_at (r ∷ []) x ≡ event_of r ∷ [] = rw (eq-eqb x x refl) refl in
    let one : letters k (event_of r ∷ []) ≡ l ∷ [] = rw e refl in
    let ls : letters k (events_at (take (n + 1) rows) x) ≡ letters k (events_at (take n rows) x) ++ l ∷ [] = ap (λ rs. letters k (events_at rs x)) (take_more rows n no_row lt) ∙ (ap (λ zs. letters k zs) (events_join (take n rows) (r ∷ []) x ∙ ap (λ zs. events_at (take n rows) x ++ zs) here) ∙ (letters_join k (events_at (take n rows) x) (event_of r ∷ []) ∙ ap (λ zs. letters k (events_at (take n rows) x) ++ zs) one)) in
    rw ls (
      (λ (a, g, ev). let (v, b, c) = (steps_push k.rules (pos x) (letters k (events_at (take n rows) x)) l a u).0 ev in (v, (a, g, b), c)),
      λ (v, (a, g, b), c). (a, g, (steps_push k.rules (pos x) (letters k (events_at (take n rows) x)) l a u).1 (v, b, c)),
    )

-- the moves from the place before a row of the channel on begin with its letter
since_head : (k : Track) (f t x n l : ℕ) (r : Row) (rs : List Row) (ss : List Stretch) → FollowOn f t ss → f ≤ x → x < t → known_at ss x ≡ true → r.at ≡ x → k.letter r.code r.param ≡ Some l → (rest : List Move) × (own k n (r ∷ rs) (since x ss) ≡ Letter x l n ∷ rest)
since_head k f t x n l r rs [] h a b is e m = absurd (omega arith)
since_head k f t x n l r rs (s ∷ ss) h a b is e m = elim (nat_cases x s.to) [
  | inl (test, lt) ↦ rw test (
      let known : s.known ≡ true = sym (known_here s ss f t x h a lt) ∙ is in
      let s2 : Stretch = record { from = x; to = s.to; known = s.known } in
      let c = count_before s.to rs in
      let count : count_before s.to (r ∷ rs) ≡ suc c = rw (lt-ltb r.at s.to (omega arith)) refl in
      let one : own k n (r ∷ rs) (s2 ∷ ss) ≡ letter_moves k n (r ∷ take c rs) ++ own k (n + suc c) (drop c rs) ss = stretch_by k n (suc c) s2 ss (r ∷ rs) (r ∷ take c rs) (drop c rs) count refl refl ∙ ap (λ ms. ms ++ own k (n + suc c) (drop c rs) ss) (known_moves k n (r ∷ take c rs) s2 known) in
      let two : letter_moves k n (r ∷ take c rs) ≡ Letter x l n ∷ letter_moves k (n + 1) (take c rs) = rw (m, e) refl in
      (letter_moves k (n + 1) (take c rs) ++ own k (n + suc c) (drop c rs) ss, one ∙ ap (λ ms. ms ++ own k (n + suc c) (drop c rs) ss) two)
      )
  | inr (test, ge) ↦ rw test (since_head k s.to t x n l r rs ss h.2 ge b (sym (known_there s ss x ge) ∙ is) e m)
]

-- the channel's moves about its row n
pub about_row : (k : Track) (f t n l : ℕ) (rows : List Row) (ss : List Stretch) → FollowOn f t ss → RowsIn f t rows → n < length rows → known_at ss (get_or rows n no_row).at ≡ true → k.letter (get_or rows n no_row).code (get_or rows n no_row).param ≡ Some l → (rest : List Move) × (own k 0 rows ss ≡ own k 0 (take n rows) (upto (get_or rows n no_row).at ss) ++ Letter (get_or rows n no_row).at l n ∷ rest)
about_row k f t n l rows ss s h lt is m =
    let r = get_or rows n no_row in
    let x = r.at in
    let p = place_before f t n rows ss s h lt is in
    let len : length (take n rows) ≡ n = length-take-le n rows p.count in
    let number : 0 + length (take n rows) ≡ n = omega arith in
    let cut = own_cut k f t x 0 (take n rows) (drop n rows) ss s p.before p.after p.first p.last is in
    let (rest, head) = since_head k f t x n l r (drop (n + 1) rows) ss s p.first p.last is refl m in
    let tail : own k (0 + length (take n rows)) (drop n rows) (since x ss) ≡ Letter x l n ∷ rest = ap (λ i. own k i (drop n rows) (since x ss)) number ∙ (ap (λ rs. own k n rs (since x ss)) (drop_more rows n no_row lt) ∙ head) in
    (rest, ap (λ rs. own k 0 rs ss) (sym (take-append-drop n rows)) ∙ (cut ∙ ap (λ ms. own k 0 (take n rows) (upto x ss) ++ ms) tail))

-- a stop in plain words is one of the moves
pub stop_found : (k : Track) (f t n : ℕ) (rows : List Row) (ss : List Stretch) (before : List (List Span)) → FollowOn f t ss → RowsIn f t rows → IsStop k rows ss f before n → StopRow k.rules before (own k 0 rows ss) n
stop_found k f t n rows ss before s h stop =
    let r = get_or rows n no_row in
    let (l, m) = stop.letter in
    let p = place_before f t n rows ss s h stop.within stop.is_known in
    let xs = own k 0 (take n rows) (upto r.at ss) in
    let (rest, is) = about_row k f t n l rows ss s h stop.within stop.is_known m in
    let front : take (length xs) (own k 0 rows ss) ≡ xs = ap (λ ms. take (length xs) ms) is ∙ take_at xs (Letter r.at l n ∷ rest) (length xs) refl in
    let at : get_or (own k 0 rows ss) (length xs) (Letter 0 0 0) ≡ Letter r.at l n = ap (λ ms. get_or ms (length xs) (Letter 0 0 0)) is ∙ get_or_at xs (Letter r.at l n) rest (Letter 0 0 0) (length xs) refl in
    let size : length (own k 0 rows ss) ≡ length xs + suc (length rest) = ap length is ∙ length-append xs (Letter r.at l n ∷ rest) in
    let lt : length xs < length (own k 0 rows ss) = omega arith in
    let more : take (length xs + 1) (own k 0 rows ss) ≡ xs ++ Letter r.at l n ∷ [] = take_more (own k 0 rows ss) (length xs) (Letter 0 0 0) lt ∙ (ap (λ ms. ms ++ get_or (own k 0 rows ss) (length xs) (Letter 0 0 0) ∷ []) front ∙ ap (λ y. xs ++ y ∷ []) at) in
    let (u, (q, hq, toq)) = stop.some in (
      length xs,
      (
        lt,
        (u, (q, hq, rw front ((to_walk k rows ss f t r.at n q u p).0 toq))),
        λ z a. let b : AfterMoves k.rules before (xs ++ Letter r.at l n ∷ []) z = rw more at a in
            let (v, (w, hw, walk), ev) = (after_end k.rules before xs (Letter r.at l n) z).0 b in
            stop.none z (w, hw, (to_next k rows ss f n l w z stop.within m).1 (v, (to_walk k rows ss f t r.at n w v p).1 walk, ev)),
      ),
      rw at refl,
    )
