-- The moves up to a place, and those from it on.
use Rattle.std.proofs.Common.{suc, zero, ◌≡◌, refl, ap, sym, ◌∙◌, inl, inr, ◌↔◌, ℕ, ◌+◌, ◌-◌, ◌<◌, ◌≤◌, ℤ, pos, true, List, [], ◌∷◌, ◌++◌, length, length-append, length-drop, take, drop, get_or, arith, Option, Some, None}
use Rattle.std.proofs.lemmas.Int.{ints}
use Rattle.std.proofs.lemmas.Bool.{cases_Bool}
use Rattle.std.proofs.lemmas.List.{take_at, drop_at, take_all, drop_all, append-nil, take-append-drop, get_or_append_left, get_or-append_right, length-take-le}
use Rattle.colour_machine.specs.Rules.{Rules}
use Rattle.span_set.specs.declared.set.Span.{Span}
use Rattle.reach.specs.Runs.{State}
use Rattle.reach.specs.declared.seen.Test.{Test}
use Rattle.reach.specs.declared.seen.Seen.{Seen}
use Rattle.reach.proofs.Later.{then_iff}
use Rattle.channel_path.specs.declared.moves.Move.{Move}
use Rattle.channel_path.specs.declared.moves.Move.TheVariants.{Letter, Gap}
use Rattle.channel_path.specs.Walks.{InOrder}
use Rattle.channel_path.specs.Places.{limit_of, TakesFrom, Passes, SeesPassing}
use Rattle.sig_base.specs.declared.values.Row.{Row}
use Rattle.gap_map.specs.declared.stretch.Stretch.{Stretch}
use Rattle.board.proofs.Bridge.{cut_rows, late_end, known_here, known_there}
use Rattle.board.proofs.Tracks.{Lettered}
use Rattle.board.proofs.Ordering.{own_order, rows_order, part_order, order_join, end_low, end_join}
use Rattle.board.proofs.Cutting.{own_cut, to_walk, from_walk, since_in, stretch_by, count_whole, known_moves}
use Rattle.gap_map.specs.Stretches.{FollowOn, known_at}
use Rattle.gap_map.proofs.Cutting.{nat_cases}
use Rattle.board.specs.History.{Track}
use Rattle.board.specs.Moves.{RowsIn, count_before, letter_moves, own, stretch_moves, with_letter}
use Rattle.board.specs.Places.{IsAtPlace, IsBefore, IsPlace, IsSplit, SeesAt, since, upto}
use Rattle.board.proofs.Adding.{count_le}

pub more_rows : (f a b : ℕ) (rs : List Row) → a ≤ b → RowsIn f a rs → RowsIn f b rs
more_rows f a b [] le h = omega arith
more_rows f a b (r ∷ rs) le h = (h.0, (let q = h.1 in omega arith), more_rows r.at a b rs le h.2)

Upper : ℕ → ℕ → List Move → Type 0
Upper x i [] = Unit {0}
Upper x i (Letter a l n ∷ ms) = (a ≤ x) × (n < i) × Upper x i ms
Upper x i (Gap f t ∷ ms) = (f < x) × (t ≤ x) × Upper x i ms

Lower : ℕ → ℕ → ℕ → List Move → Type 0
Lower y x i [] = Unit {0}
Lower y x i (Letter a l n ∷ ms) = (y ≤ a) × (i ≤ n) × Lower y x i ms
Lower y x i (Gap f t ∷ ms) = (x ≤ f) × Lower y x i ms

upper_join : (x i : ℕ) (ms ns : List Move) → Upper x i ms → Upper x i ns → Upper x i (ms ++ ns)
unfolding Upper
upper_join x i [] ns a b = b
upper_join x i (Letter q l n ∷ ms) ns (c, d, e) b = (c, d, upper_join x i ms ns e b)
upper_join x i (Gap f t ∷ ms) ns (c, d, e) b = (c, d, upper_join x i ms ns e b)

lower_join : (y x i : ℕ) (ms ns : List Move) → Lower y x i ms → Lower y x i ns → Lower y x i (ms ++ ns)
unfolding Lower
lower_join y x i [] ns a b = b
lower_join y x i (Letter q l n ∷ ms) ns (c, d, e) b = (c, d, lower_join y x i ms ns e b)
lower_join y x i (Gap f t ∷ ms) ns (c, e) b = (c, lower_join y x i ms ns e b)

upper_with : (o : Option ℕ) (x i a n : ℕ) (ms : List Move) → a ≤ x → n < i → Upper x i ms → Upper x i (with_letter o a n ms)
unfolding Upper
upper_with None x i a n ms h g u = u
upper_with (Some l) x i a n ms h g u = (h, g, u)

lower_with : (o : Option ℕ) (y x i a n : ℕ) (ms : List Move) → y ≤ a → i ≤ n → Lower y x i ms → Lower y x i (with_letter o a n ms)
unfolding Lower
lower_with None y x i a n ms h g u = u
lower_with (Some l) y x i a n ms h g u = (h, g, u)

rows_upper : (k : Track) (f x i n : ℕ) (rs : List Row) → RowsIn f (x + 1) rs → n + length rs ≤ i → Upper x i (letter_moves k n rs)
unfolding Upper
rows_upper k f x i n [] h le = tt
rows_upper k f x i n (r ∷ rs) h le = let b = h.1 in upper_with (k.letter r.code r.param) x i r.at n (letter_moves k (n + 1) rs) (omega arith) (omega arith) (rows_upper k r.at x i (n + 1) rs h.2 (omega arith))

rows_lower : (k : Track) (h t y x i n : ℕ) (rs : List Row) → RowsIn h t rs → y ≤ h → i ≤ n → Lower y x i (letter_moves k n rs)
unfolding Lower
rows_lower k h t y x i n [] r le g = tt
rows_lower k h t y x i n (r ∷ rs) q le g = let b = q.0 in lower_with (k.letter r.code r.param) y x i r.at n (letter_moves k (n + 1) rs) (omega arith) g (rows_lower k r.at t y x i (n + 1) rs q.2 (omega arith) (omega arith))

part_upper : (k : Track) (f x i n : ℕ) (rs : List Row) (s : Stretch) → s.from ≡ f → f < s.to → s.to ≤ x → RowsIn f s.to rs → n + length rs ≤ i → Upper x i (stretch_moves k n rs s)
unfolding Upper
part_upper k f x i n rs s e lt le h g = elim (cases_Bool s.known) [
  | inl is_known ↦ rw is_known (rows_upper k f x i n rs (more_rows f s.to (x + 1) rs (omega arith) h) g)
  | inr not_known ↦ rw not_known (omega arith, le, tt)
]

part_lower : (k : Track) (h y x i n : ℕ) (rs : List Row) (s : Stretch) → x ≤ s.from → RowsIn h s.to rs → y ≤ h → i ≤ n → Lower y x i (stretch_moves k n rs s)
unfolding Lower
part_lower k h y x i n rs s le r l2 g = elim (cases_Bool s.known) [
  | inl is_known ↦ rw is_known (rows_lower k h s.to y x i n rs r l2 g)
  | inr not_known ↦ rw not_known (le, tt)
]

-- the moves up to the place end by its tenth, and come before it
upto_facts : (k : Track) (f t x i n : ℕ) (rows : List Row) (ss : List Stretch) → Lettered k → FollowOn f t ss → RowsIn f (x + 1) rows → f ≤ x → x < t → known_at ss x ≡ true → n + length rows ≤ i → (limit_of f (own k n rows (upto x ss)) ≤ x + 1) × Upper x i (own k n rows (upto x ss))
upto_facts k f t x i n rows [] small h r a b is g = absurd (omega arith)
upto_facts k f t x i n rows (s ∷ ss) small h r a b is g = elim (nat_cases x s.to) [
  | inl (test, lt) ↦ rw test (
      let known : s.known ≡ true = sym (known_here s ss f t x h a lt) ∙ is in
      let s1 : Stretch = record { from = s.from; to = x + 1; known = s.known } in
      let e2 : own k n rows (s1 ∷ []) ≡ letter_moves k n rows = stretch_by k n (length rows) s1 [] rows rows [] (count_whole f x rows r) (take_all (length rows) rows (omega arith)) (drop_all (length rows) rows (omega arith)) ∙ (append-nil (stretch_moves k n rows s1) ∙ known_moves k n rows s1 known) in
      rw e2 ((rows_order k f (x + 1) n f rows small r (omega arith) (omega arith)).1, rows_upper k f x i n rows r g)
      )
  | inr (test, ge) ↦ rw test (
      let c = count_before s.to rows in
      let le = count_le s.to rows in
      let lt = h.1 in
      let (k1, k2, _, _) = cut_rows f s.to (x + 1) rows (omega arith) (omega arith) r in
      let lt1 : length (take c rows) ≡ c = length-take-le c rows le in
      let ld : length (drop c rows) ≡ length rows - c = length-drop c rows in
      let known = sym (known_there s ss x ge) ∙ is in
      let two = upto_facts k s.to t x i (n + c) (drop c rows) ss small h.2 k2 ge b known (omega arith) in
      let one = part_order k f n (take c rows) s small h.0 lt k1 in
      let tail = own k (n + c) (drop c rows) (upto x ss) in (
        rw (end_join f x (stretch_moves k n (take c rows) s) tail) (end_low (limit_of f (stretch_moves k n (take c rows) s)) s.to (x + 1) tail one.1 two.0),
        upper_join x i (stretch_moves k n (take c rows) s) tail (part_upper k f x i n (take c rows) s h.0 lt ge k1 (omega arith)) two.1,
      )
      )
]

-- those from a place in a known tenth on take what was entered up to that tenth
since_order : (k : Track) (f t x n : ℕ) (rows : List Row) (ss : List Stretch) → Lettered k → FollowOn f t ss → f ≤ x → x < t → known_at ss x ≡ true → RowsIn x t rows → InOrder k.rules (x + 1) (own k n rows (since x ss))
since_order k f t x n rows [] small h a b is r = absurd (omega arith)
since_order k f t x n rows (s ∷ ss) small h a b is r = elim (nat_cases x s.to) [
  | inl (test, lt) ↦ rw test (
      let known : s.known ≡ true = sym (known_here s ss f t x h a lt) ∙ is in
      let s2 : Stretch = record { from = x; to = s.to; known = s.known } in
      let c = count_before s.to rows in
      let (k1, k2, _, _) = cut_rows x s.to t rows (omega arith) (late_end s.to t ss h.2) r in
      let one = rows_order k x s.to n (x + 1) (take c rows) small k1 (omega arith) (omega arith) in
      let two = own_order k s.to t (n + c) (drop c rows) ss small h.2 k2 in
      let front : stretch_moves k n (take c rows) s2 ≡ letter_moves k n (take c rows) = known_moves k n (take c rows) s2 known in
      order_join k.rules (x + 1) s.to (stretch_moves k n (take c rows) s2) (own k (n + c) (drop c rows) ss) (rw front one.0) (rw front one.1) two.0
      )
  | inr (test, ge) ↦ rw test (since_order k s.to t x n rows ss small h.2 ge b (sym (known_there s ss x ge) ∙ is) r)
]

-- the moves from the place on don't come before it
since_facts : (k : Track) (g t h y x i n : ℕ) (rows : List Row) (ss : List Stretch) → FollowOn g t ss → x ≤ g → RowsIn h t rows → y ≤ h → h ≤ g + 1 → i ≤ n → Lower y x i (own k n rows ss)
unfolding Lower
since_facts k g t h y x i n rows [] st a r b c d = tt
since_facts k g t h y x i n rows (s ∷ ss) st a r b c d =
    let m = count_before s.to rows in
    let e = st.0 in let lt = st.1 in
    let (k1, k2, _, _) = cut_rows h s.to t rows (omega arith) (late_end s.to t ss st.2) r in
    lower_join y x i (stretch_moves k n (take m rows) s) (own k (n + m) (drop m rows) ss) (part_lower k h y x i n (take m rows) s (omega arith) k1 b d) (since_facts k s.to t s.to y x i (n + m) (drop m rows) ss st.2 (omega arith) k2 (omega arith) (omega arith) (omega arith))

upper_at : (x i k : ℕ) (o : Option ℕ) (ms : List Move) → ((n : ℕ) → o ≡ Some n → i ≤ n) → Upper x i ms → k < length ms → IsBefore (pos x) o (get_or ms k (Letter 0 0 0))
unfolding Upper
upper_at x i k o [] h u lt = absurd (omega arith)
upper_at x i zero None (Letter a l n ∷ ms) h (p, q, r) lt = omega (arith, ints)
upper_at x i zero (Some j) (Letter a l n ∷ ms) h (p, q, r) lt = let b = h j refl in omega arith
upper_at x i zero None (Gap f t ∷ ms) h (p, q, r) lt = omega (arith, ints)
upper_at x i zero (Some j) (Gap f t ∷ ms) h (p, q, r) lt = omega (arith, ints)
upper_at x i (suc k) o (Letter a l n ∷ ms) h (p, q, r) lt = upper_at x i k o ms h r (omega arith)
upper_at x i (suc k) o (Gap f t ∷ ms) h (p, q, r) lt = upper_at x i k o ms h r (omega arith)

-- the row's number, or a later tenth for the end
abbrev pub AtPlace : ℕ → ℕ → ℕ → Option ℕ → Type 0
AtPlace y x i None = x < y
AtPlace y x i (Some j) = j ≤ i

lower_at : (y x i k : ℕ) (o : Option ℕ) (ms : List Move) → AtPlace y x i o → Lower y x i ms → k < length ms → IsBefore (pos x) o (get_or ms k (Letter 0 0 0)) → ⊥
unfolding Lower
lower_at y x i k o [] h u lt w = absurd (omega arith)
lower_at y x i zero None (Letter a l n ∷ ms) h (p, q, r) lt w = omega (arith, ints)
lower_at y x i zero (Some j) (Letter a l n ∷ ms) h (p, q, r) lt w = omega arith
lower_at y x i zero None (Gap f t ∷ ms) h (p, r) lt w = omega (arith, ints)
lower_at y x i zero (Some j) (Gap f t ∷ ms) h (p, r) lt w = omega (arith, ints)
lower_at y x i (suc k) o (Letter a l n ∷ ms) h (p, q, r) lt w = lower_at y x i k o ms h r (omega arith) w
lower_at y x i (suc k) o (Gap f t ∷ ms) h (p, r) lt w = lower_at y x i k o ms h r (omega arith) w

split_of : (y x i : ℕ) (o : Option ℕ) (ms ns : List Move) → ((n : ℕ) → o ≡ Some n → i ≤ n) → AtPlace y x i o → Upper x i ms → Lower y x i ns → IsSplit (pos x) o (ms ++ ns) (length ms)
split_of y x i o ms ns h g u w =
    let d = Letter 0 0 0 in
    let l : length (ms ++ ns) ≡ length ms + length ns = length-append ms ns in (
      omega arith,
      (λ k lt. rw (get_or_append_left ms ns d k lt) (upper_at x i k o ms h u lt)),
      λ k le lt. rw (get_or-append_right ms ns (length ms) k d refl le) (lower_at y x i (k - length ms) o ns g w (omega arith)),
    )

PlaceFacts : Track → List Row → List Stretch → ℕ → ℕ → List (List Span) → List (Option ℤ) → ℕ → ℕ → Option ℕ → List Move → ℕ → Type 0
PlaceFacts k rows ss f t before after x i o all j = IsSplit (pos x) o all j × (limit_of f (take j all) ≤ x + 1) × TakesFrom (x + 1) (drop j all) × ((v : State) → Passes k.rules before after (take j all) (drop j all) v ↔ IsAtPlace k rows ss f t before after x i v)

pub begin_of : (m : Rules) (x : ℕ) (ms : List Move) → InOrder m x ms → TakesFrom x ms
begin_of m x [] o = tt
begin_of m x (y ∷ ms) o = o.0

passes_place : (k : Track) (rows : List Row) (ss : List Stretch) (f t x i : ℕ) (before : List (List Span)) (after : List (Option ℤ)) (xs ys : List Move) → xs ≡ own k 0 (take i rows) (upto x ss) → ys ≡ own k i (drop i rows) (since x ss) → IsPlace f t rows ss x i → (v : State) → Passes k.rules before after xs ys v ↔ IsAtPlace k rows ss f t before after x i v
passes_place k rows ss f t x i before after xs ys ex ey p v =
    let to = λ (s : State). to_walk k rows ss f t x i s v p in
    let from = λ (u : State). from_walk k rows ss f t x i v u p in
    rw (ex, ey) (
      λ ((s, h, w), (u, z, a)). ((s, h, (to s).1 w), (u, (from u).1 z, a)),
      λ ((s, h, w), (u, z, a)). ((s, h, (to s).0 w), (u, (from u).0 z, a)),
    )

place_facts : (k : Track) (rows : List Row) (ss : List Stretch) (f t : ℕ) (before : List (List Span)) (after : List (Option ℤ)) (x i y : ℕ) (o : Option ℕ) (all : List Move) → Lettered k → IsPlace f t rows ss x i → all ≡ own k 0 rows ss → ((n : ℕ) → o ≡ Some n → i ≤ n) → AtPlace y x i o → RowsIn y t (drop i rows) → x ≤ y → y ≤ x + 1 → (j : ℕ) × PlaceFacts k rows ss f t before after x i o all j
unfolding PlaceFacts
place_facts k rows ss f t before after x i y o all small p e h g later a b =
    let len : length (take i rows) ≡ i = length-take-le i rows p.count in
    let xs = own k 0 (take i rows) (upto x ss) in
    let ys = own k i (drop i rows) (since x ss) in
    let whole : own k 0 (take i rows ++ drop i rows) ss ≡ xs ++ own k (0 + length (take i rows)) (drop i rows) (since x ss) = own_cut k f t x 0 (take i rows) (drop i rows) ss p.stretches p.before p.after p.first p.last p.is_known in
    let number : 0 + length (take i rows) ≡ i = omega arith in
    let is : all ≡ xs ++ ys = e ∙ (ap (λ rs. own k 0 rs ss) (sym (take-append-drop i rows)) ∙ (whole ∙ ap (λ n. xs ++ own k n (drop i rows) (since x ss)) number)) in
    let u = upto_facts k f t x i 0 (take i rows) ss small p.stretches p.before p.first p.last p.is_known (omega arith) in
    let st = since_in f t x ss p.stretches p.first p.last in
    let w = since_facts k x t y y x i i (drop i rows) (since x ss) st (omega arith) later (omega arith) b (omega arith) in
    let order = since_order k f t x i (drop i rows) ss small p.stretches p.first p.last p.is_known p.after in
    let front : take (length xs) all ≡ xs = ap (λ ms. take (length xs) ms) is ∙ take_at xs ys (length xs) refl in
    let back : drop (length xs) all ≡ ys = ap (λ ms. drop (length xs) ms) is ∙ drop_at xs ys (length xs) refl in (
      length xs,
      (
        rw is (split_of y x i o xs ys h g u.1 w),
        rw front u.0,
        rw back (begin_of k.rules (x + 1) ys order),
        passes_place k rows ss f t x i before after (take (length xs) all) (drop (length xs) all) front back p,
      ),
    )

pub sees_at : (k : Track) (rows : List Row) (ss : List Stretch) (f t : ℕ) (before : List (List Span)) (after : List (Option ℤ)) (x i y : ℕ) (o : Option ℕ) (all : List Move) (j : ℕ) (test : Test) (seen : Seen) → Lettered k → IsPlace f t rows ss x i → all ≡ own k 0 rows ss → ((n : ℕ) → o ≡ Some n → i ≤ n) → AtPlace y x i o → RowsIn y t (drop i rows) → x ≤ y → y ≤ x + 1 → test.at ≡ pos x → ((place : ℕ) → IsSplit test.at o all place → j ≡ place) → (limit_of f (take j all) ≤ x + 1 → TakesFrom (x + 1) (drop j all) → SeesPassing k.rules before after (take j all) (drop j all) test seen) → SeesAt k rows ss f t before after x i test seen
unfolding PlaceFacts
sees_at k rows ss f t before after x i y o all j test seen small p e h g later a b at found sees =
    let (place, (split, end, begin, pass)) = place_facts k rows ss f t before after x i y o all small p e h g later a b in
    let same : j ≡ place = found place (rw at split) in
    let s = sees (rw same end) (rw same begin) in
    let q : (v : State) → Passes k.rules before after (take j all) (drop j all) v ↔ IsAtPlace k rows ss f t before after x i v = rw same pass in
    record {
      some_true = then_iff s.some_true ((λ (v, z, m). (v, (q v).0 z, m)), (λ (v, z, m). (v, (q v).1 z, m)));
      some_false = then_iff s.some_false ((λ (v, z, m). (v, (q v).0 z, m)), (λ (v, z, m). (v, (q v).1 z, m)));
    }
