-- A channel's moves cut at tenths and at a place are those of the rows and the stretches cut there.
use Rattle.std.proofs.Common.{◌≡◌, refl, ap, sym, ◌∙◌, subst, inl, inr, ℕ, suc, zero, ◌+◌, ◌<◌, ◌≤◌, Bool, true, false, nat_lt, append-nil, List, [], ◌∷◌, ◌++◌, length, take, drop, arith, Option, Some, None}
use Rattle.std.proofs.lemmas.Bool.{cases_Bool, le-ltb, lt-ltb}
use Rattle.std.proofs.lemmas.List.{length-take-le, take_all, take-append-drop}
use Rattle.sig_base.specs.declared.values.Row.{Row}
use Rattle.gap_map.specs.declared.stretch.Stretch.{Stretch}
use Rattle.gap_map.specs.Stretches.{FollowOn, known_at}
use Rattle.gap_map.proofs.Cutting.{nat_cases}
use Rattle.channel_path.specs.declared.moves.Move.{Move}
use Rattle.board.specs.History.{Track}
use Rattle.board.specs.Moves.{RowsIn, count_before, letter_moves, own, stretch_moves, with_letter}
use Rattle.board.specs.Places.{IsPlace, since, upto}
use Rattle.board.proofs.Bridge.{cut_rows, known_here, known_there, late_end}
use Rattle.board.proofs.Cutting.{count_whole, own_cut, since_in, upto_in, upto_known, since_known}
use Rattle.board.proofs.Within.{rows_since}
use Rattle.board.proofs.Adding.{count_le}
use Rattle.decisive.specs.Candidates.{rows_from}
use Rattle.decisive.specs.Cuts.{AllAre, IsCutAfter, IsCutBefore, IsCutBy, begins_before, passes, stands_before}
use Rattle.decisive.specs.Laws.{rows_to}
use Rattle.decisive.proofs.Slicing.{are_join}

-- ---- a test of rows, and of gaps

-- the test says this of each of the rows, of which the first has number i
abbrev RowsAre : (ℕ → ℕ → Bool) → Bool → ℕ → List Row → Type 0
RowsAre test b i [] = Unit {0}
RowsAre test b i (r ∷ rs) = (test r.at i ≡ b) × RowsAre test b (i + 1) rs

-- the gap of each unknown stretch begins before tenth y, or not
abbrev GapsAre : ℕ → Bool → List Stretch → Type 0
GapsAre y b [] = Unit {0}
GapsAre y b (s ∷ ss) = (s.known ≡ false → nat_lt s.from y ≡ b) × GapsAre y b ss

rows_take : (test : ℕ → ℕ → Bool) (b : Bool) (i c : ℕ) (rows : List Row) → RowsAre test b i rows → RowsAre test b i (take c rows)
rows_take test b i zero rows h = tt
rows_take test b i (suc c) [] h = tt
rows_take test b i (suc c) (r ∷ rs) (a, h) = (a, rows_take test b (i + 1) c rs h)

rows_drop : (test : ℕ → ℕ → Bool) (b : Bool) (i c : ℕ) (rows : List Row) → RowsAre test b i rows → RowsAre test b (i + c) (drop c rows)
rows_drop test b i zero rows h = let e : i ≡ i + 0 = omega arith in subst (λ (n : ℕ). RowsAre test b n rows) e h
rows_drop test b i (suc c) [] h = tt
rows_drop test b i (suc c) (r ∷ rs) (a, h) = let e : i + 1 + c ≡ i + suc c = omega arith in subst (λ (n : ℕ). RowsAre test b n (drop c rs)) e (rows_drop test b (i + 1) c rs h)

with_are : (o : Option ℕ) (test : ℕ → ℕ → Bool) (b : Bool) (y at i : ℕ) (ms : List Move) → test at i ≡ b → AllAre (passes test y) b ms → AllAre (passes test y) b (with_letter o at i ms)
with_are None test b y at i ms a h = h
with_are (Some l) test b y at i ms a h = (a, h)

letters_are : (k : Track) (test : ℕ → ℕ → Bool) (b : Bool) (y i : ℕ) (rows : List Row) → RowsAre test b i rows → AllAre (passes test y) b (letter_moves k i rows)
letters_are k test b y i [] h = tt
letters_are k test b y i (r ∷ rs) (a, h) = with_are (k.letter r.code r.param) test b y r.at i (letter_moves k (i + 1) rs) a (letters_are k test b y (i + 1) rs h)

part_are : (k : Track) (test : ℕ → ℕ → Bool) (b : Bool) (y i : ℕ) (rows : List Row) (s : Stretch) → RowsAre test b i rows → (s.known ≡ false → nat_lt s.from y ≡ b) → AllAre (passes test y) b (stretch_moves k i rows s)
part_are k test b y i rows s h g = elim (cases_Bool s.known) [
  | inl is ↦ rw is (letters_are k test b y i rows h)
  | inr un ↦ let e = g un in rw un (e, tt)
]

own_are : (k : Track) (test : ℕ → ℕ → Bool) (b : Bool) (y i : ℕ) (rows : List Row) (ss : List Stretch) → RowsAre test b i rows → GapsAre y b ss → AllAre (passes test y) b (own k i rows ss)
own_are k test b y i rows [] h g = tt
own_are k test b y i rows (s ∷ ss) h (g, gs) =
    let c = count_before s.to rows in
    are_join (passes test y) b (stretch_moves k i (take c rows) s) (own k (i + c) (drop c rows) ss) (part_are k test b y i (take c rows) s (rows_take test b i c rows h) g) (own_are k test b y (i + c) (drop c rows) ss (rows_drop test b i c rows h) gs)

rows_early : (f y i : ℕ) (rows : List Row) → RowsIn f y rows → RowsAre (λ at r. nat_lt at y) true i rows
rows_early f y i [] h = tt
rows_early f y i (r ∷ rs) (a, b, h) = (lt-ltb r.at y b, rows_early r.at y (i + 1) rs h)

rows_late : (f t y i : ℕ) (rows : List Row) → RowsIn f t rows → y ≤ f → RowsAre (λ at r. nat_lt at y) false i rows
rows_late f t y i [] h le = tt
rows_late f t y i (r ∷ rs) (a, b, h) le = (le-ltb r.at y (omega arith), rows_late r.at t y (i + 1) rs h (omega arith))

numbers_below : (n i : ℕ) (rows : List Row) → i + length rows ≤ n → RowsAre (λ at r. nat_lt r n) true i rows
numbers_below n i [] le = tt
numbers_below n i (r ∷ rs) le = (lt-ltb i n (omega arith), numbers_below n (i + 1) rs (omega arith))

numbers_above : (n i : ℕ) (rows : List Row) → n ≤ i → RowsAre (λ at r. nat_lt r n) false i rows
numbers_above n i [] le = tt
numbers_above n i (r ∷ rs) le = (le-ltb i n le, numbers_above n (i + 1) rs (omega arith))

gaps_within : (f y : ℕ) (ss : List Stretch) → FollowOn f y ss → GapsAre y true ss
gaps_within f y [] h = tt
gaps_within f y (s ∷ ss) (e, lt, h) = let end = late_end s.to y ss h in ((λ un. lt-ltb s.from y (omega arith)), gaps_within s.to y ss h)

gaps_none : (b : Bool) (y t : ℕ) (ss : List Stretch) → FollowOn t t ss → GapsAre y b ss
gaps_none b y t [] h = tt
gaps_none b y t (s ∷ ss) (e, lt, h) = let end = late_end s.to t ss h in absurd (omega arith)

gaps_to : (f x : ℕ) (ss : List Stretch) → FollowOn f (x + 1) ss → known_at ss x ≡ true → GapsAre x true ss
gaps_to f x [] h known = tt
gaps_to f x (s ∷ ss) h known =
    let e = h.0 in
    let lt = h.1 in
    let end = late_end s.to (x + 1) ss h.2 in
    elim (nat_cases x s.to) [
      | inl (_, here) ↦
          let is : s.known ≡ true = sym (known_here s ss f (x + 1) x h (omega arith) here) ∙ known in
          let same : s.to ≡ x + 1 = omega arith in (
            (λ un. absurd (let bad : true ≡ false = sym is ∙ un in cc)),
            gaps_none true x (x + 1) ss (subst (λ (z : ℕ). FollowOn z (x + 1) ss) same h.2),
          )
      | inr (_, there) ↦ ((λ un. lt-ltb s.from x (omega arith)), gaps_to s.to x ss h.2 (sym (known_there s ss x there) ∙ known))
    ]

gaps_from : (g t y : ℕ) (ss : List Stretch) → FollowOn g t ss → y ≤ g → GapsAre y false ss
gaps_from g t y [] h le = tt
gaps_from g t y (s ∷ ss) (e, lt, h) le = ((λ un. le-ltb s.from y (omega arith)), gaps_from s.to t y ss h (omega arith))

gaps_after : (w t : ℕ) (ss : List Stretch) → FollowOn w t ss → w < t → known_at ss w ≡ true → GapsAre (w + 1) false ss
gaps_after w t [] h lt known = absurd (omega arith)
gaps_after w t (s ∷ ss) h lt known =
    let few = h.1 in
    let is : s.known ≡ true = sym (known_here s ss w t w h (omega arith) few) ∙ known in (
      (λ un. absurd (let bad : true ≡ false = sym is ∙ un in cc)),
      gaps_from s.to t (w + 1) ss h.2 (omega arith),
    )

-- ---- what isn't cut

no_more : (t : ℕ) (ss : List Stretch) → FollowOn t t ss → ss ≡ []
no_more t [] h = refl
no_more t (s ∷ ss) (e, lt, h) = let end = late_end s.to t ss h in absurd (omega arith)

upto_whole : (f t w : ℕ) (ss : List Stretch) → FollowOn f t ss → f ≤ w → w + 1 ≡ t → upto w ss ≡ ss
upto_whole f t w [] h le e = refl
upto_whole f t w (s ∷ ss) h le e =
    let end = late_end s.to t ss h.2 in
    elim (nat_cases w s.to) [
      | inl (test, here) ↦
          let same : w + 1 ≡ s.to = omega arith in
          let last : s.to ≡ t = omega arith in
          let none : ss ≡ [] = no_more t ss (subst (λ (z : ℕ). FollowOn z t ss) last h.2) in
          rw test (ap (λ (z : ℕ). record { from = s.from; to = z; known = s.known } ∷ []) same ∙ ap (λ (zs : List Stretch). s ∷ zs) (sym none))
      | inr (test, there) ↦ rw test (ap (λ (zs : List Stretch). s ∷ zs) (upto_whole s.to t w ss h.2 there e))
    ]

since_whole : (f t : ℕ) (ss : List Stretch) → FollowOn f t ss → since f ss ≡ ss
since_whole f t [] h = refl
since_whole f t (s ∷ ss) (e, lt, h) = rw (lt-ltb f s.to lt) (ap (λ (z : ℕ). record { from = z; to = s.to; known = s.known } ∷ ss) (sym e))

rows_whole : (f w : ℕ) (rows : List Row) → RowsIn f (w + 1) rows → rows_to w rows ≡ rows
rows_whole f w rows h = let n = count_whole f w rows h in take_all (count_before (w + 1) rows) rows (omega arith)

none_before : (f t : ℕ) (rows : List Row) → RowsIn f t rows → count_before f rows ≡ 0
none_before f t [] h = refl
none_before f t (r ∷ rs) (a, b, h) = rw (le-ltb r.at f a) refl

rows_more : (f g t : ℕ) (rows : List Row) → RowsIn f g rows → g ≤ t → RowsIn f t rows
rows_more f g t [] h le = omega arith
rows_more f g t (r ∷ rs) (a, b, h) le = (a, omega arith, rows_more r.at g t rs h le)

-- ---- the cuts

module _ (k : Track) (f t i : ℕ) (rows : List Row) (ss : List Stretch) (h : FollowOn f t ss) (r : RowsIn f t rows) where
  -- the moves up to a tenth, and the others
  pub cut_after : (w : ℕ) → f ≤ w → IsCutAfter t ss w → (ys : List Move) × IsCutBy (begins_before (w + 1)) (own k i rows ss) (own k i (rows_to w rows) (upto w ss)) ys
  cut_after w le (lt, at) =
      let c = count_before (w + 1) rows in
      let (k1, k2, _, _) = cut_rows f (w + 1) t rows (omega arith) (omega arith) r in
      let xs = own k i (rows_to w rows) (upto w ss) in
      let first = own_are k (λ at r. nat_lt at (w + 1)) true (w + 1) i (rows_to w rows) (upto w ss) (rows_early f (w + 1) i (rows_to w rows) k1) (gaps_within f (w + 1) (upto w ss) (upto_in f t w ss h le lt)) in
      elim at [
        | inl known ↦
            let m = i + length (take c rows) in
            let ys = own k m (drop c rows) (since w ss) in
            let there = sym (since_known f t w w ss h le lt (omega arith) lt) ∙ known in (
              ys,
              record {
                whole = ap (λ (rs : List Row). own k i rs ss) (sym (take-append-drop c rows)) ∙ own_cut k f t w i (take c rows) (drop c rows) ss h k1 (rows_since (w + 1) w t (drop c rows) (omega arith) k2) le lt known;
                first = first;
                rest = own_are k (λ at r. nat_lt at (w + 1)) false (w + 1) m (drop c rows) (since w ss) (rows_late (w + 1) t (w + 1) m (drop c rows) k2 (omega arith)) (gaps_after w t (since w ss) (since_in f t w ss h le lt) lt there);
              },
            )
        | inr last ↦
            let e1 = rows_whole f w rows (subst (λ (z : ℕ). RowsIn f z rows) (sym last) r) in
            let e2 = upto_whole f t w ss h le last in (
              [],
              record {
                whole = sym (append-nil (own k i rows ss)) ∙ (ap (λ (rs : List Row). own k i rs ss ++ []) (sym e1) ∙ ap (λ (zs : List Stretch). own k i (rows_to w rows) zs ++ []) (sym e2));
                first = first;
                rest = tt;
              },
            )
      ]

  -- the moves before a tenth, and those from it on
  pub cut_before : (u : ℕ) → IsCutBefore f ss u → u < t → (xs : List Move) × IsCutBy (begins_before u) (own k i rows ss) xs (own k (i + count_before u rows) (rows_from u rows) (since u ss))
  cut_before u (le, at) lt =
      let c = count_before u rows in
      let (k1, k2, _, _) = cut_rows f u t rows le (omega arith) r in
      let rest = own_are k (λ at r. nat_lt at u) false u (i + c) (rows_from u rows) (since u ss) (rows_late u t u (i + c) (rows_from u rows) k2 (omega arith)) (gaps_from u t u (since u ss) (since_in f t u ss h le lt) (omega arith)) in
      elim at [
        | inl known ↦
            let xs = own k i (take c rows) (upto u ss) in
            let size : length (take c rows) ≡ c = length-take-le c rows (count_le u rows) in
            let there = sym (upto_known f t u u ss h le lt le (omega arith)) ∙ known in (
              xs,
              record {
                whole = ap (λ (rs : List Row). own k i rs ss) (sym (take-append-drop c rows)) ∙ (own_cut k f t u i (take c rows) (drop c rows) ss h (rows_more f u (u + 1) (take c rows) k1 (omega arith)) k2 le lt known ∙ ap (λ (n : ℕ). xs ++ own k (i + n) (rows_from u rows) (since u ss)) size);
                first = own_are k (λ at r. nat_lt at u) true u i (take c rows) (upto u ss) (rows_early f u i (take c rows) k1) (gaps_to f u (upto u ss) (upto_in f t u ss h le lt) there);
                rest = rest;
              },
            )
        | inr first ↦
            let none : c ≡ 0 = subst (λ (z : ℕ). count_before z rows ≡ 0) (sym first) (none_before f t rows r) in
            let same : since u ss ≡ ss = subst (λ (z : ℕ). since z ss ≡ ss) (sym first) (since_whole f t ss h) in
            let number : i ≡ i + c = omega arith in (
              [],
              record {
                whole = ap (λ (n : ℕ). own k n rows ss) number ∙ (ap (λ (n : ℕ). own k (i + c) (drop n rows) ss) (sym none) ∙ ap (λ (zs : List Stretch). own k (i + c) (rows_from u rows) zs) (sym same));
                first = tt;
                rest = rest;
              },
            )
      ]

-- the moves before a place, and those from it on
pub cut_place : (k : Track) (f t x n i : ℕ) (rows : List Row) (ss : List Stretch) → IsPlace f t rows ss x n → IsCutBy (stands_before (i + n) x) (own k i rows ss) (own k i (take n rows) (upto x ss)) (own k (i + n) (drop n rows) (since x ss))
cut_place k f t x n i rows ss p =
    let size : length (take n rows) ≡ n = length-take-le n rows p.count in
    let xs = own k i (take n rows) (upto x ss) in
    let low = p.first in
    let last = p.last in
    let there = sym (upto_known f t x x ss p.stretches low last low (omega arith)) ∙ p.is_known in
    record {
      whole = ap (λ (rs : List Row). own k i rs ss) (sym (take-append-drop n rows)) ∙ (own_cut k f t x i (take n rows) (drop n rows) ss p.stretches p.before p.after low last p.is_known ∙ ap (λ (m : ℕ). xs ++ own k (i + m) (drop n rows) (since x ss)) size);
      first = own_are k (λ at r. nat_lt r (i + n)) true x i (take n rows) (upto x ss) (numbers_below (i + n) i (take n rows) (omega arith)) (gaps_to f x (upto x ss) (upto_in f t x ss p.stretches low last) there);
      rest = own_are k (λ at r. nat_lt r (i + n)) false x (i + n) (drop n rows) (since x ss) (numbers_above (i + n) (i + n) (drop n rows) (omega arith)) (gaps_from x t x (since x ss) (since_in f t x ss p.stretches low last) (omega arith));
    }
