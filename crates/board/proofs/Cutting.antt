-- An hour's stretches and rows cut at a tenth.
use Rattle.std.proofs.Common.{suc, ◌≡◌, refl, ap, sym, ◌∙◌, subst, inl, inr, ◌↔◌, ℕ, ◌+◌, ◌-◌, ◌<◌, ◌≤◌, pos, true, nat_eq, List, [], ◌∷◌, ◌++◌, length, length-drop, take, drop, arith, Option, Some, None}
use Rattle.std.proofs.lemmas.Bool.{cases_Bool}
use Rattle.std.proofs.lemmas.List.{append-nil, append_assoc, take-append-le, drop-append-le, take_all, drop_all, take-append-drop}
use Rattle.reach.specs.Runs.{State, Steps}
use Rattle.reach.proofs.Later.{then_iff}
use Rattle.channel_path.specs.declared.moves.Move.{Move}
use Rattle.channel_path.specs.declared.moves.Move.TheVariants.{Letter}
use Rattle.channel_path.specs.Walks.{Walk}
use Rattle.sig_base.specs.declared.values.Row.{Row}
use Rattle.gap_map.specs.declared.stretch.Stretch.{Stretch}
use Rattle.board.proofs.Bridge.{cut_rows, known_here, known_there, own_walk, agreeing_join, agreeing_first, agreeing_none, agreeing_same, none_at, event_not_here}
use Rattle.gap_map.specs.Stretches.{FollowOn, known_at}
use Rattle.gap_map.proofs.Cutting.{nat_cases}
use Rattle.board.specs.History.{Track, event_of, events_at, letters}
use Rattle.board.specs.Moves.{RowsIn, count_before, letter_moves, own, stretch_moves, with_letter}
use Rattle.board.specs.Places.{FromPlace, IsPlace, ToPlace, since, upto}
use Rattle.board.proofs.Adding.{count_le}

with_join : (o : Option ℕ) (at n : ℕ) (xs ys zs : List Move) → zs ≡ xs ++ ys → with_letter o at n zs ≡ with_letter o at n xs ++ ys
with_join None at n xs ys zs e = e
with_join (Some l) at n xs ys zs e = ap (λ ws. Letter at l n ∷ ws) e

-- the letters of rows and then of others
letter_join : (k : Track) (n : ℕ) (xs ys : List Row) → letter_moves k n (xs ++ ys) ≡ letter_moves k n xs ++ letter_moves k (n + length xs) ys
letter_join k n [] ys = let e : n ≡ n + 0 = omega arith in ap (λ i. letter_moves k i ys) e
letter_join k n (r ∷ xs) ys = with_join (k.letter r.code r.param) r.at n (letter_moves k (n + 1) xs) (letter_moves k (n + suc (length xs)) ys) (letter_moves k (n + 1) (xs ++ ys)) (letter_join k (n + 1) xs ys ∙ (let e : n + 1 + length xs ≡ n + suc (length xs) = omega arith in ap (λ i. letter_moves k (n + 1) xs ++ letter_moves k i ys) e))

count_all : (f x m : ℕ) (xs ys : List Row) → RowsIn f (x + 1) xs → x + 1 ≤ m → count_before m (xs ++ ys) ≡ length xs + count_before m ys
count_all f x m [] ys h le = omega arith
count_all f x m (r ∷ xs) ys h le = elim (nat_cases r.at m) [
  | inl (test, _) ↦ rw test (let k = count_all r.at x m xs ys h.2 le in omega arith)
  | inr (test, ge) ↦ absurd (let a = h.1 in omega arith)
]

count_none : (f m t : ℕ) (xs ys : List Row) → RowsIn f t ys → m ≤ f → count_before m (xs ++ ys) ≡ count_before m xs
count_none f m t [] [] h le = refl
count_none f m t [] (r ∷ ys) h le = elim (nat_cases r.at m) [ inl (test, lt) ↦ absurd (let a = h.0 in omega arith) | inr (test, _) ↦ rw test refl ]
count_none f m t (r ∷ xs) ys h le = elim (nat_cases r.at m) [ inl (test, _) ↦ rw test (ap suc (count_none f m t xs ys h le)) | inr (test, _) ↦ rw test refl ]

pub take_more_of : (xs ys : List Row) (c : ℕ) → take (length xs + c) (xs ++ ys) ≡ xs ++ take c ys
take_more_of [] ys c = let e : 0 + c ≡ c = omega arith in ap (λ n. take n ys) e
take_more_of (x ∷ xs) ys c = let e : suc (length xs) + c ≡ suc (length xs + c) = omega arith in rw e (ap (λ zs. x ∷ zs) (take_more_of xs ys c))

pub drop_more_of : (xs ys : List Row) (c : ℕ) → drop (length xs + c) (xs ++ ys) ≡ drop c ys
drop_more_of [] ys c = let e : 0 + c ≡ c = omega arith in ap (λ n. drop n ys) e
drop_more_of (x ∷ xs) ys c = let e : suc (length xs) + c ≡ suc (length xs + c) = omega arith in rw e (drop_more_of xs ys c)

pub upto_in : (f t x : ℕ) (ss : List Stretch) → FollowOn f t ss → f ≤ x → x < t → FollowOn f (x + 1) (upto x ss)
upto_in f t x [] h a b = absurd (omega arith)
upto_in f t x (s ∷ ss) h a b = elim (nat_cases x s.to) [
  | inl (test, lt) ↦ rw test (h.0, omega arith, refl)
  | inr (test, ge) ↦ rw test (h.0, h.1, upto_in s.to t x ss h.2 ge b)
]

pub since_in : (f t x : ℕ) (ss : List Stretch) → FollowOn f t ss → f ≤ x → x < t → FollowOn x t (since x ss)
since_in f t x [] h a b = absurd (omega arith)
since_in f t x (s ∷ ss) h a b = elim (nat_cases x s.to) [
  | inl (test, lt) ↦ rw test (refl, lt, h.2)
  | inr (test, ge) ↦ rw test (since_in s.to t x ss h.2 ge b)
]

pub upto_known : (f t x y : ℕ) (ss : List Stretch) → FollowOn f t ss → f ≤ x → x < t → f ≤ y → y < x + 1 → known_at ss y ≡ known_at (upto x ss) y
upto_known f t x y [] h a b c d = refl
upto_known f t x y (s ∷ ss) h a b c d = elim (nat_cases x s.to) [
  | inl (test, lt) ↦ rw test (known_here s ss f t y h c (omega arith) ∙ sym (known_here (record { from = s.from; to = x + 1; known = s.known }) [] f (x + 1) y (h.0, omega arith, refl) c d))
  | inr (test, ge) ↦ rw test (elim (nat_cases y s.to) [
    | inl (_, l2) ↦ known_here s ss f t y h c l2 ∙ sym (known_here s (upto x ss) f (x + 1) y (h.0, h.1, upto_in s.to t x ss h.2 ge b) c l2)
    | inr (_, g2) ↦ known_there s ss y g2 ∙ (upto_known s.to t x y ss h.2 ge b g2 d ∙ sym (known_there s (upto x ss) y g2))
  ])
]

pub since_known : (f t x y : ℕ) (ss : List Stretch) → FollowOn f t ss → f ≤ x → x < t → x ≤ y → y < t → known_at ss y ≡ known_at (since x ss) y
since_known f t x y [] h a b c d = refl
since_known f t x y (s ∷ ss) h a b c d = elim (nat_cases x s.to) [
  | inl (test, lt) ↦ rw test (elim (nat_cases y s.to) [
    | inl (_, l2) ↦ known_here s ss f t y h (omega arith) l2 ∙ sym (known_here (record { from = x; to = s.to; known = s.known }) ss x t y (refl, lt, h.2) c l2)
    | inr (_, g2) ↦ known_there s ss y g2 ∙ sym (known_there (record { from = x; to = s.to; known = s.known }) ss y g2)
  ])
  | inr (test, ge) ↦ rw test (known_there s ss y (omega arith) ∙ since_known s.to t x y ss h.2 ge b c d)
]

pub count_whole : (f x : ℕ) (xs : List Row) → RowsIn f (x + 1) xs → count_before (x + 1) xs ≡ length xs
count_whole f x [] h = refl
count_whole f x (r ∷ xs) h = elim (nat_cases r.at (x + 1)) [ inl (test, _) ↦ rw test (ap suc (count_whole r.at x xs h.2)) | inr (test, ge) ↦ absurd (let a = h.1 in omega arith) ]

pub stretch_by : (k : Track) (n c : ℕ) (s : Stretch) (ss : List Stretch) (rows xs ys : List Row) → count_before s.to rows ≡ c → take c rows ≡ xs → drop c rows ≡ ys → own k n rows (s ∷ ss) ≡ stretch_moves k n xs s ++ own k (n + c) ys ss
stretch_by k n c s ss rows xs ys e a b = rw (e, a, b) refl

pub known_moves : (k : Track) (n : ℕ) (xs : List Row) (s : Stretch) → s.known ≡ true → stretch_moves k n xs s ≡ letter_moves k n xs
known_moves k n xs s e = rw e refl

-- the moves up to the place, and those from it on
pub own_cut : (k : Track) (f t x n : ℕ) (xs ys : List Row) (ss : List Stretch) → FollowOn f t ss → RowsIn f (x + 1) xs → RowsIn x t ys → f ≤ x → x < t → known_at ss x ≡ true → own k n (xs ++ ys) ss ≡ own k n xs (upto x ss) ++ own k (n + length xs) ys (since x ss)
own_cut k f t x n xs ys [] h hx hy a b is = absurd (omega arith)
own_cut k f t x n xs ys (s ∷ ss) h hx hy a b is = elim (nat_cases x s.to) [
  | inl (test, lt) ↦ rw test (
      let known : s.known ≡ true = sym (known_here s ss f t x h a lt) ∙ is in
      let c = count_before s.to ys in
      let s1 : Stretch = record { from = s.from; to = x + 1; known = s.known } in
      let s2 : Stretch = record { from = x; to = s.to; known = s.known } in
      let one = letter_moves k n xs in
      let two = letter_moves k (n + length xs) (take c ys) in
      let tail = own k (n + length xs + c) (drop c ys) ss in
      let e1 : own k n (xs ++ ys) (s ∷ ss) ≡ letter_moves k n (xs ++ take c ys) ++ own k (n + (length xs + c)) (drop c ys) ss = stretch_by k n (length xs + c) s ss (xs ++ ys) (xs ++ take c ys) (drop c ys) (count_all f x s.to xs ys hx (omega arith)) (take_more_of xs ys c) (drop_more_of xs ys c) ∙ ap (λ ms. ms ++ own k (n + (length xs + c)) (drop c ys) ss) (known_moves k n (xs ++ take c ys) s known) in
      let e2 : own k n xs (s1 ∷ []) ≡ one = stretch_by k n (length xs) s1 [] xs xs [] (count_whole f x xs hx) (take_all (length xs) xs (omega arith)) (drop_all (length xs) xs (omega arith)) ∙ (append-nil (stretch_moves k n xs s1) ∙ known_moves k n xs s1 known) in
      let e3 : own k (n + length xs) ys (s2 ∷ ss) ≡ two ++ tail = ap (λ ms. ms ++ tail) (known_moves k (n + length xs) (take c ys) s2 known) in
      let sum : n + (length xs + c) ≡ n + length xs + c = omega arith in
      let e4 : letter_moves k n (xs ++ take c ys) ++ own k (n + (length xs + c)) (drop c ys) ss ≡ one ++ (two ++ tail) = ap (λ i. letter_moves k n (xs ++ take c ys) ++ own k i (drop c ys) ss) sum ∙ (ap (λ ms. ms ++ tail) (letter_join k n xs (take c ys)) ∙ append_assoc one two tail) in
      e1 ∙ (e4 ∙ (sym (ap (λ ms. one ++ ms) e3) ∙ sym (ap (λ ms. ms ++ own k (n + length xs) ys (s2 ∷ ss)) e2)))
      )
  | inr (test, ge) ↦ rw test (
      let c = count_before s.to xs in
      let le = count_le s.to xs in
      let (k1, k2, _, _) = cut_rows f s.to (x + 1) xs (let q = h.1 in omega arith) (omega arith) hx in
      let known = sym (known_there s ss x ge) ∙ is in
      let rest = own_cut k s.to t x (n + c) (drop c xs) ys ss h.2 k2 hy ge b known in
      let ld : length (drop c xs) ≡ length xs - c = length-drop c xs in
      let sum : n + c + length (drop c xs) ≡ n + length xs = omega arith in
      let e1 = stretch_by k n c s ss (xs ++ ys) (take c xs) (drop c xs ++ ys) (count_none x s.to t xs ys hy ge) (take-append-le c xs ys le) (drop-append-le c xs ys le) in
      e1 ∙ (ap (λ ms. stretch_moves k n (take c xs) s ++ ms) (rest ∙ ap (λ i. own k (n + c) (drop c xs) (upto x ss) ++ own k i ys (since x ss)) sum) ∙ sym (append_assoc (stretch_moves k n (take c xs) s) (own k (n + c) (drop c xs) (upto x ss)) (own k (n + length xs) ys (since x ss))))
      )
]

pub events_join : (xs ys : List Row) (y : ℕ) → events_at (xs ++ ys) y ≡ events_at xs y ++ events_at ys y
events_join [] ys y = refl
events_join (r ∷ xs) ys y = elim (cases_Bool (nat_eq r.at y)) [ inl e ↦ rw e (ap (λ zs. event_of r ∷ zs) (events_join xs ys y)) | inr e ↦ rw e (events_join xs ys y) ]

pub none_after : (xs : List Row) (f m y : ℕ) → RowsIn f m xs → m ≤ y → events_at xs y ≡ []
none_after [] f m y h le = refl
none_after (r ∷ xs) f m y h le = let a = h.1 in event_not_here r xs y (λ e. absurd (omega arith)) ∙ none_after xs r.at m y h.2 le

-- a run that leads to the place is a walk over the moves up to it
pub to_walk : (k : Track) (rows : List Row) (ss : List Stretch) (f t x i : ℕ) (s v : State) → IsPlace f t rows ss x i → ToPlace k rows ss f x i s v ↔ Walk k.rules (own k 0 (take i rows) (upto x ss)) s v
to_walk k rows ss f t x i s v p =
    let K = known_at ss in
    let one = events_at (take i rows) in
    let whole : (y : ℕ) → y < x → events_at rows y ≡ one y = λ y lt. ap (λ rs. events_at rs y) (sym (take-append-drop i rows)) ∙ (events_join (take i rows) (drop i rows) y ∙ (ap (λ zs. one y ++ zs) (none_at (drop i rows) x t y p.after lt) ∙ append-nil (one y))) in
    let w = own_walk k K one f (x + 1) 0 (take i rows) (upto x ss) s v (upto_in f t x ss p.stretches p.first p.last) p.before (λ y l1 l2. upto_known f t x y ss p.stretches p.first p.last l1 l2) (λ y l1 l2. refl) in
    let j = agreeing_join k K one f x (x + 1) s v p.first (omega arith) in
    let last = λ (a : State). agreeing_first k K one x (x + 1) a v (omega arith) p.is_known in
    let none = λ (b : State). agreeing_none k K one (x + 1) b v in
    then_iff (
      (λ (a, ag, ev). j.1 (a, agreeing_same k K K (events_at rows) one f x s a (λ y l1 l2. refl) (λ y l1 l2. whole y l2) ag, (last a).1 (v, ev, (none v).1 refl))),
      (λ ag. let (a, b, c) = j.0 ag in
          let (z, ev, q) = (last a).0 c in
          (a, agreeing_same k K K one (events_at rows) f x s a (λ y l1 l2. refl) (λ y l1 l2. sym (whole y l2)) b, subst (λ (u : State). Steps k.rules (pos x) a (letters k (one x)) u) (sym ((none z).0 q)) ev)),
    ) w

pub from_walk : (k : Track) (rows : List Row) (ss : List Stretch) (f t x i : ℕ) (v u : State) → IsPlace f t rows ss x i → FromPlace k rows ss x t i v u ↔ Walk k.rules (own k i (drop i rows) (since x ss)) v u
from_walk k rows ss f t x i v u p =
    let K = known_at ss in
    let two = events_at (drop i rows) in
    let whole : (y : ℕ) → x + 1 ≤ y → events_at rows y ≡ two y = λ y le. ap (λ rs. events_at rs y) (sym (take-append-drop i rows)) ∙ (events_join (take i rows) (drop i rows) y ∙ ap (λ zs. zs ++ two y) (none_after (take i rows) f (x + 1) y p.before le)) in
    let w = own_walk k K two x t i (drop i rows) (since x ss) v u (since_in f t x ss p.stretches p.first p.last) p.after (λ y l1 l2. since_known f t x y ss p.stretches p.first p.last l1 l2) (λ y l1 l2. refl) in
    let first = agreeing_first k K two x t v u p.last p.is_known in
    then_iff (
      (λ (b, ev, ag). first.1 (b, ev, agreeing_same k K K (events_at rows) two (x + 1) t b u (λ y l1 l2. refl) (λ y l1 l2. whole y l1) ag)),
      (λ ag. let (b, ev, q) = first.0 ag in (b, ev, agreeing_same k K K two (events_at rows) (x + 1) t b u (λ y l1 l2. refl) (λ y l1 l2. sym (whole y l1)) q)),
    ) w
