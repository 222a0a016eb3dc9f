-- What a channel takes over a range of tenths, with lost rows, is a walk over its moves there.
use Rattle.std.proofs.Common.{suc, zero, ◌≡◌, refl, ap, sym, ◌∙◌, subst, inl, inr, ◌↔◌, ℕ, ◌+◌, ◌-◌, ◌<◌, ◌≤◌, ℤ, pos, ◌≤ℤ◌, Bool, true, false, List, [], ◌∷◌, ◌++◌, length, take, drop, take-append-drop, arith, Option, Some, None}
use Rattle.std.proofs.lemmas.Int.{ints}
use Rattle.std.proofs.lemmas.Bool.{cases_Bool, eq-eqb}
use Rattle.span_set.proofs.Sets.{int_cases}
use Rattle.colour_machine.specs.Rules.{Rules}
use Rattle.reach.specs.Runs.{State, Run}
use Rattle.channel_path.specs.declared.moves.Move.{Move}
use Rattle.channel_path.specs.declared.moves.Move.TheVariants.{Letter, Gap}
use Rattle.channel_path.specs.Walks.{limit_before}
use Rattle.sig_base.specs.declared.values.Row.{Row}
use Rattle.gap_map.specs.declared.stretch.Stretch.{Stretch}
use Rattle.gap_map.specs.Stretches.{FollowOn, known_at}
use Rattle.board.specs.History.{Event, Track, events_at, letters, put}
use Rattle.board.specs.Moves.{RowsIn, count_before, letter_moves, own, stretch_moves, with_letter}
use Rattle.board.proofs.Bridge.{cut_rows, event_here, known_here, known_there, late_end}
use Rattle.lost_rows.specs.declared.asked.Asked.{Asked}
use Rattle.lost_rows.specs.Stills.{LostRows}
use Rattle.lost_rows.specs.Walks.{LostWalk, still_after}
use Rattle.lost_laws.specs.Tenths.{Loses, LosesInTenth, LosesOver, letters_in}

-- ---- stills and walks cut at a tenth

rows_wider : (m : Rules) (r : Asked) (a p b : ℤ) (j : ℕ) (s u : State) → a ≤ℤ p → LostRows m r p b j s u → LostRows m r a b j s u
rows_wider m r a p b zero s u le same = same
rows_wider m r a p b (suc j) s u le (t, ge, lt, rest) = (t, omega (arith, ints), lt, rest)

rows_cut : (m : Rules) (r : Asked) (a p b : ℤ) (j : ℕ) (s u : State) → LostRows m r a b j s u → (i k : ℕ) × (i + k ≡ j) × ((v : State) × LostRows m r a p i s v × LostRows m r p b k v u)
rows_cut m r a p b zero s u same = (0, 0, refl, (s, refl, same))
rows_cut m r a p b (suc j) s u (t, ge, lt, (v, w, rest)) = elim (int_cases t p) [
  | inl (_, less) ↦ let (i, k, e, (y, front, back)) = rows_cut m r t p b j v u rest in (suc i, k, omega arith, (y, (t, ge, less, (v, w, front)), back))
  | inr (_, le) ↦ (0, suc j, omega arith, (s, refl, (t, le, lt, (v, w, rest))))
]

rows_glue : (m : Rules) (r : Asked) (a p b : ℤ) (i k j : ℕ) (s v u : State) → i + k ≡ j → a ≤ℤ p → p ≤ℤ b → LostRows m r a p i s v → LostRows m r p b k v u → LostRows m r a b j s u
rows_glue m r a p b zero k j s v u e le under same back = subst (λ (n : ℕ). LostRows m r a b n s u) (let q : k ≡ j = omega arith in q) (subst (λ (z : State). LostRows m r a b k z u) same (rows_wider m r a p b k v u le back))
rows_glue m r a p b (suc i) k j s v u e le under (t, ge, lt, (y, w, rest)) back =
    let more = rows_glue m r t p b i k (i + k) y v u refl (omega (arith, ints)) under rest back in
    subst (λ (n : ℕ). LostRows m r a b n s u) (let q : suc (i + k) ≡ j = omega arith in q) (t, ge, omega (arith, ints), (y, w, more))

-- the still behind the last of the moves, which begin at a, begins no later than p
abbrev pub EndBy : ℕ → List Move → ℕ → Type 0
EndBy a [] p = a ≤ p
EndBy a (x ∷ xs) p = EndBy (still_after x) xs p

-- the still before the first of the moves, which end at b, ends no earlier than p
abbrev pub BeginFrom : ℕ → List Move → ℕ → Type 0
BeginFrom p [] b = p ≤ b
BeginFrom p (x ∷ xs) b = p ≤ limit_before x

pub walk_cut : (m : Rules) (r : Asked) (a p b j : ℕ) (xs ys : List Move) (s u : State) → EndBy a xs p → BeginFrom p ys b → LostWalk m r a (xs ++ ys) b j s u ↔ ((i k : ℕ) × (i + k ≡ j) × ((v : State) × LostWalk m r a xs p i s v × LostWalk m r p ys b k v u))
walk_cut m r a p b j [] [] s u end begin = (
  λ rows. rows_cut m r (pos a) (pos p) (pos b) j s u rows,
  λ (i, k, e, (v, front, back)). rows_glue m r (pos a) (pos p) (pos b) i k j s v u e (omega (arith, ints)) (omega (arith, ints)) front back,
)
walk_cut m r a p b j [] (y ∷ ys) s u end begin = (
  λ (i, k, e, (v, w, rows, tk, rest)).
      let (f, g, d, (z, front, back)) = rows_cut m r (pos a) (pos p) (pos (limit_before y)) i s v rows in
      (f, g + k, omega arith, (z, front, (g, k, refl, (v, w, back, tk, rest)))),
  λ (f, g, d, (z, front, (i, k, e, (v, w, back, tk, rest)))). (f + i, k, omega arith, (v, w, rows_glue m r (pos a) (pos p) (pos (limit_before y)) f i (f + i) s z v refl (omega (arith, ints)) (omega (arith, ints)) front back, tk, rest)),
)
walk_cut m r a p b j (x ∷ xs) ys s u end begin =
    let more = λ (n : ℕ) (w : State). walk_cut m r (still_after x) p b n xs ys w u end begin in (
      λ (i, k, e, (v, w, rows, tk, rest)).
          let (f, g, d, (z, front, back)) = (more k w).0 rest in
          (i + f, g, omega arith, (z, (i, f, refl, (v, w, rows, tk, front)), back)),
      λ (c, g, d, (z, (i, f, e, (v, w, rows, tk, front)), back)). (i, f + g, omega arith, (v, w, rows, tk, (more (f + g) w).1 (f, g, refl, (z, front, back)))),
    )

-- no row is lost in no still
pub none_lost : (m : Rules) (r : Asked) (t : ℤ) (j : ℕ) (s u : State) → LostRows m r t t j s u ↔ ((j ≡ 0) × (u ≡ s))
none_lost m r t zero s u = ((λ same. (refl, same)), λ (_, same). same)
none_lost m r t (suc j) s u = ((λ (y, ge, lt, _). absurd (omega (arith, ints))), λ (e, _). absurd (omega arith))

-- ---- moves without the numbers of their rows

abbrev pub bare : List Move → List Move
bare [] = []
bare (Letter at l n ∷ xs) = Letter at l 0 ∷ bare xs
bare (Gap f t ∷ xs) = Gap f t ∷ bare xs

pub bare_walk : (m : Rules) (r : Asked) (a : ℕ) (xs : List Move) (b j : ℕ) (s u : State) → LostWalk m r a xs b j s u ↔ LostWalk m r a (bare xs) b j s u
bare_walk m r a [] b j s u = ((λ w. w), λ w. w)
bare_walk m r a (Letter at l n ∷ xs) b j s u =
    let more = λ (k : ℕ) (w : State). bare_walk m r at xs b k w u in
    ((λ (i, k, e, (v, w, rows, tk, rest)). (i, k, e, (v, w, rows, tk, (more k w).0 rest))), λ (i, k, e, (v, w, rows, tk, rest)). (i, k, e, (v, w, rows, tk, (more k w).1 rest)))
bare_walk m r a (Gap f t ∷ xs) b j s u =
    let more = λ (k : ℕ) (w : State). bare_walk m r t xs b k w u in
    ((λ (i, k, e, (v, w, rows, tk, rest)). (i, k, e, (v, w, rows, tk, (more k w).0 rest))), λ (i, k, e, (v, w, rows, tk, rest)). (i, k, e, (v, w, rows, tk, (more k w).1 rest)))

-- the channel's letters among the rows
abbrev pub row_letters : Track → List Row → List Move
row_letters k [] = []
row_letters k (r ∷ rs) = with_letter (k.letter r.code r.param) r.at 0 (row_letters k rs)

bare_with : (o : Option ℕ) (at n : ℕ) (xs : List Move) → bare (with_letter o at n xs) ≡ with_letter o at 0 (bare xs)
bare_with None at n xs = refl
bare_with (Some l) at n xs = refl

pub bare_letters : (k : Track) (i : ℕ) (rs : List Row) → bare (letter_moves k i rs) ≡ row_letters k rs
bare_letters k i [] = refl
bare_letters k i (r ∷ rs) = bare_with (k.letter r.code r.param) r.at i (letter_moves k (i + 1) rs) ∙ ap (λ ms. with_letter (k.letter r.code r.param) r.at 0 ms) (bare_letters k (i + 1) rs)

pub bare_join : (xs ys : List Move) → bare (xs ++ ys) ≡ bare xs ++ bare ys
bare_join [] ys = refl
bare_join (Letter at l n ∷ xs) ys = ap (λ ms. Letter at l 0 ∷ ms) (bare_join xs ys)
bare_join (Gap f t ∷ xs) ys = ap (λ ms. Gap f t ∷ ms) (bare_join xs ys)

with_join : (o : Option ℕ) (at : ℕ) (xs ys : List Move) → with_letter o at 0 (xs ++ ys) ≡ with_letter o at 0 xs ++ ys
with_join None at xs ys = refl
with_join (Some l) at xs ys = refl

letters_join : (k : Track) (xs ys : List Row) → row_letters k (xs ++ ys) ≡ row_letters k xs ++ row_letters k ys
letters_join k [] ys = refl
letters_join k (r ∷ xs) ys = ap (λ ms. with_letter (k.letter r.code r.param) r.at 0 ms) (letters_join k xs ys) ∙ with_join (k.letter r.code r.param) r.at (row_letters k xs) (row_letters k ys)

put_with : (o : Option ℕ) (f : ℕ) (ls : List ℕ) → with_letter o f 0 (letters_in f ls) ≡ letters_in f (put o ls)
put_with None f ls = refl
put_with (Some l) f ls = refl

-- those of rows of one tenth
one_tenth : (k : Track) (f : ℕ) (rs : List Row) → RowsIn f (f + 1) rs → row_letters k rs ≡ letters_in f (letters k (events_at rs f))
one_tenth k f [] h = refl
one_tenth k f (r ∷ rs) h =
    let a = h.0 in
    let b = h.1 in
    let now : r.at ≡ f = omega arith in
    let more = one_tenth k f rs (subst (λ (y : ℕ). RowsIn y (f + 1) rs) now h.2) in
    ap (λ (y : ℕ). with_letter (k.letter r.code r.param) y 0 (row_letters k rs)) now ∙ (ap (λ ms. with_letter (k.letter r.code r.param) f 0 ms) more ∙ (put_with (k.letter r.code r.param) f (letters k (events_at rs f)) ∙ ap (λ es. letters_in f (letters k es)) (sym (event_here r rs f (eq-eqb r.at f now)))))

-- the rows of the first tenth, and the others
pub first_tenth_of : (k : Track) (f t : ℕ) (rs : List Row) → f < t → RowsIn f t rs → (qs : List Row) × RowsIn (f + 1) t qs × (row_letters k rs ≡ letters_in f (letters k (events_at rs f)) ++ row_letters k qs) × ((x : ℕ) → f + 1 ≤ x → events_at rs x ≡ events_at qs x)
first_tenth_of k f t rs lt h =
    let c = count_before (f + 1) rs in
    let (here, later, same, others) = cut_rows f (f + 1) t rs (omega arith) (omega arith) h in
    let parts : row_letters k rs ≡ row_letters k (take c rs) ++ row_letters k (drop c rs) = ap (λ qs. row_letters k qs) (sym (take-append-drop c rs)) ∙ letters_join k (take c rs) (drop c rs) in
    let first : row_letters k (take c rs) ≡ letters_in f (letters k (events_at rs f)) = one_tenth k f (take c rs) here ∙ ap (λ es. letters_in f (letters k es)) (sym (same f (omega arith))) in
    (drop c rs, later, parts ∙ ap (λ ms. ms ++ row_letters k (drop c rs)) first, others)

pub letters_end : (a f p : ℕ) (ls : List ℕ) → a ≤ p → f ≤ p → EndBy a (letters_in f ls) p
letters_end a f p [] le under = le
letters_end a f p (l ∷ ls) le under = letters_end f f p ls under under

with_begin : (k : Track) (o : Option ℕ) (p at b : ℕ) (xs : List Move) → p ≤ at + 1 → BeginFrom p xs b → BeginFrom p (with_letter o at 0 xs) b
with_begin k None p at b xs le h = h
with_begin k (Some l) p at b xs le h = le

pub rows_begin : (k : Track) (f t p b : ℕ) (rs : List Row) → RowsIn f t rs → p ≤ f + 1 → p ≤ b → BeginFrom p (row_letters k rs) b
rows_begin k f t p b [] h le under = under
rows_begin k f t p b (r ∷ rs) h le under = let a = h.0 in with_begin k (k.letter r.code r.param) p r.at b (row_letters k rs) (omega arith) (rows_begin k r.at t p b rs h.2 (omega arith) under)

with_end : (k : Track) (o : Option ℕ) (a at p : ℕ) (xs : List Move) → ((y : ℕ) → y ≤ p → EndBy y xs p) → a ≤ p → at ≤ p → EndBy a (with_letter o at 0 xs) p
with_end k None a at p xs h le under = h a le
with_end k (Some l) a at p xs h le under = h at under

pub rows_end : (k : Track) (a f t p : ℕ) (rs : List Row) → RowsIn f t rs → t ≤ p → a ≤ p → EndBy a (row_letters k rs) p
rows_end k a f t p [] h le under = under
rows_end k a f t p (r ∷ rs) h le under = let b = h.1 in with_end k (k.letter r.code r.param) a r.at p (row_letters k rs) (λ y less. rows_end k y r.at t p rs h.2 le less) under (omega arith)

-- ---- ranges of tenths

pub over_join : (k : Track) (known : ℕ → Bool) (given : ℕ → List Event) (r : Asked) (f x a b j : ℕ) (s u : State) → f + a ≡ x → LosesOver k known given r f (a + b) j s u ↔ ((i n : ℕ) × (i + n ≡ j) × ((v : State) × LosesOver k known given r f a i s v × LosesOver k known given r x b n v u))
over_join k known given r f x zero b j s u e =
    let same : f ≡ x = omega arith in
    let none : 0 + b ≡ b = omega arith in
    rw (none, same) ((λ w. (0, j, omega arith, (s, (refl, refl), w))), λ (i, n, sum, (v, (zero_is, is), w)). subst (λ (q : ℕ). LosesOver k known given r x b q s u) (let q : n ≡ j = omega arith in q) (subst (λ (z : State). LosesOver k known given r x b n z u) is w))
over_join k known given r f x (suc a) b j s u e =
    let more = λ (n : ℕ) (w : State). over_join k known given r (f + 1) x a b n w u (omega arith) in
    let size : suc a + b ≡ suc (a + b) = omega arith in
    rw size (
      (λ (i, n, sum, (v, one, rest)). let (g, h, sum2, (w, front, back)) = (more n v).0 rest in (i + g, h, omega arith, (w, (i, g, refl, (v, one, front)), back))),
      λ (c, h, sum, (w, (i, g, sum2, (v, one, front)), back)). (i, g + h, omega arith, (v, one, (more (g + h) v).1 (g, h, refl, (w, front, back)))),
    )

tenth_same : (k : Track) (known known2 : ℕ → Bool) (given given2 : ℕ → List Event) (r : Asked) (x j : ℕ) (s u : State) → known x ≡ known2 x → given x ≡ given2 x → LosesInTenth k known given r x j s u → LosesInTenth k known2 given2 r x j s u
tenth_same k known known2 given given2 r x j s u a b (inl (is, walk)) = inl (sym a ∙ is, subst (λ (es : List Event). LostWalk k.rules r x (letters_in x (letters k es)) (x + 1) j s u) b walk)
tenth_same k known known2 given given2 r x j s u a b (inr (not, none, free)) = inr (sym a ∙ not, none, free)

-- only what is known and given in the range matters
pub over_same : (k : Track) (known known2 : ℕ → Bool) (given given2 : ℕ → List Event) (r : Asked) (f n t j : ℕ) (s u : State) → f + n ≡ t → ((x : ℕ) → f ≤ x → x < t → known x ≡ known2 x) → ((x : ℕ) → f ≤ x → x < t → given x ≡ given2 x) → LosesOver k known given r f n j s u → LosesOver k known2 given2 r f n j s u
over_same k known known2 given given2 r f zero t j s u e a b w = w
over_same k known known2 given given2 r f (suc n) t j s u e a b (i, g, sum, (v, one, rest)) = (i, g, sum, (v, tenth_same k known known2 given given2 r f i s v (a f (omega arith) (omega arith)) (b f (omega arith) (omega arith)) one, over_same k known known2 given given2 r (f + 1) n t g v u (omega arith) (λ x l1 l2. a x (omega arith) l2) (λ x l1 l2. b x (omega arith) l2) rest))

-- a known range: the letters of its rows, and the lost ones
pub rows_walk : (k : Track) (known : ℕ → Bool) (given : ℕ → List Event) (r : Asked) (d f t j : ℕ) (rs : List Row) (s u : State) → f + d ≡ t → RowsIn f t rs → ((x : ℕ) → f ≤ x → x < t → known x ≡ true) → ((x : ℕ) → f ≤ x → x < t → given x ≡ events_at rs x) → LosesOver k known given r f d j s u ↔ LostWalk k.rules r f (row_letters k rs) t j s u
rows_walk k known given r zero f t j [] s u e h is gives =
    let same : t ≡ f = omega arith in
    let none = none_lost k.rules r (pos f) j s u in
    rw same (none.1, none.0)
rows_walk k known given r zero f t j (q ∷ rs) s u e h is gives = absurd (let a = h.0 in let b = h.1 in omega arith)
rows_walk k known given r (suc d) f t j rs s u e h is gives =
    let (qs, later, parts, others) = first_tenth_of k f t rs (omega arith) h in
    let here : given f ≡ events_at rs f = gives f (omega arith) (omega arith) in
    let first = letters_in f (letters k (events_at rs f)) in
    let cut = walk_cut k.rules r f (f + 1) t j first (row_letters k qs) s u (letters_end f f (f + 1) (letters k (events_at rs f)) (omega arith) (omega arith)) (rows_begin k (f + 1) t (f + 1) t qs later (omega arith) (omega arith)) in
    let rest = λ (n : ℕ) (v : State). rows_walk k known given r d (f + 1) t n qs v u (omega arith) later (λ x l1 l2. is x (omega arith) l2) (λ x l1 l2. gives x (omega arith) l2 ∙ others x l1) in
    let known_is = is f (omega arith) (omega arith) in
    rw parts (
      (λ (i, n, sum, (v, one, more)). elim one [
        | inl (_, walk) ↦ cut.1 (i, n, sum, (v, subst (λ (es : List Event). LostWalk k.rules r f (letters_in f (letters k es)) (f + 1) i s v) here walk, (rest n v).0 more))
        | inr (not, _, _) ↦ absurd (let no : true ≡ false = sym known_is ∙ not in cc)
      ]),
      λ w. let (i, n, sum, (v, walk, more)) = cut.0 w in (i, n, sum, (v, inl (known_is, subst (λ (es : List Event). LostWalk k.rules r f (letters_in f (letters k es)) (f + 1) i s v) (sym here) walk), (rest n v).1 more)),
    )

-- a range of which nothing is known: any legal letters, and no lost row
free_walk : (k : Track) (known : ℕ → Bool) (given : ℕ → List Event) (r : Asked) (d f t j : ℕ) (s u : State) → f + d ≡ t → ((x : ℕ) → f ≤ x → x < t → known x ≡ false) → LosesOver k known given r f d j s u ↔ ((j ≡ 0) × ((lists : List (List ℕ)) × (length lists ≡ d) × Run k.rules (pos f) s lists u))
free_walk k known given r zero f t j s u e not = ((λ (none, same). (none, ([], refl, same))), λ (none, (lists, size, run)). (none, no_lists k f s u lists size run))
  where
    no_lists : (k : Track) (f : ℕ) (s u : State) (lists : List (List ℕ)) → length lists ≡ 0 → Run k.rules (pos f) s lists u → u ≡ s
    no_lists k f s u [] e run = run
    no_lists k f s u (ls ∷ lists) e run = absurd (omega arith)
free_walk k known given r (suc d) f t j s u e not =
    let more = λ (n : ℕ) (v : State). free_walk k known given r d (f + 1) t n v u (omega arith) (λ x l1 l2. not x (omega arith) l2) in
    let not_known = not f (omega arith) (omega arith) in (
      (λ (i, n, sum, (v, one, rest)). elim one [
        | inl (is, _) ↦ absurd (let no : true ≡ false = sym is ∙ not_known in cc)
        | inr (_, none, (ls, steps)) ↦ let (none2, (lists, size, run)) = (more n v).0 rest in (omega arith, (ls ∷ lists, ap suc size, (v, steps, run)))
      ]),
      λ (none, (lists, size, run)). free_first lists size run none more not_known,
    )
  where
    free_first : (lists : List (List ℕ)) → length lists ≡ suc d → Run k.rules (pos f) s lists u → j ≡ 0 → ((n : ℕ) (v : State) → LosesOver k known given r (f + 1) d n v u ↔ ((n ≡ 0) × ((lists : List (List ℕ)) × (length lists ≡ d) × Run k.rules (pos (f + 1)) v lists u))) → known f ≡ false → LosesOver k known given r f (suc d) j s u
    free_first [] size run none more not = absurd (omega arith)
    free_first (ls ∷ lists) size (v, steps, run) none more not = (0, 0, omega arith, (v, inr (not, refl, (ls, steps)), (more 0 v).1 (refl, (lists, omega arith, run))))

gap_walk : (k : Track) (known : ℕ → Bool) (given : ℕ → List Event) (r : Asked) (d f t j : ℕ) (s u : State) → f + d ≡ t → ((x : ℕ) → f ≤ x → x < t → known x ≡ false) → LosesOver k known given r f d j s u ↔ LostWalk k.rules r f (Gap f t ∷ []) t j s u
gap_walk k known given r d f t j s u e not =
    let free = free_walk k known given r d f t j s u e not in (
      (λ w. let (none, (lists, size, run)) = free.0 w in (0, 0, omega arith, (s, u, refl, (lists, omega (arith, ints), run), refl))),
      λ (i, n, sum, (v, w, before, (lists, size, run), after)).
          let (none1, same1) = (none_lost k.rules r (pos f) i s v).0 before in
          let (none2, same2) = (none_lost k.rules r (pos t) n w u).0 after in
          free.1 (omega arith, (lists, omega (arith, ints), subst (λ (z : State). Run k.rules (pos f) s lists z) (sym same2) (subst (λ (z : State). Run k.rules (pos f) z lists w) same1 run))),
    )

-- a stretch
stretch_walk : (k : Track) (known : ℕ → Bool) (given : ℕ → List Event) (r : Asked) (st : Stretch) (d f i j : ℕ) (rs : List Row) (s u : State) → st.from ≡ f → f + d ≡ st.to → RowsIn f st.to rs → ((x : ℕ) → f ≤ x → x < st.to → known x ≡ st.known) → ((x : ℕ) → f ≤ x → x < st.to → given x ≡ events_at rs x) → LosesOver k known given r f d j s u ↔ LostWalk k.rules r f (bare (stretch_moves k i rs st)) st.to j s u
stretch_walk k known given r st d f i j rs s u from size h is gives = elim (cases_Bool st.known) [
  | inl yes_known ↦ rw (yes_known, bare_letters k i rs) (rows_walk k known given r d f st.to j rs s u size h (λ x l1 l2. is x l1 l2 ∙ yes_known) gives)
  | inr not_known ↦ rw (not_known, from) (gap_walk k known given r d f st.to j s u size (λ x l1 l2. is x l1 l2 ∙ not_known))
]

stretch_ends : (k : Track) (st : Stretch) (f i : ℕ) (rs : List Row) → RowsIn f st.to rs → f ≤ st.to → EndBy f (bare (stretch_moves k i rs st)) st.to
stretch_ends k st f i rs h le = elim (cases_Bool st.known) [
  | inl yes_known ↦ rw (yes_known, bare_letters k i rs) (rows_end k f f st.to st.to rs h (omega arith) le)
  | inr not_known ↦ rw not_known (omega arith)
]

pub begin_join : (p b : ℕ) (xs ys : List Move) → BeginFrom p xs b → BeginFrom p ys b → BeginFrom p (xs ++ ys) b
begin_join p b [] ys h g = g
begin_join p b (x ∷ xs) ys h g = h

stretch_begins : (k : Track) (st : Stretch) (f i p b : ℕ) (rs : List Row) → st.from ≡ f → RowsIn f st.to rs → p ≤ f → p ≤ b → BeginFrom p (bare (stretch_moves k i rs st)) b
stretch_begins k st f i p b rs from h le under = elim (cases_Bool st.known) [
  | inl yes_known ↦ rw (yes_known, bare_letters k i rs) (rows_begin k f st.to p b rs h (omega arith) under)
  | inr not_known ↦ rw not_known (omega arith)
]

pub own_begins : (k : Track) (f t i p : ℕ) (rows : List Row) (ss : List Stretch) → FollowOn f t ss → RowsIn f t rows → p ≤ f → BeginFrom p (bare (own k i rows ss)) t
own_begins k f t i p rows [] h r le = let same : t ≡ f = omega arith in omega arith
own_begins k f t i p rows (st ∷ ss) h r le =
    let c = count_before st.to rows in
    let end = late_end st.to t ss h.2 in
    let lt = h.1 in
    let from = h.0 in
    let (k1, k2, _, _) = cut_rows f st.to t rows (omega arith) end r in
    rw (bare_join (stretch_moves k i (take c rows) st) (own k (i + c) (drop c rows) ss)) (begin_join p t (bare (stretch_moves k i (take c rows) st)) (bare (own k (i + c) (drop c rows) ss)) (stretch_begins k st f i p t (take c rows) from k1 le (omega arith)) (own_begins k st.to t (i + c) p (drop c rows) ss h.2 k2 (omega arith)))

-- what the channel takes over the stretches are its moves
pub over_walk : (k : Track) (known : ℕ → Bool) (given : ℕ → List Event) (r : Asked) (d f t i j : ℕ) (rows : List Row) (ss : List Stretch) (s u : State) → f + d ≡ t → FollowOn f t ss → RowsIn f t rows → ((x : ℕ) → f ≤ x → x < t → known x ≡ known_at ss x) → ((x : ℕ) → f ≤ x → x < t → given x ≡ events_at rows x) → LosesOver k known given r f d j s u ↔ LostWalk k.rules r f (bare (own k i rows ss)) t j s u
over_walk k known given r d f t i j rows [] s u size h rs is gives =
    let same : t ≡ f = omega arith in
    let none : d ≡ 0 = omega arith in
    let lost = none_lost k.rules r (pos f) j s u in
    rw (none, same) (lost.1, lost.0)
over_walk k known given r d f t i j rows (st ∷ ss) s u size h rs is gives =
    let end = late_end st.to t ss h.2 in
    let lt = h.1 in
    let from = h.0 in
    let c = count_before st.to rows in
    let (k1, k2, k3, k4) = cut_rows f st.to t rows (omega arith) end rs in
    let a = st.to - f in
    let b = t - st.to in
    let sum : d ≡ a + b = omega arith in
    let one = λ (n : ℕ) (v : State). stretch_walk k known given r st a f i n (take c rows) s v from (omega arith) k1 (λ x l1 l2. is x l1 (omega arith) ∙ known_here st ss f t x h l1 l2) (λ x l1 l2. gives x l1 (omega arith) ∙ k3 x l2) in
    let two = λ (n : ℕ) (v : State). over_walk k known given r b st.to t (i + c) n (drop c rows) ss v u (omega arith) h.2 k2 (λ x l1 l2. is x (omega arith) l2 ∙ known_there st ss x l1) (λ x l1 l2. gives x (omega arith) l2 ∙ k4 x l1) in
    let xs = bare (stretch_moves k i (take c rows) st) in
    let ys = bare (own k (i + c) (drop c rows) ss) in
    let cut = walk_cut k.rules r f st.to t j xs ys s u (stretch_ends k st f i (take c rows) k1 (omega arith)) (own_begins k st.to t (i + c) st.to (drop c rows) ss h.2 k2 (omega arith)) in
    let join = over_join k known given r f st.to a b j s u (omega arith) in
    rw (sum, bare_join (stretch_moves k i (take c rows) st) (own k (i + c) (drop c rows) ss)) (
      (λ w. let (n, m, e, (v, front, back)) = join.0 w in cut.1 (n, m, e, (v, (one n v).0 front, (two m v).0 back))),
      λ w. let (n, m, e, (v, front, back)) = cut.0 w in join.1 (n, m, e, (v, (one n v).1 front, (two m v).1 back)),
    )

pub range_walk : (k : Track) (known : ℕ → Bool) (given : ℕ → List Event) (r : Asked) (f t i j : ℕ) (rows : List Row) (ss : List Stretch) (s u : State) → FollowOn f t ss → RowsIn f t rows → ((x : ℕ) → f ≤ x → x < t → known x ≡ known_at ss x) → ((x : ℕ) → f ≤ x → x < t → given x ≡ events_at rows x) → Loses k known given r f t j s u ↔ LostWalk k.rules r f (own k i rows ss) t j s u
range_walk k known given r f t i j rows ss s u h rs is gives =
    let late = late_end f t ss h in
    let bared = bare_walk k.rules r f (own k i rows ss) t j s u in
    let walk = λ (d : ℕ) (e : f + d ≡ t). over_walk k known given r d f t i j rows ss s u e h rs is gives in (
      (λ (d, e, w). bared.1 ((walk d e).0 w)),
      λ w. (t - f, omega arith, (walk (t - f) (omega arith)).1 (bared.0 w)),
    )
