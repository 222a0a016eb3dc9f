-- The moves of a channel before a row and from it on, and what the channel takes over them.
use Rattle.std.proofs.Common.{◌≡◌, refl, ap, sym, ◌∙◌, subst, inl, inr, ◌↔◌, ℕ, ◌+◌, ◌-◌, ◌<◌, ◌≤◌, Bool, true, false, List, [], ◌∷◌, ◌++◌, take, drop, arith}
use Rattle.std.proofs.lemmas.List.{append_assoc}
use Rattle.reach.specs.Runs.{State}
use Rattle.sig_base.specs.declared.values.Row.{Row}
use Rattle.gap_map.specs.declared.stretch.Stretch.{Stretch}
use Rattle.gap_map.specs.Stretches.{FollowOn, known_at}
use Rattle.board.specs.History.{Event, Track, events_at, letters}
use Rattle.board.specs.Moves.{RowsIn, count_before, own, stretch_moves}
use Rattle.board.specs.Places.{upto}
use Rattle.board.proofs.Bridge.{cut_rows, known_here, known_there, late_end}
use Rattle.board.proofs.Cutting.{known_moves, upto_in, upto_known}
use Rattle.lost_rows.specs.declared.asked.Asked.{Asked}
use Rattle.lost_rows.specs.Walks.{LostWalk}
use Rattle.lost_laws.specs.Tenths.{Loses, LosesOver, letters_in}
use Rattle.lost_laws.specs.Walks.{RangesJoin}
use Rattle.lost_laws.proofs.Ranges.{bare, bare_join, bare_letters, begin_join, first_tenth_of, letters_end, over_join, over_same, over_walk, own_begins, range_walk, row_letters, rows_begin, rows_end, rows_walk, walk_cut}

pub ranges_join : RangesJoin
ranges_join k known given r f x t j s u l1 l2 = (
  λ (n, e, w).
      let a = x - f in
      let b = t - x in
      let sum : n ≡ a + b = omega arith in
      let (i, m, q, (v, front, back)) = (over_join k known given r f x a b j s u (omega arith)).0 (subst (λ (z : ℕ). LosesOver k known given r f z j s u) sum w) in
      (i, m, q, (v, (a, omega arith, front), (b, omega arith, back))),
  λ (i, m, q, (v, (a, e1, front), (b, e2, back))). (a + b, omega arith, (over_join k known given r f x a b j s u e1).1 (i, m, q, (v, front, back))),
)

pub loses_same : (k : Track) (known : ℕ → Bool) (given given2 : ℕ → List Event) (r : Asked) (f t j : ℕ) (s u : State) → ((x : ℕ) → f ≤ x → x < t → given x ≡ given2 x) → Loses k known given r f t j s u → Loses k known given2 r f t j s u
loses_same k known given given2 r f t j s u same (n, e, w) = (n, e, over_same k known known given given2 r f n t j s u e (λ x l1 l2. refl) same w)

-- one known tenth
pub last_tenth : (k : Track) (known : ℕ → Bool) (given : ℕ → List Event) (r : Asked) (x j : ℕ) (s u : State) → known x ≡ true → Loses k known given r x (x + 1) j s u ↔ LostWalk k.rules r x (letters_in x (letters k (given x))) (x + 1) j s u
last_tenth k known given r x j s u is = (
  λ (d, e, w).
      let one : d ≡ 1 = omega arith in
      let (p, q, sum, (y, tenth, (none, same))) = subst (λ (z : ℕ). LosesOver k known given r x z j s u) one w in
      let few : p ≡ j = omega arith in
      elim tenth [
        | inl (_, walk) ↦ subst (λ (z : State). LostWalk k.rules r x (letters_in x (letters k (given x))) (x + 1) j s z) (sym same) (subst (λ (c : ℕ). LostWalk k.rules r x (letters_in x (letters k (given x))) (x + 1) c s y) few walk)
        | inr (not, _, _) ↦ absurd (let no : true ≡ false = sym is ∙ not in cc)
      ],
  λ walk. (1, refl, (j, 0, omega arith, (u, inl (is, walk), (refl, refl)))),
)

-- the moves up to a place in a known tenth
pub upto_walk : (k : Track) (known : ℕ → Bool) (given : ℕ → List Event) (r : Asked) (f t x j : ℕ) (rows : List Row) (ss : List Stretch) (s v : State) → FollowOn f t ss → f ≤ x → x < t → RowsIn f (x + 1) rows → known x ≡ true → ((y : ℕ) → f ≤ y → y < x + 1 → known y ≡ known_at ss y) → ((y : ℕ) → f ≤ y → y < x → given y ≡ events_at rows y) → ((a b : ℕ) × (a + b ≡ j) × ((z : State) × Loses k known given r f x a s z × LostWalk k.rules r x (letters_in x (letters k (events_at rows x))) (x + 1) b z v)) ↔ LostWalk k.rules r f (own k 0 rows (upto x ss)) (x + 1) j s v
upto_walk k known given r f t x j rows ss s v follow late lt order is known_is gives =
    let one = events_at rows in
    let walk = range_walk k known one r f (x + 1) 0 j rows (upto x ss) s v (upto_in f t x ss follow late lt) order (λ y l1 l2. known_is y l1 l2 ∙ upto_known f t x y ss follow late lt l1 l2) (λ y l1 l2. refl) in
    let join = ranges_join k known one r f x (x + 1) j s v late (omega arith) in
    let last = λ (b : ℕ) (z : State). last_tenth k known one r x b z v is in (
      (λ (a, b, sum, (z, front, back)). walk.0 (join.1 (a, b, sum, (z, loses_same k known given one r f x a s z gives front, (last b z).1 back)))),
      λ w. let (a, b, sum, (z, front, back)) = join.0 (walk.1 w) in (a, b, sum, (z, loses_same k known one given r f x a s z (λ y l1 l2. sym (gives y l1 l2)) front, (last b z).0 back)),
    )

-- the moves from a place in a known tenth on, of whose first still only what is behind the tenth is left
pub since_walk : (k : Track) (known : ℕ → Bool) (given : ℕ → List Event) (r : Asked) (x t i j : ℕ) (rows : List Row) (ss : List Stretch) (s u : State) → FollowOn x t ss → RowsIn x t rows → x < t → known_at ss x ≡ true → ((y : ℕ) → x + 1 ≤ y → y < t → known y ≡ known_at ss y) → ((y : ℕ) → x + 1 ≤ y → y < t → given y ≡ events_at rows y) → LostWalk k.rules r (x + 1) (bare (own k i rows ss)) t j s u ↔ ((a b : ℕ) × (a + b ≡ j) × ((z : State) × LostWalk k.rules r (x + 1) (letters_in x (letters k (events_at rows x))) (x + 1) a s z × Loses k known given r (x + 1) t b z u))
since_walk k known given r x t i j rows [] s u follow order lt is known_is gives = absurd (omega arith)
since_walk k known given r x t i j rows (st ∷ ss) s u follow order lt is known_is gives =
    let less = follow.1 in
    let end = late_end st.to t ss follow.2 in
    let c = count_before st.to rows in
    let (k1, k2, k3, k4) = cut_rows x st.to t rows (omega arith) end order in
    let yes_known : st.known ≡ true = sym (known_here st ss x t x follow (omega arith) less) ∙ is in
    let (qs, later, parts, others) = first_tenth_of k x st.to (take c rows) less k1 in
    let first = letters_in x (letters k (events_at rows x)) in
    let tail = bare (own k (i + c) (drop c rows) ss) in
    let here : row_letters k (take c rows) ≡ first ++ row_letters k qs = parts ∙ ap (λ es. letters_in x (letters k es) ++ row_letters k qs) (sym (k3 x less)) in
    let front_is : bare (stretch_moves k i (take c rows) st) ≡ first ++ row_letters k qs = ap bare (known_moves k i (take c rows) st yes_known) ∙ (bare_letters k i (take c rows) ∙ here) in
    let whole : bare (own k i rows (st ∷ ss)) ≡ first ++ (row_letters k qs ++ tail) = bare_join (stretch_moves k i (take c rows) st) (own k (i + c) (drop c rows) ss) ∙ (ap (λ ms. ms ++ tail) front_is ∙ append_assoc first (row_letters k qs) tail) in
    let cut = walk_cut k.rules r (x + 1) (x + 1) t j first (row_letters k qs ++ tail) s u (letters_end (x + 1) x (x + 1) (letters k (events_at rows x)) (omega arith) (omega arith)) (begin_join (x + 1) t (row_letters k qs) tail (rows_begin k (x + 1) st.to (x + 1) t qs later (omega arith) (omega arith)) (own_begins k st.to t (i + c) (x + 1) (drop c rows) ss follow.2 k2 (omega arith))) in
    let inner = λ (n : ℕ) (z : State). walk_cut k.rules r (x + 1) st.to t n (row_letters k qs) tail z u (rows_end k (x + 1) (x + 1) st.to st.to qs later (omega arith) (omega arith)) (own_begins k st.to t (i + c) st.to (drop c rows) ss follow.2 k2 (omega arith)) in
    let a = st.to - (x + 1) in
    let b = t - st.to in
    let one = λ (n : ℕ) (z v : State). rows_walk k known given r a (x + 1) st.to n qs z v (omega arith) later (λ y l1 l2. known_is y l1 (omega arith) ∙ (known_here st ss x t y follow (omega arith) l2 ∙ yes_known)) (λ y l1 l2. gives y l1 (omega arith) ∙ (k3 y l2 ∙ others y l1)) in
    let two = λ (n : ℕ) (v : State). over_walk k known given r b st.to t (i + c) n (drop c rows) ss v u (omega arith) follow.2 k2 (λ y l1 l2. known_is y (omega arith) l2 ∙ known_there st ss y l1) (λ y l1 l2. gives y (omega arith) l2 ∙ k4 y l1) in
    let join = λ (n : ℕ) (z : State). over_join k known given r (x + 1) st.to a b n z u (omega arith) in
    rw whole (
      (λ w.
          let (n, m, sum, (z, front, rest)) = cut.0 w in
          let (p, q, e, (v, w1, w2)) = (inner m z).0 rest in
          (n, m, sum, (z, front, (a + b, omega arith, (join m z).1 (p, q, e, (v, (one p z v).1 w1, (two q v).1 w2)))))),
      λ (n, m, sum, (z, front, (d, size, w))).
          let all : d ≡ a + b = omega arith in
          let (p, q, e, (v, w1, w2)) = (join m z).0 (subst (λ (y : ℕ). LosesOver k known given r (x + 1) y m z u) all w) in
          cut.1 (n, m, sum, (z, front, (inner m z).1 (p, q, e, (v, (one p z v).0 w1, (two q v).0 w2)))),
    )
