-- The last tenths of an hour: its last rows and moves, and what is told by these alone.
use Rattle.std.proofs.Common.{suc, zero, ◌≡◌, refl, ap, sym, ◌∙◌, inl, inr, ℕ, ◌+◌, ◌<◌, ◌≤◌, ℤ, Bool, true, false, not, ltb, List, [], ◌∷◌, ◌++◌, length, take, drop, get_or, arith, Option}
use Rattle.std.specs.List.Sorted.{IsNonDecreasingBy, IsPartitionPoint}
use Rattle.std.proofs.lemmas.Bool.{cases_Bool, cases_eq}
use Rattle.std.proofs.lemmas.Grind.{common_steps}
use Rattle.std.proofs.lemmas.List.{length-take-le, take-append-drop}
use Rattle.std.proofs.lemmas.List.Sorted.{IsNonDecreasingBy-from_default}
use Rattle.channel_path.specs.declared.moves.Move.{Move}
use Rattle.channel_path.specs.Walks.{InOrder}
use Rattle.channel_path.proofs.Moving.{earlier_low}
use Rattle.sig_base.specs.declared.values.Row.{Row}
use Rattle.gap_map.specs.declared.stretch.Stretch.{Stretch}
use Rattle.gap_map.specs.Stretches.{FollowOn, known_at}
use Rattle.gap_map.proofs.Cutting.{nat_cases}
use Rattle.channel_tables.specs.Spec.{rules_of}
use Rattle.channel_tables.specs.declared.spec.Spec.{Spec}
use Rattle.board.specs.Channels.{track}
use Rattle.board.specs.Hours.{AreAlike, AreAlikeBut}
use Rattle.board.specs.Logs.{IsHour, first_tenth, end_tenth, no_row}
use Rattle.board.specs.Moves.{RowsIn, count_before, own}
use Rattle.board.specs.Places.{IsEndOf, since, upto}
use Rattle.board.specs.Stops.{moves_at, rules_at}
use Rattle.board.proofs.Adding.{count_le, no_stretch}
use Rattle.board.proofs.Back.{alike_over}
use Rattle.board.proofs.Bridge.{cut_rows, known_here, known_there}
use Rattle.board.proofs.Cutting.{own_cut, since_in}
use Rattle.board.proofs.Ordering.{own_order}
use Rattle.board.proofs.Tracks.{spec_lettered}
use Rattle.board.proofs.Within.{hour_rows}

rows_low : (f t k : ℕ) (rows : List Row) → RowsIn f t rows → k < length rows → f ≤ (get_or rows k no_row).at
rows_low f t k [] h lt = absurd (omega arith)
rows_low f t zero (r ∷ rows) h lt = h.0
rows_low f t (suc k) (r ∷ rows) h lt = let a = h.0 in let b = rows_low r.at t k rows h.2 (omega arith) in omega arith

sorted : (f t j k : ℕ) (rows : List Row) → RowsIn f t rows → j ≤ k → k < length rows → (get_or rows j no_row).at ≤ (get_or rows k no_row).at
sorted f t j k [] h le lt = absurd (omega arith)
sorted f t zero zero (r ∷ rows) h le lt = omega arith
sorted f t zero (suc k) (r ∷ rows) h le lt = rows_low r.at t k rows h.2 (omega arith)
sorted f t (suc j) zero (r ∷ rows) h le lt = absurd (omega arith)
sorted f t (suc j) (suc k) (r ∷ rows) h le lt = sorted r.at t j k rows h.2 (omega arith) (omega arith)

pub rows_rise : (f t : ℕ) (rows : List Row) → RowsIn f t rows → IsNonDecreasingBy (λ (r : Row). r.at) rows
rows_rise f t rows h = IsNonDecreasingBy-from_default (λ (r : Row). r.at) rows no_row (λ i j le lt. sorted f t i j rows h le lt)

-- the place at which rows in order are told apart by a tenth
pub count_point : (y : ℕ) (rows : List Row) (i : ℕ) → i ≤ length rows → IsPartitionPoint (λ (r : Row). ltb r.at y ≡ true) (λ (r : Row). ltb r.at y ≡ false) rows i → i ≡ count_before y rows
count_point y [] i le at = omega arith
count_point y (r ∷ rows) zero le at = let late : ltb r.at y ≡ false = at.1 0 r (omega arith) (omega arith) in rw late refl
count_point y (r ∷ rows) (suc i) le at =
    let early : ltb r.at y ≡ true = at.0 0 r (omega arith) (omega arith) in
    let rest = count_point y rows i (omega arith) ((λ k d lo hi. at.0 (suc k) d (omega arith) (omega arith)), (λ k d lo hi. at.1 (suc k) d (omega arith) (omega arith))) in
    rw early (ap suc rest)

rows_until : (f x m : ℕ) (rows : List Row) → x ≤ m → RowsIn f x rows → RowsIn f m rows
rows_until f x m [] le h = omega arith
rows_until f x m (r ∷ rows) le h = (h.0, (let a = h.1 in omega arith), rows_until r.at x m rows le h.2)

-- the last stretch, from one of its tenths on
pub end_of_last : (f t n x : ℕ) (ss : List Stretch) → n + 1 ≡ length ss → FollowOn f t ss → (get_or ss n no_stretch).known ≡ true → (get_or ss n no_stretch).from ≤ x → x < (get_or ss n no_stretch).to → (f ≤ x) × (x < t) × (known_at ss x ≡ true) × (since x ss ≡ record { from = x; to = (get_or ss n no_stretch).to; known = true } ∷ [])
end_of_last f t n x [] le h is a b = absurd (omega arith)
end_of_last f t zero x (s ∷ []) le h is a b = elim (nat_cases x s.to) [
  | inl (test, lt) ↦ (let q = h.0 in omega arith, let q = h.2 in omega arith, known_here s [] f t x h (let q = h.0 in omega arith) lt ∙ is, rw (test, is) refl)
  | inr (test, ge) ↦ absurd (omega arith)
]
end_of_last f t zero x (s ∷ q ∷ ss) le h is a b = absurd (omega arith)
end_of_last f t (suc n) x (s ∷ ss) le h is a b =
    let (low, high, known, same) = end_of_last s.to t n x ss (omega arith) h.2 is a b in
    elim (nat_cases x s.to) [
      | inl (test, lt) ↦ absurd (omega arith)
      | inr (test, ge) ↦ (let q = h.1 in omega arith, high, known_there s ss x ge ∙ known, rw test same)
    ]

pub last_fits : (f t n : ℕ) (ss : List Stretch) → n + 1 ≡ length ss → FollowOn f t ss → (get_or ss n no_stretch).from < (get_or ss n no_stretch).to
last_fits f t n [] le h = absurd (omega arith)
last_fits f t zero (s ∷ ss) le h = let a = h.0 in let b = h.1 in omega arith
last_fits f t (suc n) (s ∷ ss) le h = last_fits s.to t n ss (omega arith) h.2

-- the moves of the end are in order, and the last of the hour's
pub end_moves : (s : Spec) (h n : ℕ) (rows : List Row) (ss : List Stretch) (end : Stretch) → IsHour h rows ss → IsEndOf ss end → n ≡ count_before end.from rows → InOrder (rules_of s) 0 (own (track s) n (drop n rows) (end ∷ [])) × ((front : List Move) × (own (track s) 0 rows ss ≡ front ++ own (track s) n (drop n rows) (end ∷ [])))
end_moves s h n rows ss end is last count =
    let f = first_tenth h in
    let t = end_tenth h in
    let k = track s in
    let x = end.from in
    let (low, high, known, same) = last f t is.follow in
    let (k1, k2, _, _) = cut_rows f x t rows low (omega arith) (hour_rows h rows ss is) in
    let before : RowsIn f x (take n rows) = rw count k1 in
    let after : RowsIn x t (drop n rows) = rw count k2 in
    let follow : FollowOn x t (end ∷ []) = rw same at (since_in f t x ss is.follow low high) in
    let order = (own_order k x t n (drop n rows) (end ∷ []) (spec_lettered s) follow after).0 in
    let le : n ≤ length rows = (let l = count_le x rows in omega arith) in
    let number : 0 + length (take n rows) ≡ n = (let l = length-take-le n rows le in omega arith) in
    let front = own k 0 (take n rows) (upto x ss) in
    let cut = own_cut k f t x 0 (take n rows) (drop n rows) ss is.follow (rows_until f x (x + 1) (take n rows) (omega arith) before) after low high known in
    let tail : own k (0 + length (take n rows)) (drop n rows) (since x ss) ≡ own k n (drop n rows) (end ∷ []) = ap (λ i. own k i (drop n rows) (since x ss)) number ∙ ap (λ qs. own k n (drop n rows) qs) same in
    (earlier_low (rules_of s) 0 x _ (omega arith) order, (front, ap (λ rs. own k 0 rs ss) (sym (take-append-drop n rows)) ∙ (cut ∙ ap (λ ms. front ++ ms) tail)))

-- what leads alike over the end does over the hour
pub end_alike : (s : Spec) (h n : ℕ) (rows : List Row) (ss : List Stretch) (end : Stretch) (a b : List (Option ℤ)) → IsHour h rows ss → IsEndOf ss end → n ≡ count_before end.from rows → AreAlike (rules_of s) a b (own (track s) n (drop n rows) (end ∷ [])) → AreAlike (rules_of s) a b (own (track s) 0 rows ss)
end_alike s h n rows ss end a b is last count alike =
    let (_, (front, same)) = end_moves s h n rows ss end is last count in
    let order = (own_order (track s) (first_tenth h) (end_tenth h) 0 rows ss (spec_lettered s) is.follow (hour_rows h rows ss is)).0 in
    rw same (alike_over (rules_of s) a b (first_tenth h) front _ (rw same at order) alike)

pub alike_same : (specs : List Spec) (rows : List Row) (ss : List Stretch) (i : ℕ) (d : Spec) (a b : List (Option ℤ)) → a ≡ b → AreAlike (rules_at specs i d) a b (moves_at specs rows ss i d)
alike_same specs rows ss i d a b e = rw e (λ s early. ((λ h. h), λ h. h))

pub true_not : (b : Bool) → not b ≡ false → b ≡ true
true_not b e = elim (cases_Bool b) [ inl is ↦ is | inr off ↦ let bad : true ≡ false = sym (ap not off) ∙ e in absurd (cc) ]

-- one channel more
pub alike_more : (specs : List Spec) (rows : List Row) (ss : List Stretch) (a b : List (List (Option ℤ))) (others : List Bool) (n : ℕ) (one : Bool) → length others ≡ n → AreAlikeBut specs rows ss a b others n → (one ≡ false → (d : Spec) → AreAlike (rules_at specs n d) (get_or a n []) (get_or b n []) (moves_at specs rows ss n d)) → AreAlikeBut specs rows ss a b (others ++ one ∷ []) (n + 1)
alike_more specs rows ss a b others n one len old new i d lt off = elim (cases_eq i n) [
  | inl e ↦ let at : get_or (others ++ one ∷ []) i false ≡ one = grind (arith, common_steps) in rw e (new (sym at ∙ off) d)
  | inr ne ↦ let b2 : i < length others = omega arith in let at : get_or (others ++ one ∷ []) i false ≡ get_or others i false = grind (arith, common_steps) in old i d (omega arith) (sym at ∙ off)
]
