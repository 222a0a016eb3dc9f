-- How many rows stand at some tenths.
use Rattle.std.proofs.Common.{◌≡◌, refl, sym, ap, ◌∙◌, subst, ◌⊎◌, inl, inr, suc, ℕ, ◌+◌, ◌<◌, ◌≤◌, Bool, true, false, ◌&&◌, nat_le, nat_lt, List, [], ◌∷◌, ◌++◌, length, take, drop, append-nil, ◌-◌, arith}
use Rattle.std.proofs.lemmas.Bool.{cases_Bool, cases_lt, and_parts, or_parts, leb-true, ltb-true}
use Rattle.reach.specs.Runs.{State}
use Rattle.sig_base.specs.declared.values.Row.{Row}
use Rattle.gap_map.specs.declared.stretch.Stretch.{Stretch}
use Rattle.gap_map.specs.Stretches.{Alternate, BeginsOther, FollowOn, known_at}
use Rattle.gap_map.proofs.Cutting.{nat_cases}
use Rattle.board.specs.History.{Track}
use Rattle.board.specs.Logs.{first_tenth, end_tenth}
use Rattle.board.specs.Moves.{RowsIn, count_before, own, stretch_moves}
use Rattle.board.specs.Places.{since, upto}
use Rattle.board.proofs.Bridge.{cut_rows, known_here, late_end}
use Rattle.gap_ways.specs.declared.states.Fill.{Fill}
use Rattle.channel_ways.specs.Moves.{Filled}
use Rattle.strand_search.specs.Fillings.{AreFillRows}
use Rattle.strand_search.proofs.Agreeing.{filled_letters, filled_split, no_rows, rows_split, fillings_agree}
use Rattle.strand_search.proofs.Filling.{way_rows}
use Rattle.strand_search.specs.Events.{AreFew, NoneKnown, count_within}

-- ---- the rows of two lists
count_join : (a b : ℕ) (xs ys : List Row) → count_within a b (xs ++ ys) ≡ count_within a b xs + count_within a b ys
count_join a b [] ys = omega arith
count_join a b (r ∷ xs) ys = elim (cases_Bool (nat_le a r.at && nat_lt r.at b)) [
  | inl t ↦ rw (t, count_join a b xs ys) (omega arith)
  | inr f ↦ rw (f, count_join a b xs ys) refl
]

count_most : (a b : ℕ) (xs : List Row) → count_within a b xs ≤ length xs
count_most a b [] = omega arith
count_most a b (r ∷ xs) = let q = count_most a b xs in elim (cases_Bool (nat_le a r.at && nat_lt r.at b)) [ inl t ↦ rw t (omega arith) | inr f ↦ rw f (omega arith) ]

-- rows of other tenths don't count
none_low : (a b f t : ℕ) (xs : List Row) → b ≤ f → RowsIn f t xs → count_within a b xs ≡ 0
none_low a b f t [] le h = refl
none_low a b f t (r ∷ xs) le h = let low = h.0 in elim (cases_Bool (nat_le a r.at && nat_lt r.at b)) [
  | inl both ↦ let lt = ltb-true r.at b (and_parts (nat_le a r.at) (nat_lt r.at b) both).1 in absurd (omega arith)
  | inr other ↦ rw other (none_low a b r.at t xs (omega arith) h.2)
]

none_high : (a b f t : ℕ) (xs : List Row) → t ≤ a → RowsIn f t xs → count_within a b xs ≡ 0
none_high a b f t [] le h = refl
none_high a b f t (r ∷ xs) le h = let high = h.1 in elim (cases_Bool (nat_le a r.at && nat_lt r.at b)) [
  | inl both ↦ let at_least = leb-true a r.at (and_parts (nat_le a r.at) (nat_lt r.at b) both).0 in absurd (omega arith)
  | inr other ↦ rw other (none_high a b r.at t xs le h.2)
]

no_room : (a b f t : ℕ) (xs : List Row) → t ≤ f → RowsIn f t xs → count_within a b xs ≡ 0
no_room a b f t [] le h = refl
no_room a b f t (r ∷ xs) le h = let low = h.0 in let high = h.1 in absurd (omega arith)

-- no run of unknown tenths goes over this one
abbrev pub IsApart : (ℕ → Bool) → ℕ → Type 0
IsApart known m = (hour a b : ℕ) → first_tenth hour ≤ a → b ≤ end_tenth hour → NoneKnown known a b → (b ≤ m) ⊎ (m ≤ a)

pub point_apart : (known : ℕ → Bool) (hour : ℕ) → IsApart known (first_tenth hour)
point_apart known hour other a b low high none = elim (cases_lt other hour) [ inl lt ↦ inl (omega arith) | inr ge ↦ inr (omega arith) ]

pub known_apart : (known : ℕ → Bool) (x : ℕ) → known x ≡ true → IsApart known (x + 1)
known_apart known x is hour a b low high none = elim (cases_lt x a) [
  | inl lt ↦ inr (omega arith)
  | inr ge ↦ elim (cases_lt x b) [
    | inl lt ↦ let bad : true ≡ false = sym is ∙ none x ge lt in absurd (cc)
    | inr le ↦ inl (omega arith)
  ]
]

pub few_join : (known : ℕ → Bool) (f m t : ℕ) (xs ys : List Row) → IsApart known m → RowsIn f m xs → RowsIn m t ys → AreFew known xs → AreFew known ys → AreFew known (xs ++ ys)
few_join known f m t xs ys apart hx hy fx fy hour a b low high none =
    let sum = count_join a b xs ys in
    let one = fx hour a b low high none in
    let two = fy hour a b low high none in
    elim (apart hour a b low high none) [
      | inl le ↦ let zero = none_low a b m t ys le hy in omega arith
      | inr le ↦ let zero = none_high a b f m xs le hx in omega arith
    ]

-- ---- fills of gaps
same_length : (k : Track) (fs : List Fill) (rs : List Row) → AreFillRows k fs rs → length fs ≡ length rs
same_length k [] [] a = refl
same_length k [] (r ∷ rs) a = absurd a
same_length k (x ∷ fs) [] a = absurd a
same_length k (x ∷ fs) (r ∷ rs) a = ap suc (same_length k fs rs a.2)

-- the stretches after an unknown one are none, where unknown tenths go over its end
next_none : (m t a b : ℕ) (ss : List Stretch) → FollowOn m t ss → BeginsOther false ss → NoneKnown (known_at ss) a b → a ≤ m → m < b → t ≤ m
next_none m t a b [] h other none le lt = omega arith
next_none m t a b (s ∷ ss) h other none le lt = absurd (other (sym (known_here s ss m t m h (omega arith) h.1) ∙ none m le lt))

later_unknown : (st : Stretch) (ss : List Stretch) (a b : ℕ) → NoneKnown (known_at (st ∷ ss)) a b → NoneKnown (known_at ss) a b
later_unknown st ss a b none y l1 l2 = (or_parts (st.known && (nat_le st.from y && nat_lt y st.to)) (known_at ss y) (none y l1 l2)).1

-- a known stretch has no fills
known_none : (k : Track) (i a b : ℕ) (rs ps : List Row) (st : Stretch) (hs : List Fill) (s v : State) → st.known ≡ true → AreFillRows k hs ps → Filled k.rules (stretch_moves k i rs st) hs s v → count_within a b ps ≡ 0
known_none k i a b rs ps st hs s v held are w =
    let (none, _) = filled_letters k i rs hs s v (rw held at w) in
    let empty : ps ≡ [] = no_rows k ps (subst (λ (z : List Fill). AreFillRows k z ps) none are) in
    rw empty refl

-- those of an unknown one are few, and stand in it
hole_few : (k : Track) (f i : ℕ) (rs ps : List Row) (st : Stretch) (hs : List Fill) (s v : State) → st.known ≡ false → st.from ≡ f → f < st.to → AreFillRows k hs ps → Filled k.rules (stretch_moves k i rs st) hs s v → (length ps ≤ 16) × RowsIn f st.to ps
hole_few k f i rs ps st hs s v hole from lt are w =
    let (gs, ns, p, (z, (few, way), (nil, same))) = rw hole at w in
    let all : hs ≡ gs = p ∙ (ap (λ (y : List Fill). gs ++ y) nil ∙ append-nil gs) in
    let b1 = subst (λ (y : List Fill). AreFillRows k y ps) all are in
    let size = same_length k gs ps b1 in
    (omega arith, subst (λ (y : ℕ). RowsIn y st.to ps) from (way_rows k st.from (st.to - st.from) st.to s z gs ps (omega arith) b1 way))

hole_or_later : (a b f m t : ℕ) (ps qs : List Row) (ss : List Stretch) → length ps ≤ 16 → RowsIn f m ps → RowsIn m t qs → FollowOn m t ss → BeginsOther false ss → NoneKnown (known_at ss) a b → count_within a b qs ≤ 16 → count_within a b ps + count_within a b qs ≤ 16
hole_or_later a b f m t ps qs ss few early late follow other none later =
    let most = count_most a b ps in
    elim (cases_lt m b) [
      | inr le ↦ let zero = none_low a b m t qs le late in omega arith
      | inl past ↦ elim (cases_lt a m) [
        | inr ge ↦ let zero = none_high a b f m ps ge early in omega arith
        | inl over ↦
            let over_end = next_none m t a b ss follow other none (omega arith) past in
            let zero = no_room a b m t qs over_end late in
            omega arith
      ]
    ]

-- a part's fills are few in each run of its unknown tenths
pub part_few : (k : Track) (f t i a b : ℕ) (rows fills : List Row) (ss : List Stretch) (fs : List Fill) (s u : State) → FollowOn f t ss → Alternate ss → RowsIn f t rows → AreFillRows k fs fills → Filled k.rules (own k i rows ss) fs s u → NoneKnown (known_at ss) a b → count_within a b fills ≤ 16
part_few k f t i a b rows fills [] fs s u h alt r are (none, same) unknown =
    let empty : fills ≡ [] = no_rows k fills (subst (λ (z : List Fill). AreFillRows k z fills) none are) in
    rw empty (omega arith)
part_few k f t i a b rows fills (st ∷ ss) fs s u h alt r are w unknown =
    let c = count_before st.to rows in
    let (k1, k2, k3, k4) = cut_rows f st.to t rows (let lt = h.1 in omega arith) (late_end st.to t ss h.2) r in
    let (hs, bs, e, (v, one, two)) = filled_split k.rules (stretch_moves k i (take c rows) st) (own k (i + c) (drop c rows) ss) fs s u w in
    let (ps, qs, q, a1, a2) = rows_split k hs bs fills (subst (λ (z : List Fill). AreFillRows k z fills) e are) in
    let (late, _, _) = fillings_agree k st.to t (i + c) (drop c rows) qs ss bs v u h.2 k2 a2 two in
    let rest = later_unknown st ss a b unknown in
    let later = part_few k st.to t (i + c) a b (drop c rows) qs ss bs v u h.2 alt.1 k2 a2 two rest in
    let both : count_within a b ps + count_within a b qs ≤ 16 = elim (cases_Bool st.known) [
      | inl held ↦ let zero = known_none k i a b (take c rows) ps st hs s v held a1 one in omega arith
      | inr hole ↦
          let (few, early) = hole_few k f i (take c rows) ps st hs s v hole h.0 h.1 a1 one in
          hole_or_later a b f st.to t ps qs ss few early late h.2 (subst (λ (y : Bool). BeginsOther y ss) hole alt.0) rest later
    ] in
    let sum : count_within a b fills ≡ count_within a b ps + count_within a b qs = ap (λ (z : List Row). count_within a b z) q ∙ count_join a b ps qs in
    omega arith

-- ---- stretches of a part
head_other : (known : Bool) (x : ℕ) (ss : List Stretch) → BeginsOther known ss → BeginsOther known (upto x ss)
head_other known x [] h = tt
head_other known x (s ∷ ss) h = elim (nat_cases x s.to) [ inl (test, _) ↦ rw test h | inr (test, _) ↦ rw test h ]

pub upto_alternate : (x : ℕ) (ss : List Stretch) → Alternate ss → Alternate (upto x ss)
upto_alternate x [] h = tt
upto_alternate x (s ∷ ss) h = elim (nat_cases x s.to) [ inl (test, _) ↦ rw test (tt, tt) | inr (test, _) ↦ rw test (head_other s.known x ss h.0, upto_alternate x ss h.1) ]

pub since_alternate : (x : ℕ) (ss : List Stretch) → Alternate ss → Alternate (since x ss)
since_alternate x [] h = tt
since_alternate x (s ∷ ss) h = elim (nat_cases x s.to) [ inl (test, _) ↦ rw test h | inr (test, _) ↦ rw test (since_alternate x ss h.1) ]
