-- A gap in one step: earliest arrivals.
use Rattle.std.proofs.Common.{◌≡◌, refl, sym, ◌∙◌, subst, ◌⊎◌, inl, inr, ◌↔◌, ℕ, zero, suc, ◌+◌, ◌<◌, ◌≤◌, ℤ, pos, negsuc, ◌+ℤ◌, ◌-ℤ◌, ◌<ℤ◌, ◌≤ℤ◌, List, [], ◌∷◌, ◌++◌, length, get_or, replicate, fold, arith}
use Rattle.std.specs.Int.{int_min}
use Rattle.std.proofs.lemmas.Int.{ints, fold-int_min_bounds}
use Rattle.std.proofs.lemmas.List.Elements.{All-get_or}
use Rattle.span_set.proofs.Sets.{int_cases}
use Rattle.span_set.specs.declared.set.Span.{Span}
use Rattle.colour_machine.specs.Rules.{Rules, IsMachine, Change}
use Rattle.colour_machine.proofs.Ways.{goes_stays}
use Rattle.reach.specs.Runs.{State, state, OldEnough, Step, Steps, Run, Fills}
use Rattle.reach.specs.Past.{Holds, AfterGap}
use Rattle.reach.specs.Sets.{at, AreAdded}
use Rattle.reach.specs.Arrivals.{StandsIn, ArrivesFrom, AreArrivals, IsArrival, AreDepartures, IsLeave, IsLowered, ByColours}
use Rattle.reach.proofs.States.{in_sets}
use Rattle.std.proofs.lemmas.List.{get_or_default, get_or_past, get_or-replicate}
use Rattle.std.proofs.lemmas.Bool.{cases_lt}
use Rattle.reach.proofs.States.{fills_none}

pub steps_end : (m : Rules) (t : ℤ) (s u w : State) (ls : List ℕ) (l : ℕ) → Steps m t s ls u → Step m t u l w → Steps m t s (ls ++ l ∷ []) w
steps_end m t s u w [] l r e = (w, subst (λ (x : State). Step m t x l w) r e, refl)
steps_end m t s u w (k ∷ ls) l (v, a, r) e = (v, a, steps_end m t v u w ls l r e)

pub run_end : (m : Rules) (f t : ℤ) (s u w : State) (lists : List (List ℕ)) (ls : List ℕ) → (f +ℤ pos (length lists)) ≡ t → Run m f s lists u → Steps m t u ls w → Run m f s (lists ++ ls ∷ []) w
run_end m f t s u w [] ls e r a = let same : t ≡ f = omega (arith, ints) in (w, subst (λ (x : State). Steps m f x ls w) r (subst (λ (x : ℤ). Steps m x u ls w) same a), refl)
run_end m f t s u w (k ∷ lists) ls e (v, b, r) a = (v, b, run_end m (f +ℤ pos 1) t v u w lists ls (omega (arith, ints)) r a)

pub length_end : (lists : List (List ℕ)) (ls : List ℕ) → length (lists ++ ls ∷ []) ≡ length lists + 1
length_end [] ls = omega arith
length_end (k ∷ lists) ls = let i = length_end lists ls in omega arith

pub fills_end : (m : Rules) (f t : ℤ) (s u w : State) (ls : List ℕ) → Fills m f t s u → Steps m t u ls w → Fills m f (t +ℤ pos 1) s w
fills_end m f t s u w ls (lists, e, r) a = (lists ++ ls ∷ [], (let l = length_end lists ls in omega (arith, ints)), run_end m f t s u w lists ls e r a)

pub within_start : (m : Rules) (f : ℤ) (s : State) → StandsIn m f f s s
within_start m f s = (s, (fills_none m f s s).1 refl, ([], refl))

pub within_step : (m : Rules) (f t : ℤ) (s u w : State) (l : ℕ) → StandsIn m f t s u → Step m t u l w → StandsIn m f t s w
within_step m f t s u w l (v, g, (ls, r)) e = (v, g, (ls ++ l ∷ [], steps_end m t v u w ls l r e))

pub within_next : (m : Rules) (f t : ℤ) (s u : State) → StandsIn m f t s u → Fills m f (t +ℤ pos 1) s u
within_next m f t s u (v, g, (ls, r)) = fills_end m f t s v u ls g r

fills_wait : (m : Rules) (f t x : ℤ) (n : ℕ) (s u : State) → Fills m f t s u → x ≡ (t +ℤ pos n) → Fills m f x s u
fills_wait m f t x zero s u g e = let same : t ≡ x = omega (arith, ints) in subst (λ (y : ℤ). Fills m f y s u) same g
fills_wait m f t x (suc n) s u g e = fills_wait m f (t +ℤ pos 1) x n s u (fills_end m f t s u u [] g refl) (omega (arith, ints))

-- how far y is after x
far_by : (x y d : ℤ) → d ≡ (y -ℤ x) → x ≤ℤ y → (n : ℕ) × (y ≡ (x +ℤ pos n))
far_by x y (pos n) e h = (n, omega (arith, ints))
far_by x y (negsuc n) e h = absurd (omega (arith, ints))

pub far : (x y : ℤ) → x ≤ℤ y → (n : ℕ) × (y ≡ (x +ℤ pos n))
far x y h = far_by x y (y -ℤ x) refl h

pub fills_later : (m : Rules) (f t x : ℤ) (s u : State) → t ≤ℤ x → Fills m f t s u → Fills m f x s u
fills_later m f t x s u h g = let k = far t x h in fills_wait m f t x k.0 s u g k.1

pub within_later : (m : Rules) (f t x : ℤ) (s u : State) → t <ℤ x → StandsIn m f t s u → StandsIn m f x s u
within_later m f t x s u h w = (u, fills_later m f (t +ℤ pos 1) x s u (omega (arith, ints)) (within_next m f t s u w), ([], refl))

pub within_since : (m : Rules) (f t x : ℤ) (s u : State) → t ≤ℤ x → StandsIn m f t s u → StandsIn m f x s u
within_since m f t x s u h w = elim (int_cases t x) [ inl a ↦ within_later m f t x s u a.1 w | inr b ↦ let same : t ≡ x = (let c = b.1 in omega (arith, ints)) in subst (λ (y : ℤ). StandsIn m f y s u) same w ]

-- from an entry of the old sets, and from an earlier arrival
pub from_old : (m : Rules) (sets : List (List Span)) (f t : ℤ) (s : State) (d : ℕ) (x : ℤ) → Holds sets s → Change m s.colour d → OldEnough m x s → f ≤ℤ x → ArrivesFrom m sets f t d x
from_old m sets f t s d x h (l, g, ne) o fx = (fx, λ y xy yt. (s, h, within_step m f y s s (state d y) l (within_since m f f y s s (omega (arith, ints)) (within_start m f s)) (g, inr (ne, refl, (omega (arith, ints))))))

pub from_arrival : (m : Rules) (sets : List (List Span)) (f t : ℤ) (c d : ℕ) (x z : ℤ) → ArrivesFrom m sets f t c x → Change m c d → (x +ℤ pos (m.floor c)) ≡ z → ArrivesFrom m sets f t d z
from_arrival m sets f t c d x z (fx, a) (l, g, ne) o = (omega (arith, ints), λ y xy yt. let (s, h, w) = a x (omega (arith, ints)) (omega (arith, ints)) in (s, h, within_step m f y s (state c x) (state d y) l (within_since m f x y s (state c x) (omega (arith, ints)) w) (g, inr (ne, refl, (omega (arith, ints))))))

-- all arrivals are known where no change would make one earlier
module _ (m : Rules) (sets : List (List Span)) (f t : ℤ) (arrival : ℕ → ℤ)
    (sound : (d : ℕ) → arrival d <ℤ t → ArrivesFrom m sets f t d (arrival d))
    (old : (s : State) (d : ℕ) (x : ℤ) → Holds sets s → Change m s.colour d → OldEnough m x s → f ≤ℤ x → x <ℤ t → arrival d ≤ℤ x)
    (later : (c d : ℕ) → Change m c d → arrival c <ℤ t → arrival d ≤ℤ (arrival c +ℤ pos (m.floor c))) where
  Known : State → Type 0
  Known u = Holds sets u ⊎ ((arrival u.colour ≤ℤ u.entry) × (u.entry <ℤ t))

  step_known : (x : ℤ) (s v : State) (l : ℕ) → f ≤ℤ x → x <ℤ t → Known s → Step m x s l v → Known v
  unfolding Known
  step_known x s v l fx xt k (g, e) = elim e [
    | inl same ↦ rw same k
    | inr (ne, at, o) ↦ inr (
      elim k [
        | inl h ↦ let i = old s v.colour x h (l, g, ne) o fx xt in omega (arith, ints)
        | inr (a, b) ↦ let i = later s.colour v.colour (l, g, ne) (omega (arith, ints)) in omega (arith, ints)
      ],
      omega (arith, ints),
    )
  ]

  steps_known : (x : ℤ) (ls : List ℕ) (s v : State) → f ≤ℤ x → x <ℤ t → Known s → Steps m x s ls v → Known v
  steps_known x [] s v fx xt k e = rw e k
  steps_known x (l ∷ ls) s v fx xt k (w, a, r) = steps_known x ls w v fx xt (step_known x s w l fx xt k a) r

  run_known : (x : ℤ) (lists : List (List ℕ)) (s v : State) → f ≤ℤ x → (x +ℤ pos (length lists)) ≡ t → Known s → Run m x s lists v → Known v
  run_known x [] s v fx e k r = rw r k
  run_known x (ls ∷ rest) s v fx e k (w, a, r) = run_known (x +ℤ pos 1) rest w v (omega (arith, ints)) (omega (arith, ints)) (steps_known x ls s w fx (omega (arith, ints)) k a) r

  pub gap_is : (u : State) → f <ℤ t → AfterGap m sets f t u ↔ (Holds sets u ⊎ ((arrival u.colour ≤ℤ u.entry) × (u.entry <ℤ t)))
  unfolding Known
  gap_is u ft = (
    λ (s, h, (lists, e, r)). run_known f lists s u (omega (arith, ints)) e (inl h) r,
    λ k. elim k [
      | inl h ↦ (u, h, fills_later m f f t u u (omega (arith, ints)) ((fills_none m f u u).1 refl))
      | inr (a, b) ↦ let (s, h, w) = (sound u.colour (omega (arith, ints))).1 u.entry a b in (s, h, fills_later m f (u.entry +ℤ pos 1) t s u (omega (arith, ints)) (within_next m f u.entry s u w))
    ],
  )

-- ---- the rounds
-- the least of the departures and the end
abbrev pub least : ℤ → List ℤ → ℤ
least t dep = fold int_min t dep

pub least_end : (t : ℤ) (dep : List ℤ) → least t dep ≤ℤ t
least_end t dep = (fold-int_min_bounds t dep (least t dep) refl).0

pub least_at : (t : ℤ) (dep : List ℤ) (c : ℕ) → c < length dep → least t dep ≤ℤ at dep c
least_at t dep c lt = All-get_or (λ x. least t dep ≤ℤ x) dep c (pos 0) lt (fold-int_min_bounds t dep (least t dep) refl).1

-- before the rounds no colour arrives before the end
pub none_late : (t : ℤ) (dep : List ℤ) (d : ℕ) → d < 16 → least t dep ≤ℤ at (replicate 16 t) d
none_late t dep d lt = rw (get_or-replicate 16 d t (pos 0) lt) (least_end t dep)

pub none_by_end : (t : ℤ) (d : ℕ) → d < 16 → at (replicate 16 t) d ≤ℤ t
none_by_end t d lt = rw (get_or-replicate 16 d t (pos 0) lt) (omega (arith, ints))

pub none_arrive : (m : Rules) (sets : List (List Span)) (f t : ℤ) → f <ℤ t → AreArrivals m sets f t (replicate 16 t)
none_arrive m sets f t ft = (
  refl,
  λ d lt. rw (get_or-replicate 16 d t (pos 0) lt) (omega (arith, ints), omega (arith, ints), λ out. refl),
  λ d lt b. let e = none_by_end t d lt in let i = get_or-replicate 16 d t (pos 0) lt in absurd (omega (arith, ints)),
)

-- none of a round's arrivals is before a tenth that no departure and no arrival of before was before
module _ (m : Rules) (laws : IsMachine m) (x : ℤ) (dep leave a b : List ℤ)
    (late : (c : ℕ) → c < m.colours → x ≤ℤ at dep c)
    (leaves : (c : ℕ) → c < m.colours → IsLeave (at dep c) (at a c) (m.floor c) (at leave c))
    (lowered : IsLowered a b (ByColours m m.colours leave))
    (was : (d : ℕ) → d < 16 → x ≤ℤ at a d) where
  leave_late : (c : ℕ) → c < m.colours → x ≤ℤ at leave c
  leave_late c lt =
      let few = laws.few_colours in
      let i = late c lt in let j = was c (omega arith) in
      elim (leaves c lt).2 [ inl e ↦ omega (arith, ints) | inr e ↦ omega (arith, ints) ]

  pub round_late : (d : ℕ) → d < 16 → x ≤ℤ at b d
  round_late d h = elim (lowered.1 d h).2 [ inl e ↦ let i = was d h in omega (arith, ints) | inr (c, lt, (l, ll, (n, ne, y))) ↦ let i = leave_late c lt in omega (arith, ints) ]

module _ (m : Rules) (laws : IsMachine m) (sets : List (List Span)) (f t : ℤ) (ft : f <ℤ t) (dep leave a b : List ℤ)
    (size : length sets ≡ m.colours)
    (first : AreDepartures m sets f t dep)
    (leaves : (c : ℕ) → c < m.colours → IsLeave (at dep c) (at a c) (m.floor c) (at leave c))
    (lowered : IsLowered a b (ByColours m m.colours leave))
    (was : AreArrivals m sets f t a) where
  by_sound : (d : ℕ) → ByColours m m.colours leave d (at b d) → at b d <ℤ t → ArrivesFrom m sets f t d (at b d)
  by_sound d (c, lt, (l, ll, (n, ne, y))) bt =
      let few = laws.few_colours in
      elim (leaves c lt).2 [
        | inl x ↦ let same : at dep c ≡ at b d = sym x ∙ sym y in
            let (e, h, o) = (first c lt).3 (rw same bt) in
            let late : f ≤ℤ at b d = (let i = (first c lt).1 in omega (arith, ints)) in
            from_old m sets f t (state c e) d (at b d) h (l, n, ne) (omega (arith, ints)) late
        | inr x ↦ from_arrival m sets f t c d (at a c) (at b d) (was.2 c (omega arith) (omega (arith, ints))) (l, n, ne) (sym x ∙ sym y)
      ]

  pub round_arrivals : AreArrivals m sets f t b
  round_arrivals = (
    lowered.0,
    λ d h. let low = lowered.1 d h in let w = was.1 d h in (
      round_late m laws f dep leave a b (λ c lt. (first c lt).1) leaves lowered (λ c lt. (was.1 c lt).0) d h,
      omega (arith, ints),
      λ out. elim low.2 [ inl e ↦ e ∙ w.2 out | inr (c, lt, (l, ll, (n, ne, y))) ↦ let s = goes_stays m c l d laws n in absurd (omega arith) ],
    ),
    λ d h bt. elim (lowered.1 d h).2 [
      | inl e ↦ subst (λ (x : ℤ). ArrivesFrom m sets f t d x) (sym e) (was.2 d h (omega (arith, ints)))
      | inr k ↦ by_sound d k bt
    ],
  )

  -- a round that changes nothing has all arrivals
  module _ (same : b ≡ a) where
    abbrev pub arrival : ℕ → ℤ
    arrival d = get_or a d t

    arrival_in : (d : ℕ) → d < 16 → arrival d ≡ at a d
    arrival_in d h = get_or_default a d t (pos 0) (let l = was.0 in omega arith)

    arrival_out : (d : ℕ) → 16 ≤ d → arrival d ≡ t
    arrival_out d h = get_or_past a d t (let l = was.0 in omega arith)

    no_later : (c d : ℕ) → c < m.colours → Change m c d → arrival d ≤ℤ at leave c
    no_later c d lt (l, g, ne) =
        let few = laws.few_colours in
        let stay = goes_stays m c l d laws g in
        let e = arrival_in d (omega arith) in
        let k = (lowered.1 d (omega arith)).1 (at leave c) (c, lt, (l, g.1, (g, ne, refl))) in
        let k2 : at a d ≤ℤ at leave c = subst (λ (x : List ℤ). at x d ≤ℤ at leave c) same k in
        omega (arith, ints)

    pub fixed_gap : (u : State) → AfterGap m sets f t u ↔ (Holds sets u ⊎ ((arrival u.colour ≤ℤ u.entry) × (u.entry <ℤ t)))
    fixed_gap u = gap_is m sets f t arrival
        (λ d h. elim (cases_lt d 16) [ inl lt ↦ let e = arrival_in d lt in subst (λ (x : ℤ). ArrivesFrom m sets f t d x) (sym e) (was.2 d lt (omega (arith, ints))) | inr ge ↦ let e = arrival_out d ge in absurd (omega (arith, ints)) ])
        (λ s d x h ch o fx xt.
        let lt : s.colour < m.colours = (let i = in_sets sets s.colour s.entry h in omega arith) in
        let i = no_later s.colour d lt ch in let j = (first s.colour lt).0 s.entry x h fx o xt in let k = (leaves s.colour lt).0 in omega (arith, ints))
        (λ c d ch at_c. elim (cases_lt c m.colours) [
          | inl lt ↦ let few = laws.few_colours in let i = no_later c d lt ch in let k = (leaves c lt).1 in let e = arrival_in c (omega arith) in omega (arith, ints)
          | inr ge ↦ elim (cases_lt c 16) [ inl lt ↦ let e = arrival_in c lt in let w = (was.1 c lt).2 ge in absurd (omega (arith, ints)) | inr out ↦ let e = arrival_out c out in absurd (omega (arith, ints)) ]
        ])
        u ft

-- the rounds end: a list of tenths that gets less from a bound gets nearer to it
abbrev pub dist : ℤ → ℕ
dist (pos n) = n
dist (negsuc n) = 0

pub dist_is : (d : ℤ) → pos 0 ≤ℤ d → pos (dist d) ≡ d
dist_is (pos n) h = refl
dist_is (negsuc n) h = absurd (omega (arith, ints))

abbrev pub total : ℤ → List ℤ → ℕ
total f [] = 0
total f (x ∷ xs) = dist (x -ℤ f) + total f xs

module _ (f : ℤ) where
  head_less : (x y : ℤ) → f ≤ℤ y → y ≤ℤ x → dist (y -ℤ f) ≤ dist (x -ℤ f)
  head_less x y a b = let i = dist_is (y -ℤ f) (omega (arith, ints)) in let j = dist_is (x -ℤ f) (omega (arith, ints)) in omega (arith, ints)

  head_same : (x y : ℤ) → f ≤ℤ y → y ≤ℤ x → dist (x -ℤ f) ≤ dist (y -ℤ f) → y ≡ x
  head_same x y a b c = let i = dist_is (y -ℤ f) (omega (arith, ints)) in let j = dist_is (x -ℤ f) (omega (arith, ints)) in omega (arith, ints)

  total_less : (a b : List ℤ) → length b ≡ length a → ((d : ℕ) → d < length a → (f ≤ℤ at b d) × (at b d ≤ℤ at a d)) → total f b ≤ total f a
  total_less [] [] l h = omega arith
  total_less [] (y ∷ ys) l h = absurd (omega arith)
  total_less (x ∷ xs) [] l h = absurd (omega arith)
  total_less (x ∷ xs) (y ∷ ys) l h = let z = h 0 (omega arith) in let i = head_less x y z.0 z.1 in let j = total_less xs ys (omega arith) (λ d lt. h (suc d) (omega arith)) in omega arith

  total_same : (a b : List ℤ) → length b ≡ length a → ((d : ℕ) → d < length a → (f ≤ℤ at b d) × (at b d ≤ℤ at a d)) → total f a ≤ total f b → b ≡ a
  total_same [] [] l h e = refl
  total_same [] (y ∷ ys) l h e = absurd (omega arith)
  total_same (x ∷ xs) [] l h e = absurd (omega arith)
  total_same (x ∷ xs) (y ∷ ys) l h e =
      let z = h 0 (omega arith) in let i = head_less x y z.0 z.1 in
      let k : (d : ℕ) → d < length xs → (f ≤ℤ at ys d) × (at ys d ≤ℤ at xs d) = λ d lt. h (suc d) (omega arith) in
      let j = total_less xs ys (omega arith) k in
      let hd : y ≡ x = head_same x y z.0 z.1 (omega arith) in
      let tl : ys ≡ xs = total_same xs ys (omega arith) k (omega arith) in
      cc

  pub total_falls : (a b : List ℤ) → length b ≡ length a → ((d : ℕ) → d < length a → (f ≤ℤ at b d) × (at b d ≤ℤ at a d)) → (b ≡ a → ⊥) → total f b < total f a
  total_falls a b l h ne = elim (cases_lt (total f b) (total f a)) [ inl x ↦ x | inr x ↦ absurd (ne (total_same a b l h x)) ]

none_out : (m : Rules) (sets : List (List Span)) (f t : ℤ) (a : List ℤ) → AreArrivals m sets f t a → (d : ℕ) → m.colours ≤ d → get_or a d t ≡ t
none_out m sets f t a arr d ge = elim (cases_lt d 16) [
  | inl lt ↦ get_or_default a d t (pos 0) (let l = arr.0 in omega arith) ∙ (arr.1 d lt).2 ge
  | inr out ↦ get_or_past a d t (let l = arr.0 in omega arith)
]

-- the sets with the tenths from the arrivals on hold the states after the gap
pub gap_added : (m : Rules) (sets new : List (List Span)) (f t : ℤ) (a : List ℤ) → IsMachine m → length sets ≡ m.colours → IsArrival m sets f t a → AreAdded sets a t new (length sets) → (u : State) → Holds new u ↔ AfterGap m sets f t u
gap_added m sets new f t a laws size arr r u =
    let few = laws.few_colours in
    let len = r.0 in
    let g = arr.1 u in
    elim (cases_lt u.colour (length sets)) [
      | inl lt ↦
          let e : get_or a u.colour t ≡ at a u.colour = get_or_default a u.colour t (pos 0) (let l = arr.0.0 in omega arith) in
          let k = r.1 u.colour lt u.entry in (
            λ h. g.1 (elim (k.0 h) [ inl x ↦ inl x | inr x ↦ inr (rw e x) ]),
            λ h. k.1 (elim (g.0 h) [ inl x ↦ inl x | inr x ↦ inr (rw (← e) x) ]),
          )
      | inr ge ↦ (
        λ h. let i = in_sets new u.colour u.entry h in absurd (omega arith),
        λ h. elim (g.0 h) [
          | inl x ↦ let i = in_sets sets u.colour u.entry x in absurd (omega arith)
          | inr x ↦ let e : get_or a u.colour t ≡ t = none_out m sets f t a arr.0 u.colour (omega arith) in absurd (let y = x.0 in let z = x.1 in omega (arith, ints))
        ],
      )
    ]
