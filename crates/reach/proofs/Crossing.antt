-- A run of holes in one step.
use Rattle.std.proofs.Common.{suc, zero, ◌≡◌, refl, sym, ◌∙◌, subst, ◌⊎◌, inl, inr, ◌↔◌, ℕ, ◌<◌, ◌≤◌, ℤ, pos, negsuc, ◌^◌, ◌+ℤ◌, ◌-ℤ◌, ◌<ℤ◌, ◌≤ℤ◌, int_le, true, false, List, [], ◌∷◌, ◌++◌, length, get_or, arith}
use Rattle.std.specs.Int.{int_max, int_min}
use Rattle.std.proofs.lemmas.Int.{ints, clamps}
use Rattle.std.proofs.lemmas.List.{get_or_default, get_or_past}
use Rattle.std.proofs.lemmas.Bool.{cases_lt}
use Rattle.span_set.proofs.Sets.{int_cases, member_above}
use Rattle.span_set.specs.Changes.{span}
use Rattle.span_set.specs.declared.set.Span.{Span}
use Rattle.span_set.specs.Spans.{Above, Member, Within, AreRanges}
use Rattle.colour_machine.specs.Rules.{Rules, IsMachine, Change}
use Rattle.colour_machine.proofs.Ways.{goes_stays}
use Rattle.reach.specs.Runs.{State, state, OldEnough, Step, Steps, Run, Fills}
use Rattle.reach.specs.Past.{Holds}
use Rattle.reach.specs.Sets.{at}
use Rattle.reach.specs.Arrivals.{IsLowered, ByColours}
use Rattle.reach.specs.Holes.{OnlyIn, FillsIn, AfterHoles, AreHoles, IsFirstIn, IsLeaveIn, StandsAt, EntersFrom, AreEntered, HeldOrEntered, IsNext, Gaps, HolesAreGaps}
use Rattle.reach.proofs.States.{in_sets}
use Rattle.reach.specs.declared.past.Single.{Single}
use Rattle.reach.specs.Single.{sets_of, IsSingle}
use Rattle.reach.proofs.Alone.{holds_single}
use Rattle.reach.proofs.Arriving.{steps_end, run_end, length_end, far}

module _ (m : Rules) (hs : List Span) where
  only_end : (f t : ℤ) (lists : List (List ℕ)) (ls : List ℕ) → (f +ℤ pos (length lists)) ≡ t → OnlyIn hs f lists → (Member hs t ⊎ (ls ≡ [])) → OnlyIn hs f (lists ++ ls ∷ [])
  only_end f t [] ls e o h = let same : t ≡ f = omega (arith, ints) in (subst (λ (x : ℤ). Member hs x ⊎ (ls ≡ [])) same h, tt)
  only_end f t (k ∷ lists) ls e o h = (o.0, only_end (f +ℤ pos 1) t lists ls (omega (arith, ints)) o.1 h)

  pub in_end : (f t : ℤ) (s u w : State) (ls : List ℕ) → FillsIn m hs f t s u → (Member hs t ⊎ (ls ≡ [])) → Steps m t u ls w → FillsIn m hs f (t +ℤ pos 1) s w
  in_end f t s u w ls (lists, e, o, r) h a = (lists ++ ls ∷ [], (let l = length_end lists ls in omega (arith, ints)), only_end f t lists ls e o h, run_end m f t s u w lists ls e r a)

  pub in_start : (f : ℤ) (s : State) → FillsIn m hs f f s s
  in_start f s = ([], omega (arith, ints), tt, refl)

  in_wait : (f t x : ℤ) (n : ℕ) (s u : State) → FillsIn m hs f t s u → x ≡ (t +ℤ pos n) → FillsIn m hs f x s u
  in_wait f t x zero s u g e = let same : t ≡ x = omega (arith, ints) in subst (λ (y : ℤ). FillsIn m hs f y s u) same g
  in_wait f t x (suc n) s u g e = in_wait f (t +ℤ pos 1) x n s u (in_end f t s u u [] g (inr refl) refl) (omega (arith, ints))

  pub in_later : (f t x : ℤ) (s u : State) → t ≤ℤ x → FillsIn m hs f t s u → FillsIn m hs f x s u
  in_later f t x s u h g = let k = far t x h in in_wait f t x k.0 s u g k.1

  pub stand_step : (f y : ℤ) (s u w : State) (l : ℕ) → StandsAt m hs f y s u → Step m y u l w → StandsAt m hs f y s w
  stand_step f y s u w l (v, g, (ls, r)) e = (v, g, (ls ++ l ∷ [], steps_end m y v u w ls l r e))

  pub stand_next : (f y : ℤ) (s u : State) → Member hs y → StandsAt m hs f y s u → FillsIn m hs f (y +ℤ pos 1) s u
  stand_next f y s u h (v, g, (ls, r)) = in_end f y s v u ls g (inl h) r

  pub stand_since : (f y x : ℤ) (s u : State) → Member hs y → y ≤ℤ x → StandsAt m hs f y s u → StandsAt m hs f x s u
  stand_since f y x s u h le w = elim (int_cases y x) [
    | inl a ↦ let lt = a.1 in (u, in_later f (y +ℤ pos 1) x s u (omega (arith, ints)) (stand_next f y s u h w), ([], refl))
    | inr b ↦ let same : y ≡ x = (let c = b.1 in omega (arith, ints)) in subst (λ (z : ℤ). StandsAt m hs f z s u) same w
  ]

  -- from an entry of the old sets, and from an earlier arrival
  pub enter_old : (sets : List (List Span)) (f : ℤ) (s : State) (d : ℕ) (x : ℤ) → Holds sets s → Change m s.colour d → OldEnough m x s → f ≤ℤ x → Member hs x → EntersFrom m sets hs f d x
  enter_old sets f s d x h (l, g, ne) o fx mem = (mem, λ y xy my. (s, h, (s, in_later f f y s s (omega (arith, ints)) (in_start f s), (l ∷ [], (state d y, (g, inr (ne, refl, omega (arith, ints))), refl)))))

  pub enter_more : (sets : List (List Span)) (f : ℤ) (c d : ℕ) (x z : ℤ) → EntersFrom m sets hs f c x → Change m c d → (x +ℤ pos (m.floor c)) ≤ℤ z → Member hs z → EntersFrom m sets hs f d z
  enter_more sets f c d x z (mx, a) (l, g, ne) o mz = (mz, λ y zy my. let (s, h, w) = a x (omega (arith, ints)) mx in (s, h, stand_step f y s (state c x) (state d y) l (stand_since f x y s (state c x) mx (omega (arith, ints)) w) (g, inr (ne, refl, omega (arith, ints)))))

-- all arrivals are known where no change would make one earlier
module _ (m : Rules) (sets : List (List Span)) (hs : List Span) (f t : ℤ) (arrival : ℕ → ℤ)
    (sound : (d : ℕ) → arrival d <ℤ t → EntersFrom m sets hs f d (arrival d))
    (old : (s : State) (d : ℕ) (x : ℤ) → Holds sets s → Change m s.colour d → OldEnough m x s → Member hs x → arrival d ≤ℤ x)
    (later : (c d : ℕ) (x : ℤ) → Change m c d → Member hs x → (arrival c +ℤ pos (m.floor c)) ≤ℤ x → arrival d ≤ℤ x) where
  -- the state is known before tenth x
  Known : ℤ → State → Type 0
  Known x u = Holds sets u ⊎ ((arrival u.colour ≤ℤ u.entry) × Member hs u.entry × (u.entry <ℤ x))

  step_known : (x y : ℤ) (s v : State) (l : ℕ) → y <ℤ x → Member hs y → Known x s → Step m y s l v → Known x v
  unfolding Known
  step_known x y s v l yx my k (g, e) = elim e [
    | inl same ↦ rw same k
    | inr (ne, at, o) ↦ inr (
      elim k [
        | inl h ↦ let i = old s v.colour y h (l, g, ne) o my in omega (arith, ints)
        | inr (a, b, c) ↦ let i = later s.colour v.colour y (l, g, ne) my (omega (arith, ints)) in omega (arith, ints)
      ],
      rw at my,
      omega (arith, ints),
    )
  ]

  steps_known : (x y : ℤ) (ls : List ℕ) (s v : State) → y <ℤ x → (Member hs y ⊎ (ls ≡ [])) → Known x s → Steps m y s ls v → Known x v
  steps_known x y [] s v yx my k e = rw e k
  steps_known x y (l ∷ ls) s v yx my k (w, a, r) = elim my [
    | inl mem ↦ steps_known x y ls w v yx (inl mem) (step_known x y s w l yx mem k a) r
    | inr none ↦ absurd (cc)
  ]

  run_known : (x y : ℤ) (lists : List (List ℕ)) (s v : State) → (y +ℤ pos (length lists)) ≡ x → OnlyIn hs y lists → Known x s → Run m y s lists v → Known x v
  run_known x y [] s v e o k r = rw r k
  run_known x y (ls ∷ rest) s v e o k (w, a, r) = run_known x (y +ℤ pos 1) rest w v (omega (arith, ints)) o.1 (steps_known x y ls s w (omega (arith, ints)) o.0 k a) r

  pub holes_is : (u : State) (x : ℤ) → f ≤ℤ x → x ≤ℤ t → AfterHoles m sets hs f x u ↔ (Holds sets u ⊎ ((arrival u.colour ≤ℤ u.entry) × Member hs u.entry × (u.entry <ℤ x)))
  unfolding Known
  holes_is u x fx xt = (
    λ (s, h, (lists, e, o, r)). run_known x f lists s u e o (inl h) r,
    λ k. elim k [
      | inl h ↦ (u, h, in_later m hs f f x u u fx (in_start m hs f u))
      | inr (a, b, c) ↦ let (s, h, w) = (sound u.colour (omega (arith, ints))).1 u.entry a b in (s, h, in_later m hs f (u.entry +ℤ pos 1) x s u (omega (arith, ints)) (stand_next m hs f u.entry s u b w))
    ],
  )

-- ---- the rounds
module _ (m : Rules) (laws : IsMachine m) (sets : List (List Span)) (hs : List Span) (f t : ℤ) (inside : (y : ℤ) → Member hs y → (f ≤ℤ y) × (y <ℤ t)) (dep leave a b : List ℤ)
    (size : length sets ≡ m.colours)
    (first : (c : ℕ) → c < m.colours → IsFirstIn (get_or sets c []) (m.floor c) hs f t (at dep c))
    (leaves : (c : ℕ) → c < m.colours → IsLeaveIn hs (at dep c) (at a c) (m.floor c) (at leave c))
    (lowered : IsLowered a b (ByColours m m.colours leave))
    (was : AreEntered m sets hs f t a) where
  leave_late : (c : ℕ) → c < m.colours → f ≤ℤ at leave c
  leave_late c lt = elim (leaves c lt).2 [ inl x ↦ let i = (first c lt).1 in omega (arith, ints) | inr x ↦ (inside (at leave c) x.0).0 ]

  by_sound : (d : ℕ) → ByColours m m.colours leave d (at b d) → at b d <ℤ t → EntersFrom m sets hs f d (at b d)
  by_sound d (c, lt, (l, ll, (n, ne, y))) bt =
      let few = laws.few_colours in
      elim (leaves c lt).2 [
        | inl x ↦ let same : at dep c ≡ at b d = sym x ∙ sym y in
            let (mem, (e, h, o)) = (first c lt).3 (rw same bt) in
            let here : Member hs (at b d) = subst (λ (z : ℤ). Member hs z) same mem in
            enter_old m hs sets f (state c e) d (at b d) h (l, n, ne) (omega (arith, ints)) (inside (at b d) here).0 here
        | inr x ↦
            let late = x.1 in
            enter_more m hs sets f c d (at a c) (at b d) (was.2 c (omega arith) (omega (arith, ints))) (l, n, ne) (omega (arith, ints)) (subst (λ (z : ℤ). Member hs z) (sym y) x.0)
      ]

  pub round_entered : AreEntered m sets hs f t b
  round_entered = (
    lowered.0,
    λ d h. let low = lowered.1 d h in let w = was.1 d h in (
      elim low.2 [ inl e ↦ omega (arith, ints) | inr (c, lt, (l, ll, (n, ne, y))) ↦ let i = leave_late c lt in omega (arith, ints) ],
      omega (arith, ints),
      λ out. elim low.2 [ inl e ↦ e ∙ w.2 out | inr (c, lt, (l, ll, (n, ne, y))) ↦ let s = goes_stays m c l d laws n in absurd (omega arith) ],
    ),
    λ d h bt. elim (lowered.1 d h).2 [
      | inl e ↦ subst (λ (x : ℤ). EntersFrom m sets hs f d x) (sym e) (was.2 d h (omega (arith, ints)))
      | inr k ↦ by_sound d k bt
    ],
  )

  -- a round that changes nothing has all arrivals
  module _ (same : b ≡ a) where
    abbrev pub arrival : ℕ → ℤ
    arrival d = get_or a d t

    arrival_in : (d : ℕ) → d < 16 → arrival d ≡ at a d
    arrival_in d h = get_or_default a d t (pos 0) (let l = was.0 in omega arith)

    arrival_out : (d : ℕ) → 16 ≤ d → arrival d ≡ t
    arrival_out d h = get_or_past a d t (let l = was.0 in omega arith)

    no_later : (c d : ℕ) → c < m.colours → Change m c d → arrival d ≤ℤ at leave c
    no_later c d lt (l, g, ne) =
        let few = laws.few_colours in
        let stay = goes_stays m c l d laws g in
        let e = arrival_in d (omega arith) in
        let k = (lowered.1 d (omega arith)).1 (at leave c) (c, lt, (l, g.1, (g, ne, refl))) in
        let k2 : at a d ≤ℤ at leave c = subst (λ (x : List ℤ). at x d ≤ℤ at leave c) same k in
        omega (arith, ints)

    pub fixed_holes : (u : State) (x : ℤ) → f ≤ℤ x → x ≤ℤ t → AfterHoles m sets hs f x u ↔ HeldOrEntered sets hs t a x u
    fixed_holes u x fx xt = holes_is m sets hs f t arrival
        (λ d h. elim (cases_lt d 16) [ inl lt ↦ let e = arrival_in d lt in subst (λ (z : ℤ). EntersFrom m sets hs f d z) (sym e) (was.2 d lt (omega (arith, ints))) | inr ge ↦ let e = arrival_out d ge in absurd (omega (arith, ints)) ])
        (λ s d y h ch o my.
        let lt : s.colour < m.colours = (let i = in_sets sets s.colour s.entry h in omega arith) in
        let i = no_later s.colour d lt ch in let j = (first s.colour lt).0 s.entry y h my o in let k = (leaves s.colour lt).0 in omega (arith, ints))
        (λ c d y ch my late.
        let lt : c < m.colours = ch.1.0 in
        let few = laws.few_colours in
        let e = arrival_in c (omega arith) in
        let i = no_later c d lt ch in let k = (leaves c lt).1 y my (omega (arith, ints)) in omega (arith, ints))
        u x fx xt

-- ---- the holes by number
pub member_at : (hs : List Span) (k : ℕ) (d : Span) (y : ℤ) → k < length hs → Within (get_or hs k d) y → Member hs y
member_at [] k d y lt w = absurd (omega arith)
member_at (h ∷ hs) zero d y lt w = inl w
member_at (h ∷ hs) (suc k) d y lt w = inr (member_at hs k d y (omega arith) w)

pub number_of : (hs : List Span) (d : Span) (y : ℤ) → Member hs y → (k : ℕ) × (k < length hs) × Within (get_or hs k d) y
number_of [] d y h = absurd h
number_of (h ∷ hs) d y (inl w) = (0, omega arith, w)
number_of (h ∷ hs) d y (inr x) = let (k, lt, w) = number_of hs d y x in (suc k, omega arith, w)

pub hole_above : (low : ℤ) (hs : List Span) (k : ℕ) (d : Span) → Above low hs → k < length hs → (low <ℤ (get_or hs k d).from) × ((get_or hs k d).from <ℤ (get_or hs k d).to)
hole_above low [] k d a lt = absurd (omega arith)
hole_above low (h ∷ hs) zero d a lt = (a.0, a.1)
hole_above low (h ∷ hs) (suc k) d a lt = let i = hole_above h.to hs k d a.3 (omega arith) in let x = a.0 in let y = a.1 in let z = i.0 in (omega (arith, ints), i.1)

pub hole_order : (low : ℤ) (hs : List Span) (i j : ℕ) (d : Span) → Above low hs → i ≤ j → j < length hs → ((get_or hs i d).from ≤ℤ (get_or hs j d).from) × ((get_or hs i d).to ≤ℤ (get_or hs j d).to)
hole_order low [] i j d a le lt = absurd (omega arith)
hole_order low (h ∷ hs) zero zero d a le lt = (omega (arith, ints), omega (arith, ints))
hole_order low (h ∷ hs) zero (suc j) d a le lt = let i = hole_above h.to hs j d a.3 (omega arith) in let x = i.0 in let y = i.1 in let z = a.1 in (omega (arith, ints), omega (arith, ints))
hole_order low (h ∷ hs) (suc i) zero d a le lt = absurd (omega arith)
hole_order low (h ∷ hs) (suc i) (suc j) d a le lt = hole_order h.to hs i j d a.3 (omega arith) (omega arith)

-- a test of two tenths, and what it says
pub le_below : (a b n : ℤ) → a ≤ℤ b → int_le b n ≡ true → int_le a n ≡ true
le_below a b n h e = grind (arith, ints)

pub not_ended : (a n : ℤ) → int_le a n ≡ false → n <ℤ a
not_ended a n e = grind (arith, ints)

pub hole_rises : (hs : List Span) (y : ℤ) → AreRanges hs → (i j : ℕ) (d : Span) → i ≤ j → j < length hs → int_le (get_or hs j d).to y ≡ true → int_le (get_or hs i d).to y ≡ true
hole_rises hs y a i j d le lt e = let o = hole_order (negsuc (2 ^ 40)) hs i j d a le lt in le_below (get_or hs i d).to (get_or hs j d).to y o.1 e

-- the hole after those that have ended has the next tenth
pub next_none : (hs : List Span) (y t : ℤ) (n : ℕ) → n ≡ length hs → ((k : ℕ) (d : Span) → k < n → (get_or hs k d).to ≤ℤ y) → IsNext hs t y t
next_none hs y t n all ended = (
  omega (arith, ints),
  λ z mem yz. let (k, lt, w) = number_of hs (span y y) z mem in let e = ended k (span y y) (omega arith) in absurd (let b = w.1 in omega (arith, ints)),
  λ lt. absurd (omega (arith, ints)),
)

pub next_is : (hs : List Span) (f t y x : ℤ) (n : ℕ) (d : Span) → AreHoles f t hs → n < length hs → ((k : ℕ) (d : Span) → k < n → (get_or hs k d).to ≤ℤ y) → y <ℤ (get_or hs n d).to → x ≡ int_max (get_or hs n d).from y → IsNext hs t y x
next_is hs f t y x n d are lt ended next is =
    let some = (hole_above (negsuc (2 ^ 40)) hs n d are.0 lt).1 in
    let mem : Member hs x = member_at hs n d x lt (omega (arith, ints, clamps), omega (arith, ints, clamps)) in (
      (let i = (are.1 x mem).1 in omega (arith, ints)),
      λ z mz yz.
          let (k, l, w) = number_of hs d z mz in
          elim (cases_lt k n) [
            | inl b ↦ absurd (let e = ended k d b in let v = w.1 in omega (arith, ints))
            | inr ge ↦ let o = hole_order (negsuc (2 ^ 40)) hs n k d are.0 ge l in let v = w.0 in let q = o.0 in omega (arith, ints, clamps)
          ],
      λ _. (mem, omega (arith, ints, clamps)),
    )

-- ---- the holes as gaps
module _ (m : Rules) (hs : List Span) where
  in_join : (f x t : ℤ) (s v u : State) (lists : List (List ℕ)) → (f +ℤ pos (length lists)) ≡ x → OnlyIn hs f lists → Run m f s lists v → FillsIn m hs x t v u → FillsIn m hs f t s u
  in_join f x t s v u [] e o r g =
      let same : x ≡ f = omega (arith, ints) in
      subst (λ (w : State). FillsIn m hs f t w u) r (subst (λ (z : ℤ). FillsIn m hs z t v u) same g)
  in_join f x t s v u (ls ∷ rest) e o (w, a, r) g = let (l2, e2, o2, r2) = in_join (f +ℤ pos 1) x t w v u rest (omega (arith, ints)) o.1 r g in (ls ∷ l2, omega (arith, ints), (o.0, o2), (w, a, r2))

  pub join_in : (f x t : ℤ) (s v u : State) → FillsIn m hs f x s v → FillsIn m hs x t v u → FillsIn m hs f t s u
  join_in f x t s v u (lists, e, o, r) g = in_join f x t s v u lists e o r g

  in_split : (f x t : ℤ) (s u : State) (lists : List (List ℕ)) → (f +ℤ pos (length lists)) ≡ t → OnlyIn hs f lists → Run m f s lists u → f ≤ℤ x → x ≤ℤ t → (v : State) × FillsIn m hs f x s v × FillsIn m hs x t v u
  in_split f x t s u [] e o r fx xt =
      let one : f ≡ x = omega (arith, ints) in
      let g : FillsIn m hs f t s u = ([], e, o, r) in
      (s, subst (λ (z : ℤ). FillsIn m hs f z s s) one (in_start m hs f s), subst (λ (z : ℤ). FillsIn m hs z t s u) one g)
  in_split f x t s u (ls ∷ rest) e o (w, a, r) fx xt = elim (int_cases f x) [
    | inl lt ↦ let l = lt.1 in
        let (v, (l1, e1, o1, r1), g) = in_split (f +ℤ pos 1) x t w u rest (omega (arith, ints)) o.1 r (omega (arith, ints)) xt in
        (v, (ls ∷ l1, omega (arith, ints), (o.0, o1), (w, a, r1)), g)
    | inr ge ↦ let l = ge.1 in
        let one : f ≡ x = omega (arith, ints) in
        let g : FillsIn m hs f t s u = (ls ∷ rest, e, o, (w, a, r)) in
        (s, subst (λ (z : ℤ). FillsIn m hs f z s s) one (in_start m hs f s), subst (λ (z : ℤ). FillsIn m hs z t s u) one g)
  ]

  pub split_in : (f x t : ℤ) (s u : State) → FillsIn m hs f t s u → f ≤ℤ x → x ≤ℤ t → (v : State) × FillsIn m hs f x s v × FillsIn m hs x t v u
  split_in f x t s u (lists, e, o, r) fx xt = in_split f x t s u lists e o r fx xt

  free_run : (f : ℤ) (s u : State) (lists : List (List ℕ)) → ((y : ℤ) → f ≤ℤ y → y <ℤ (f +ℤ pos (length lists)) → Member hs y → ⊥) → OnlyIn hs f lists → Run m f s lists u → u ≡ s
  free_run f s u [] none o r = r
  free_run f s u (ls ∷ rest) none o (w, a, r) = elim o.0 [
    | inl mem ↦ absurd (none f (omega (arith, ints)) (omega (arith, ints)) mem)
    | inr e ↦
        let same : w ≡ s = subst (λ (l : List ℕ). Steps m f s l w) e a in
        free_run (f +ℤ pos 1) w u rest (λ y a b mem. none y (omega (arith, ints)) (omega (arith, ints)) mem) o.1 r ∙ same
  ]

  -- where there is no hole the state stays
  pub free_in : (f t : ℤ) (s u : State) → FillsIn m hs f t s u → ((y : ℤ) → f ≤ℤ y → y <ℤ t → Member hs y → ⊥) → u ≡ s
  free_in f t s u (lists, e, o, r) none = free_run f s u lists (λ y a b mem. none y a (omega (arith, ints)) mem) o r

  all_only : (f : ℤ) (lists : List (List ℕ)) → ((y : ℤ) → f ≤ℤ y → y <ℤ (f +ℤ pos (length lists)) → Member hs y) → OnlyIn hs f lists
  all_only f [] all = tt
  all_only f (ls ∷ rest) all = (inl (all f (omega (arith, ints)) (omega (arith, ints))), all_only (f +ℤ pos 1) rest (λ y a b. all y (omega (arith, ints)) (omega (arith, ints))))

  -- within a hole any letters may stand
  pub all_in : (f t : ℤ) (s u : State) → Fills m f t s u → ((y : ℤ) → f ≤ℤ y → y <ℤ t → Member hs y) → FillsIn m hs f t s u
  all_in f t s u (lists, e, r) all = (lists, e, all_only f lists (λ y a b. all y a (omega (arith, ints))), r)

  pub any_in : (f t : ℤ) (s u : State) → FillsIn m hs f t s u → Fills m f t s u
  any_in f t s u (lists, e, o, r) = (lists, e, r)

  pub gaps_of : (gs : List Span) (low x t : ℤ) (s u : State) → Above low gs → x ≤ℤ t → ((y : ℤ) → Member gs y → (x ≤ℤ y) × (y <ℤ t)) → ((y : ℤ) → x ≤ℤ y → y <ℤ t → Member hs y → Member gs y) → FillsIn m hs x t s u → Gaps m gs s u
  gaps_of [] low x t s u a xt inside part g = free_in x t s u g (λ y xy yt mem. part y xy yt mem)
  gaps_of (h ∷ gs) low x t s u a xt inside part g =
      let some = a.1 in
      let i = (inside h.from (inl (omega (arith, ints), some))).0 in
      let j = (inside (h.to -ℤ pos 1) (inl (omega (arith, ints), omega (arith, ints)))).1 in
      let (v, g1, g2) = split_in x h.from t s u g i (omega (arith, ints)) in
      let (w, g3, g4) = split_in h.from h.to t v u g2 (omega (arith, ints)) (omega (arith, ints)) in
      let same : v ≡ s = free_in x h.from s v g1 (λ y xy yh mem. elim (part y xy (omega (arith, ints)) mem) [ inl k ↦ (let z = k.0 in omega (arith, ints)) | inr k ↦ (let z = member_above h.to y gs a.3 k in omega (arith, ints)) ]) in (
        w,
        subst (λ (z : State). Fills m h.from h.to z w) same (any_in h.from h.to v w g3),
        gaps_of gs h.to h.to t w u a.3 (omega (arith, ints)) (λ y k. (let z = member_above h.to y gs a.3 k in omega (arith, ints), (inside y (inr k)).1)) (λ y hy yt mem. elim (part y (omega (arith, ints)) yt mem) [ inl k ↦ absurd (let z = k.1 in omega (arith, ints)) | inr k ↦ k ]) g4,
      )

  pub holes_of : (gs : List Span) (low x t : ℤ) (s u : State) → Above low gs → x ≤ℤ t → ((y : ℤ) → Member gs y → (x ≤ℤ y) × (y <ℤ t)) → ((y : ℤ) → Member gs y → Member hs y) → Gaps m gs s u → FillsIn m hs x t s u
  holes_of [] low x t s u a xt inside part g = rw g (in_later m hs x x t s s xt (in_start m hs x s))
  holes_of (h ∷ gs) low x t s u a xt inside part (v, fills, g) =
      let some = a.1 in
      let i = (inside h.from (inl (omega (arith, ints), some))).0 in
      let j = (inside (h.to -ℤ pos 1) (inl (omega (arith, ints), omega (arith, ints)))).1 in
      let one = in_later m hs x x h.from s s i (in_start m hs x s) in
      let two = all_in h.from h.to s v fills (λ y b c. part y (inl (b, c))) in
      let three = holes_of gs h.to h.to t v u a.3 (omega (arith, ints)) (λ y k. (let z = member_above h.to y gs a.3 k in omega (arith, ints), (inside y (inr k)).1)) (λ y k. part y (inr k)) g in
      join_in x h.from t s s u one (join_in h.from h.to t s v u two three)

pub holes_gaps : HolesAreGaps
holes_gaps m sets hs f t are ft u = (
  λ (s, h, g). (s, h, gaps_of m hs hs (negsuc (2 ^ 40)) f t s u are.0 ft are.1 (λ y fy yt mem. mem) g),
  λ (s, h, g). (s, h, holes_of m hs hs (negsuc (2 ^ 40)) f t s u are.0 ft are.1 (λ y mem. mem) g),
)

-- the first entry of a set, a floor later
pub first_is : (set : List Span) (hs : List Span) (least f t x : ℤ) (floor : ℕ) → f ≤ℤ t → AreHoles f t hs → Member set least → ((e : ℤ) → Member set e → least ≤ℤ e) → IsNext hs t (least +ℤ pos floor) x → IsFirstIn set floor hs f t x
first_is set hs least f t x floor ft are mem low next = (
  λ e y me my o. let l = low e me in next.1 y my (omega (arith, ints)),
  elim (int_cases x t) [ inl lt ↦ (are.1 x (next.2 lt.1).0).0 | inr ge ↦ (let g = ge.1 in omega (arith, ints)) ],
  next.0,
  λ lt. let n = next.2 lt in (n.0, (least, mem, n.1)),
)

-- no entry is old enough in the holes
pub first_none : (set : List Span) (hs : List Span) (f t : ℤ) (floor : ℕ) → f ≤ℤ t → AreHoles f t hs → ((e : ℤ) → Member set e → t ≤ℤ e) → IsFirstIn set floor hs f t t
first_none set hs f t floor ft are late = (
  λ e y me my o. let l = late e me in absurd (let i = (are.1 y my).1 in omega (arith, ints)),
  ft,
  omega (arith, ints),
  λ lt. absurd (omega (arith, ints)),
)

pub leave_is : (hs : List Span) (f t dep arrival x y : ℤ) (floor : ℕ) → AreHoles f t hs → dep ≤ℤ t → IsNext hs t (arrival +ℤ pos floor) y → x ≡ int_min dep y → IsLeaveIn hs dep arrival floor x
leave_is hs f t dep arrival x y floor are end next is = (
  omega (arith, ints, clamps),
  λ z mz late. let i = next.1 z mz late in omega (arith, ints, clamps),
  elim (int_cases y dep) [
    | inl lt ↦
        let l = lt.1 in
        let n = next.2 (omega (arith, ints)) in
        let same : x ≡ y = omega (arith, ints, clamps) in
        inr (subst (λ (w : ℤ). Member hs w) (sym same) n.0, (let z = n.1 in omega (arith, ints)))
    | inr ge ↦ let l = ge.1 in inl (omega (arith, ints, clamps))
  ],
)

-- the least entry of one state's set
pub least_one : (o : Single) (k : ℕ) → IsSingle o → k ≡ o.colour → Member (get_or (sets_of o) k []) o.entry × ((e : ℤ) → Member (get_or (sets_of o) k []) e → o.entry ≤ℤ e)
least_one o k is same = (
  (holds_single o is (state k o.entry)).1 (same, refl),
  λ e h. let s = ((holds_single o is (state k e)).0 h).1 in omega (arith, ints),
)
