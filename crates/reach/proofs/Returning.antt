-- A run of holes backward, in one step.
use Rattle.std.proofs.Common.{◌≡◌, refl, sym, ◌∙◌, subst, ◌⊎◌, inl, inr, ◌↔◌, ℕ, ◌+◌, ◌-◌, ◌<◌, ◌≤◌, ℤ, pos, negsuc, ◌^◌, ◌+ℤ◌, ◌-ℤ◌, ◌<ℤ◌, ◌≤ℤ◌, int_le, true, List, [], ◌∷◌, length, take, get_or, arith, Option, Some, None}
use Rattle.std.specs.Int.{int_min}
use Rattle.std.proofs.lemmas.Int.{ints, clamps}
use Rattle.std.proofs.lemmas.Bool.{cases_eq, cases_lt}
use Rattle.span_set.proofs.Sets.{int_cases}
use Rattle.span_set.specs.declared.set.Span.{Span}
use Rattle.span_set.specs.Changes.{span}
use Rattle.span_set.specs.Spans.{Member, AreRanges}
use Rattle.colour_machine.specs.Rules.{Rules}
use Rattle.reach.specs.Runs.{State, state, Step, Steps, Run}
use Rattle.reach.specs.Ahead.{NotLater, Admits, BeforeGap}
use Rattle.reach.specs.Latest.{entry_of, IsTable}
use Rattle.reach.specs.Holes.{AreFrom, AreHoles, OnlyIn}
use Rattle.reach.specs.Last.{BeforeHoles, InHoles, IsPrev, LeftIn, LeftInBelow, IsLaterIn, IsRoundIn, Continues, AreLasts, StaysOrLeaves, AreLast, PlacesAreGaps, AreEntriesAt}
use Rattle.std.specs.Option.{IfSome}
use Rattle.reach.proofs.Entering.{IsLater, ranks, ranks_fall}
use Rattle.reach.proofs.Later.{take_admits}
use Rattle.reach.proofs.Crossing.{gaps_of, holes_of, in_start, in_later, join_in, hole_order, hole_above, number_of, member_at, le_below}

module _ (m : Rules) (latest : List (Option ℤ)) (hs : List Span) (t : ℤ) where
  pub before_wait : (x y : ℤ) (s : State) → x ≤ℤ y → BeforeHoles m latest hs y t s → BeforeHoles m latest hs x t s
  before_wait x y s h (u, g, a) = (u, join_in m hs x y t s s u (in_later m hs x x y s s h (in_start m hs x s)) g, a)

  continues_before : (y : ℤ) (s : State) → Member hs y → Continues m latest hs y t s → BeforeHoles m latest hs y t s
  continues_before y s h (v, (ls, r), (u, (lists, e, o, q), a)) = (u, (ls ∷ lists, omega (arith, ints), (inl h, o), (v, r, q)), a)

  continues_since : (y z : ℤ) (s : State) → y ≤ℤ z → Member hs z → Continues m latest hs z t s → Continues m latest hs y t s
  continues_since y z s le h c = elim (int_cases y z) [
    | inl lt ↦ let l = lt.1 in (s, ([], refl), before_wait (y +ℤ pos 1) z s (omega (arith, ints)) (continues_before z s h c))
    | inr ge ↦ let same : z ≡ y = (let l = ge.1 in omega (arith, ints)) in subst (λ (w : ℤ). Continues m latest hs w t s) same c
  ]

  continues_step : (y : ℤ) (s u : State) (l : ℕ) → Step m y s l u → Continues m latest hs y t u → Continues m latest hs y t s
  continues_step y s u l e (v, (ls, r), b) = (v, (l ∷ ls, (u, e, r)), b)

  -- the last hole, where there is one that is not before y
  some_last : (o : Option ℤ) (y : ℤ) → InHoles hs o → NotLater o y → (z : ℤ) × Member hs z × NotLater o z × (y ≤ℤ z)
  some_last None y h n = absurd n
  some_last (Some z) y h n = (z, h, omega (arith, ints), n)

  earlier : (o : Option ℤ) (y z : ℤ) → y ≤ℤ z → NotLater o z → NotLater o y
  earlier None y z h n = absurd n
  earlier (Some x) y z h n = omega (arith, ints)

  -- a state that is left at its colour's last hole
  leaves_last : (a : List (Option ℤ)) (x : ℤ) (s : State) → AreLasts m latest hs t a → NotLater (entry_of a s.colour) x → NotLater (entry_of a s.colour) (s.entry +ℤ pos (m.floor s.colour)) → (z : ℤ) × Member hs z × (x ≤ℤ z) × Continues m latest hs z t s
  leaves_last a x s (size, out, holes, sound) n late =
      let (z, h, q, xz) = some_last (entry_of a s.colour) x (holes s.colour) n in
      let (z2, h2, q2, old) = some_last (entry_of a s.colour) (s.entry +ℤ pos (m.floor s.colour)) (holes s.colour) late in
      elim (int_cases z z2) [
        | inl lt ↦ let l = lt.1 in let (d, (k, g, ne), c) = sound s.colour z2 h2 q2 in (z2, h2, omega (arith, ints), continues_step z2 s (state d z2) k (g, inr (ne, refl, old)) c)
        | inr ge ↦ let l = ge.1 in let (d, (k, g, ne), c) = sound s.colour z h q in (z, h, xz, continues_step z s (state d z) k (g, inr (ne, refl, omega (arith, ints))) c)
      ]

  -- a state that may stay
  stays_on : (y : ℤ) (s : State) → y ≤ℤ t → Admits latest s → BeforeHoles m latest hs y t s
  stays_on y s yt a = (s, in_later m hs y y t s s yt (in_start m hs y s), a)

  pub round_sound : (f : ℤ) (a b : List (Option ℤ)) → AreHoles f t hs → IsRoundIn m latest hs a b → AreLasts m latest hs t a → AreLasts m latest hs t b
  round_sound f a b are r w = (
    r.0,
    r.2,
    λ c. elim (cases_lt c m.colours) [ inl lt ↦ (r.1 c lt).0 | inr ge ↦ subst (λ (o : Option ℤ). InHoles hs o) (sym (r.2 c ge)) tt ],
    λ c y my n. elim (cases_lt c m.colours) [
      | inr ge ↦ absurd (subst (λ (o : Option ℤ). NotLater o y) (r.2 c ge) n)
      | inl lt ↦ elim (((r.1 c lt).1 y my).0 n) [
        | inl old ↦ w.3 c y my old
        | inr (l, ll, (d, g, ne, k)) ↦ (
          d,
          (l, g, ne),
          (let yt = (are.1 y my).1 in
              elim k [
                | inl stay ↦ (state d y, ([], refl), stays_on (y +ℤ pos 1) (state d y) (omega (arith, ints)) stay)
                | inr leave ↦
                    let near : NotLater (entry_of a d) y = earlier (entry_of a d) y (y +ℤ pos (m.floor d)) (omega (arith, ints)) leave in
                    let (z, h, yz, c) = leaves_last a y (state d y) w near leave in
                    continues_since y z (state d y) yz h c
              ]),
        )
      ]
    ],
  )

  -- from a round that changes nothing, all that can be met is known
  module _ (f : ℤ) (a : List (Option ℤ)) (are : AreHoles f t hs) (r : IsRoundIn m latest hs a a) (w : AreLasts m latest hs t a) where
    step_best : (y : ℤ) (s v : State) (l : ℕ) → Member hs y → Step m y s l v → StaysOrLeaves m latest a y v → StaysOrLeaves m latest a y s
    step_best y s v l my (g, k) b = elim k [
      | inl same ↦ subst (λ (z : State). StaysOrLeaves m latest a y z) same b
      | inr (ne, at, old) ↦
          let useful : NotLater (entry_of latest v.colour) y ⊎ NotLater (entry_of a v.colour) (y +ℤ pos (m.floor v.colour)) =
          elim b [ inl n ↦ inl (subst (λ (z : ℤ). NotLater (entry_of latest v.colour) z) at n) | inr n ↦ inr (subst (λ (z : ℤ). NotLater (entry_of a v.colour) (z +ℤ pos (m.floor v.colour))) at n.1) ] in
          let here : NotLater (entry_of a s.colour) y = ((r.1 s.colour g.0).1 y my).1 (inr (l, g.1, (v.colour, g, ne, useful))) in
          inr (here, earlier (entry_of a s.colour) (s.entry +ℤ pos (m.floor s.colour)) y old here)
    ]

    steps_best : (y : ℤ) (ls : List ℕ) (s v : State) → (Member hs y ⊎ (ls ≡ [])) → Steps m y s ls v → StaysOrLeaves m latest a y v → StaysOrLeaves m latest a y s
    steps_best y [] s v my e b = subst (λ (z : State). StaysOrLeaves m latest a y z) e b
    steps_best y (l ∷ ls) s v my (x, k, e) b = elim my [
      | inl mem ↦ step_best y s x l mem k (steps_best y ls x v (inl mem) e b)
      | inr none ↦ absurd (cc)
    ]

    sooner : (y : ℤ) (s : State) → StaysOrLeaves m latest a (y +ℤ pos 1) s → StaysOrLeaves m latest a y s
    sooner y s b = elim b [ inl n ↦ inl n | inr n ↦ inr (earlier (entry_of a s.colour) y (y +ℤ pos 1) (omega (arith, ints)) n.0, n.1) ]

    run_best : (y : ℤ) (lists : List (List ℕ)) (s v : State) → OnlyIn hs y lists → Run m y s lists v → Admits latest v → StaysOrLeaves m latest a y s
    run_best y [] s v o e n = inl (subst (λ (z : State). Admits latest z) e n)
    run_best y (ls ∷ rest) s v o (x, k, e) n = steps_best y ls s x o.0 k (sooner y x (run_best (y +ℤ pos 1) rest x v o.1 e n))

    pub last_is : AreLast m latest hs f t a
    last_is s x fx xt = (
      λ (u, (lists, e, o, q), n). run_best x lists s u o q n,
      λ b. elim b [
        | inl n ↦ stays_on x s xt n
        | inr n ↦ let (z, h, xz, c) = leaves_last a x s w n.0 n.1 in before_wait x z s xz (continues_before z s h c)
      ],
    )

-- the rounds end
later_last : (m : Rules) (latest : List (Option ℤ)) (hs : List Span) (f t : ℤ) (a : List (Option ℤ)) (c : ℕ) → AreHoles f t hs → (x y : Option ℤ) → InHoles hs x → InHoles hs y → ((z : ℤ) → Member hs z → NotLater x z → NotLater y z) → IsLater f t x y
later_last m latest hs f t a c are None None hx hy up = tt
later_last m latest hs f t a c are None (Some y) hx hy up = let i = are.1 y hy in let p = i.0 in let q = i.1 in (omega (arith, ints), omega (arith, ints))
later_last m latest hs f t a c are (Some x) None hx hy up = up x hx (omega (arith, ints))
later_last m latest hs f t a c are (Some x) (Some y) hx hy up = let k = up x hx (omega (arith, ints)) in let q = (are.1 y hy).1 in elim (int_cases x y) [ inl lt ↦ inr (lt.1, q) | inr ge ↦ (let l = ge.1 in inl (omega (arith, ints))) ]

pub lasts_fall : (m : Rules) (latest : List (Option ℤ)) (hs : List Span) (f t : ℤ) (a b : List (Option ℤ)) → f <ℤ t → AreHoles f t hs → IsRoundIn m latest hs a b → AreLasts m latest hs t a → (b ≡ a → ⊥) → ranks f t b < ranks f t a
lasts_fall m latest hs f t a b ft are r w ne = ranks_fall f t ft a b (r.0 ∙ sym w.0) (λ d h. elim (cases_lt d m.colours) [
  | inl lt ↦ later_last m latest hs f t a d are (entry_of a d) (entry_of b d) (w.2 d) (r.1 d lt).0 (λ z mz n. ((r.1 d lt).1 z mz).1 (inl n))
  | inr ge ↦ rw (w.1 d ge, r.2 d ge) tt
]) ne

pub left_in_more : (m : Rules) (latest last : List (Option ℤ)) (c k : ℕ) (y : ℤ) → LeftInBelow m latest last c (k + 1) y ↔ (LeftInBelow m latest last c k y ⊎ LeftIn m latest last c k y)
left_in_more m latest last c k y = (
  λ (l, lt, b). elim (cases_eq l k) [ inl s ↦ inr (subst (λ (n : ℕ). LeftIn m latest last c n y) s b) | inr ne ↦ inl (l, omega arith, b) ],
  λ h. elim h [ inl (l, lt, b) ↦ (l, omega arith, b) | inr b ↦ (k, omega arith, b) ],
)

-- one letter more
pub later_in_more : (m : Rules) (latest last : List (Option ℤ)) (hs : List Span) (c k : ℕ) (x new : Option ℤ) → IsLaterIn m latest hs last c k x → InHoles hs new → ((y : ℤ) → Member hs y → NotLater new y ↔ (NotLater x y ⊎ LeftIn m latest last c k y)) → IsLaterIn m latest hs last c (k + 1) new
later_in_more m latest last hs c k x new i h one = (
  h,
  λ y my. let j = i.1 y my in let n = one y my in let q = left_in_more m latest last c k y in (
    λ a. elim (n.0 a) [ inl b ↦ elim (j.0 b) [ inl d ↦ inl d | inr d ↦ inr (q.1 (inl d)) ] | inr b ↦ inr (q.1 (inr b)) ],
    λ a. n.1 (elim a [ inl b ↦ inl (j.1 (inl b)) | inr b ↦ elim (q.0 b) [ inl d ↦ inl (j.1 (inr d)) | inr d ↦ inr d ] ]),
  ),
)

-- the tables' first colours tell the same
pub last_table : (m : Rules) (n : ℕ) (latest now : List (Option ℤ)) (hs : List Span) (f t : ℤ) (last : List (Option ℤ)) → IsTable n latest → take n latest ≡ now → AreLast m latest hs f t last → AreLast m now hs f t last
last_table m n latest now hs f t last table view h s x fx xt =
    let k = h s x fx xt in
    rw (← view) (
      λ (u, g, a). elim (k.0 (u, g, (take_admits n latest u table.1).0 a)) [ inl b ↦ inl ((take_admits n latest s table.1).1 b) | inr b ↦ inr b ],
      λ b. let (u, g, a) = k.1 (elim b [ inl q ↦ inl ((take_admits n latest s table.1).0 q) | inr q ↦ inr q ]) in (u, g, (take_admits n latest u table.1).1 a),
    )

-- ---- the holes by number, from behind
pub begin_rises : (hs : List Span) (y : ℤ) → AreRanges hs → (i j : ℕ) (d : Span) → i ≤ j → j < length hs → int_le (get_or hs j d).from y ≡ true → int_le (get_or hs i d).from y ≡ true
begin_rises hs y a i j d le lt e = let o = hole_order (negsuc (2 ^ 40)) hs i j d a le lt in le_below (get_or hs i d).from (get_or hs j d).from y o.0 e

pub prev_none : (hs : List Span) (y : ℤ) (n : ℕ) → n ≡ 0 → ((k : ℕ) (d : Span) → n ≤ k → k < length hs → y <ℤ (get_or hs k d).from) → IsPrev hs (Some y) None
prev_none hs y n none after = (tt, λ z mz. (λ a. absurd a, λ le. let (k, lt, w) = number_of hs (span y y) z mz in let a = after k (span y y) (omega arith) lt in absurd (let b = w.0 in omega (arith, ints))))

pub prev_is : (hs : List Span) (y x : ℤ) (n : ℕ) (d : Span) → AreRanges hs → 0 < n → n ≤ length hs → (get_or hs (n - 1) d).from ≤ℤ y → ((k : ℕ) (d : Span) → n ≤ k → k < length hs → y <ℤ (get_or hs k d).from) → x ≡ int_min ((get_or hs (n - 1) d).to -ℤ pos 1) y → IsPrev hs (Some y) (Some x)
prev_is hs y x n d are some within begun after is =
    let lt : n - 1 < length hs = omega arith in
    let full = (hole_above (negsuc (2 ^ 40)) hs (n - 1) d are lt).1 in
    let mem : NotLater (Some y) x = omega (arith, ints, clamps) in (
      member_at hs (n - 1) d x lt (omega (arith, ints, clamps), omega (arith, ints, clamps)),
      λ z mz. (
        λ a. omega (arith, ints, clamps),
        λ le.
            let (k, l, w) = number_of hs d z mz in
            elim (cases_lt k n) [
              | inl b ↦ let o = hole_order (negsuc (2 ^ 40)) hs k (n - 1) d are (omega arith) lt in let v = w.1 in let q = o.1 in omega (arith, ints, clamps)
              | inr ge ↦ absurd (let q = after k d ge l in let v = w.0 in omega (arith, ints))
            ],
      ),
    )

pub begun_low : (hs : List Span) (k : ℕ) (d : Span) → AreRanges hs → k < length hs → negsuc (2 ^ 40) <ℤ (get_or hs k d).to
begun_low hs k d are lt = let i = hole_above (negsuc (2 ^ 40)) hs k d are lt in let a = i.0 in let b = i.1 in omega (arith, ints)

-- ---- the states at a place of the run
pub low_holes : (hs : List Span) (f t low : ℤ) (o : Option ℤ) → low ≤ℤ f → AreHoles f t hs → InHoles hs o → IfSome o (λ x. low ≤ℤ x)
low_holes hs f t low None h are i = tt
low_holes hs f t low (Some x) h are i = let a = (are.1 x i).0 in omega (arith, ints)

pub low_from : (hs : List Span) (low : ℤ) (o : Option ℤ) → AreFrom low hs → InHoles hs o → IfSome o (λ x. low ≤ℤ x)
low_from hs low None are i = tt
low_from hs low (Some x) are i = are.1 x i

pub holes_from : (hs : List Span) (f t low : ℤ) → low ≤ℤ f → AreHoles f t hs → AreFrom low hs
holes_from hs f t low h are = (are.0, λ y i. let a = (are.1 y i).0 in omega (arith, ints))

pub table_at : (m : Rules) (n : ℕ) (latest last new : List (Option ℤ)) (x : ℤ) → n ≡ m.colours → IsTable n latest → AreEntriesAt m latest last x new m.colours → IsTable n new
table_at m n latest last new x same table i = (table.0, λ c ge. i.2 c (omega arith) ∙ table.1 c ge)

pub places_gaps : PlacesAreGaps
places_gaps m sets latest hs gs ks f x t before after fx xt parts = (
  λ u. (
    λ (s, h, g). (s, h, gaps_of m hs gs (negsuc (2 ^ 40)) f x s u before.0 fx before.1 (λ y fy yx mem. elim ((parts y).0 mem) [ inl k ↦ k | inr k ↦ absurd (let i = (after.1 y k).0 in omega (arith, ints)) ]) g),
    λ (s, h, g). (s, h, holes_of m hs gs (negsuc (2 ^ 40)) f x s u before.0 fx before.1 (λ y mem. (parts y).1 (inl mem)) g),
  ),
  λ s. (
    λ (u, g, a). (u, gaps_of m hs ks (negsuc (2 ^ 40)) x t s u after.0 xt after.1 (λ y xy yt mem. elim ((parts y).0 mem) [ inl k ↦ absurd (let i = (before.1 y k).1 in omega (arith, ints)) | inr k ↦ k ]) g, a),
    λ (u, g, a). (u, holes_of m hs ks (negsuc (2 ^ 40)) x t s u after.0 xt after.1 (λ y mem. (parts y).1 (inr mem)) g, a),
  ),
)

-- ---- one hole

all_in : (hs : List Span) (f t y : ℤ) (lists : List (List ℕ)) → ((z : ℤ) → f ≤ℤ z → z <ℤ t → Member hs z) → f ≤ℤ y → (y +ℤ pos (length lists)) ≤ℤ t → OnlyIn hs y lists
all_in hs f t y [] h low high = tt
all_in hs f t y (ls ∷ rest) h low high = (inl (h y low (omega (arith, ints))), all_in hs f t (y +ℤ pos 1) rest h (omega (arith, ints)) (omega (arith, ints)))

-- what can be met before it is what can be met before the gap
pub hole_gap : (m : Rules) (latest : List (Option ℤ)) (f t : ℤ) (s : State) → BeforeHoles m latest (span f t ∷ []) f t s ↔ BeforeGap m latest f t s
hole_gap m latest f t s = (
  (λ (u, (lists, e, o, r), a). (u, (lists, e, r), a)),
  λ (u, (lists, e, r), a). (u, (lists, e, all_in (span f t ∷ []) f t f lists (λ z low lt. inl (low, lt)) (omega (arith, ints)) (omega (arith, ints)), r), a),
)

-- of a gap as one hole, the states before it that were entered before it
pub gap_before : (m : Rules) (latest last mid new : List (Option ℤ)) (f t : ℤ) → f <ℤ t → AreLast m latest (span f t ∷ []) f t last → ((s : State) → Admits mid s ↔ StaysOrLeaves m latest last f s) → ((s : State) → Admits new s ↔ (Admits mid s × (s.entry ≤ℤ (f -ℤ pos 1)))) → (s : State) → Admits new s ↔ ((s.entry <ℤ f) × BeforeGap m latest f t s)
gap_before m latest last mid new f t some are in_mid lower s =
    let met = are s f (omega (arith, ints)) (omega (arith, ints)) in
    let gap = hole_gap m latest f t s in
    let l = lower s in
    let k = in_mid s in (
      (λ a. let (x, le) = l.0 a in (omega (arith, ints), gap.0 (met.1 (k.0 x)))),
      λ (lt, b). l.1 (k.1 (met.0 (gap.1 b)), omega (arith, ints)),
    )
