-- A run of holes made explicit.
use Rattle.std.proofs.Common.{suc, zero, ◌≡◌, sym, ◌∙◌, subst, ◌⊎◌, inl, inr, ◌↔◌, ℕ, ◌+◌, ◌<◌, ◌≤◌, ℤ, pos, negsuc, ◌^◌, ◌-ℤ◌, ◌<ℤ◌, ◌≤ℤ◌, List, [], ◌∷◌, length, take, get_or, set, arith}
use Rattle.std.proofs.lemmas.Int.{ints}
use Rattle.std.proofs.lemmas.Bool.{cases_eq, cases_lt}
use Rattle.std.proofs.lemmas.List.{get_or_default, get_or_past}
use Rattle.span_set.specs.declared.set.Span.{Span}
use Rattle.span_set.specs.Spans.{Member, Within}
use Rattle.colour_machine.specs.Rules.{Rules}
use Rattle.reach.specs.Runs.{State}
use Rattle.reach.specs.Past.{Holds}
use Rattle.reach.specs.Sets.{at, set_of}
use Rattle.reach.specs.Holes.{AreHoles, AreFilled, AreBounded, AreEarliest, AfterGaps, HeldOrEntered}
use Rattle.reach.proofs.States.{in_sets}
use Rattle.reach.proofs.Changing.{put_length, put_here, put_there}
use Rattle.reach.proofs.Crossing.{hole_above, member_at, holes_gaps}

pub member_more : (hs : List Span) (k : ℕ) (d : Span) (e : ℤ) → k < length hs → Member (take (k + 1) hs) e ↔ (Member (take k hs) e ⊎ Within (get_or hs k d) e)
member_more [] k d e lt = absurd (omega arith)
member_more (h ∷ hs) zero d e lt = (λ m. elim m [ inl w ↦ inr w | inr w ↦ absurd w ], λ m. elim m [ inl w ↦ absurd w | inr w ↦ inl w ])
member_more (h ∷ hs) (suc k) d e lt =
    let n : suc k + 1 ≡ suc (k + 1) = omega arith in
    let i = member_more hs k d e (omega arith) in rw n (
      λ m. elim m [ inl w ↦ inl (inl w) | inr w ↦ elim (i.0 w) [ inl x ↦ inl (inr x) | inr x ↦ inr x ] ],
      λ m. elim m [ inl w ↦ elim w [ inl x ↦ inl x | inr x ↦ inr (i.1 (inl x)) ] | inr w ↦ inr (i.1 (inr w)) ],
    )

pub hole_bounds : (hs : List Span) (f t : ℤ) (k : ℕ) (d : Span) → AreHoles f t hs → k < length hs → (f ≤ℤ (get_or hs k d).from) × ((get_or hs k d).from <ℤ (get_or hs k d).to) × ((get_or hs k d).to ≤ℤ t)
hole_bounds hs f t k d are lt =
    let some = (hole_above (negsuc (2 ^ 40)) hs k d are.0 lt).1 in
    let a = (are.1 (get_or hs k d).from (member_at hs k d (get_or hs k d).from lt (omega (arith, ints), some))).0 in
    let b = (are.1 ((get_or hs k d).to -ℤ pos 1) (member_at hs k d ((get_or hs k d).to -ℤ pos 1) lt (omega (arith, ints), omega (arith, ints)))).1 in
    (a, some, omega (arith, ints))

-- one hole more
pub fill_more : (hs old now new : List Span) (start : ℤ) (k : ℕ) (d : Span) → k < length hs → ((e : ℤ) → Member now e ↔ (Member old e ⊎ ((start ≤ℤ e) × Member (take k hs) e))) → ((e : ℤ) → Member new e ↔ (Member now e ⊎ ((start ≤ℤ e) × Within (get_or hs k d) e))) → (e : ℤ) → Member new e ↔ (Member old e ⊎ ((start ≤ℤ e) × Member (take (k + 1) hs) e))
fill_more hs old now new start k d lt was add e =
    let i = was e in let j = add e in let q = member_more hs k d e lt in (
      λ m. elim (j.0 m) [ inl x ↦ elim (i.0 x) [ inl y ↦ inl y | inr y ↦ inr (y.0, q.1 (inl y.1)) ] | inr x ↦ inr (x.0, q.1 (inr x.1)) ],
      λ m. j.1 (elim m [ inl x ↦ inl (i.1 (inl x)) | inr x ↦ elim (q.0 x.1) [ inl y ↦ inl (i.1 (inr (x.0, y))) | inr y ↦ inr (x.0, y) ] ]),
    )

-- one colour more
pub filled_more : (old now : List (List Span)) (starts : List ℤ) (hs : List Span) (k : ℕ) (new : List Span) → k < length now → AreFilled old starts hs now k → ((c : ℕ) → k ≤ c → set_of now c ≡ set_of old c) → ((e : ℤ) → Member new e ↔ (Member (set_of now k) e ⊎ ((at starts k ≤ℤ e) × Member hs e))) → AreFilled old starts hs (set now k new) (k + 1) × ((c : ℕ) → k + 1 ≤ c → set_of (set now k new) c ≡ set_of old c)
filled_more old now starts hs k new h (len, below) above add = (
  (
    put_length now k new ∙ len,
    λ c lt e. elim (cases_eq c k) [
      | inl q ↦ let n : Member new e ↔ (Member (set_of old k) e ⊎ ((at starts k ≤ℤ e) × Member hs e)) = rw (sym (above k (omega arith))) (add e) in rw (put_here now k c new h q) (subst (λ j. Member new e ↔ (Member (set_of old j) e ⊎ ((at starts j ≤ℤ e) × Member hs e))) (sym q) n)
      | inr ne ↦ rw (put_there now k c new ne) (below c (omega arith) e)
    ],
  ),
  λ c le. let ne : c ≡ k → ⊥ = λ e. omega arith in put_there now k c new ne ∙ above c (omega arith),
)

pub start_out : (n : ℕ) (f t : ℤ) (a : List ℤ) → AreBounded n f t a → (d : ℕ) → n ≤ d → get_or a d t ≡ t
start_out n f t a b d ge = elim (cases_lt d 16) [
  | inl lt ↦ get_or_default a d t (pos 0) (let l = b.0 in omega arith) ∙ (b.1 d lt).2 ge
  | inr out ↦ get_or_past a d t (let l = b.0 in omega arith)
]

-- sets that are filled hold what was held and what is entered in the run
pub filled_holds : (old new : List (List Span)) (hs : List Span) (f t : ℤ) (a : List ℤ) → length old ≤ 16 → AreHoles f t hs → AreBounded (length old) f t a → AreFilled old a hs new (length old) → (u : State) → Holds new u ↔ HeldOrEntered old hs t a t u
filled_holds old new hs f t a few are b fill u =
    let len = fill.0 in
    elim (cases_lt u.colour (length old)) [
      | inl lt ↦
          let e : get_or a u.colour t ≡ at a u.colour = get_or_default a u.colour t (pos 0) (let l = b.0 in omega arith) in
          let k = fill.1 u.colour lt u.entry in (
            λ h. elim (k.0 h) [ inl x ↦ inl x | inr x ↦ inr (rw e x.0, x.1, (are.1 u.entry x.1).1) ],
            λ h. k.1 (elim h [ inl x ↦ inl x | inr x ↦ inr (rw (← e) x.0, x.1) ]),
          )
      | inr ge ↦ (
        λ h. let i = in_sets new u.colour u.entry h in absurd (omega arith),
        λ h. elim h [
          | inl x ↦ let i = in_sets old u.colour u.entry x in absurd (omega arith)
          | inr x ↦ let e = start_out (length old) f t a b u.colour ge in absurd (let y = x.0 in let z = x.2 in omega (arith, ints))
        ],
      )
    ]

-- where nothing arrives the states are those of before
pub none_filled : (old : List (List Span)) (hs : List Span) (f t : ℤ) (a : List ℤ) → length old ≤ 16 → AreBounded (length old) f t a → ((d : ℕ) → d < 16 → t ≤ℤ at a d) → (u : State) → Holds old u ↔ HeldOrEntered old hs t a t u
none_filled old hs f t a few b none u = (
  λ h. inl h,
  λ h. elim h [
    | inl x ↦ x
    | inr x ↦ elim (cases_lt u.colour 16) [
      | inl lt ↦ let e : get_or a u.colour t ≡ at a u.colour = get_or_default a u.colour t (pos 0) (let l = b.0 in omega arith) in let k = none u.colour lt in absurd (let y = x.0 in let z = x.2 in omega (arith, ints))
      | inr out ↦ let e = get_or_past a u.colour t (let l = b.0 in omega arith) in absurd (let y = x.0 in let z = x.2 in omega (arith, ints))
    ]
  ],
)

pub run_gaps : (m : Rules) (old new : List (List Span)) (hs : List Span) (f t : ℤ) (a : List ℤ) → AreHoles f t hs → f ≤ℤ t → AreEarliest m old hs f t a → ((u : State) → Holds new u ↔ HeldOrEntered old hs t a t u) → (u : State) → Holds new u ↔ AfterGaps m old hs u
run_gaps m old new hs f t a are ft early fill u =
    let i = early u t ft (omega (arith, ints)) in let j = fill u in let k = holes_gaps m old hs f t are ft u in
    (λ h. k.0 (i.1 (j.0 h)), λ h. j.1 (i.0 (k.1 h)))
