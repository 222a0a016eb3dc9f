-- What is asked of the possible states.
use Rattle.std.proofs.Common.{◌≡◌, refl, sym, subst, inl, inr, ◌↔◌, ℕ, ◌+◌, ◌<◌, ◌≤◌, ◌^◌, ℤ, pos, negsuc, ◌+ℤ◌, ◌-ℤ◌, ◌<ℤ◌, ◌≤ℤ◌, List, length, Option, Some, None, MatchOption, Bool, true, false, IsTrue, get_or, ◌∙◌, arith}
use Rattle.std.proofs.lemmas.Int.{ints}
use Rattle.span_set.specs.declared.set.Span.{Span}
use Rattle.span_set.specs.Spans.{Member}
use Rattle.span_set.proofs.Sets.{int_cases}
use Rattle.colour_machine.specs.Mask.{Has}
use Rattle.reach.specs.declared.seen.AgeBound.TheVariants.{AtLeast}
use Rattle.reach.specs.declared.seen.Test.{Test}
use Rattle.reach.specs.Runs.{State, state}
use Rattle.reach.specs.Past.{Holds}
use Rattle.reach.specs.Ahead.{Admits, NotLater}
use Rattle.reach.specs.Tests.{InBound, IsPossible, Meets}
use Rattle.reach.specs.Leaving.{HasOld}
use Rattle.reach.specs.Sets.{set_of}
use Rattle.reach.specs.Arrivals.{IsFirst}
use Rattle.reach.proofs.States.{in_sets, state_same}
use Rattle.std.proofs.lemmas.Bool.{cases_eq}
use Rattle.reach.proofs.Common.{not_later}
use Rattle.gap_ways.specs.Ways.{NoneOlder}
use Rattle.gap_ways.specs.Choices.{IsAnswer, IsOutside, EntryAnswers, IsAsked}

abbrev pub at_least : ℕ → ℕ → ℤ → Test
at_least mask n t = record { colours = mask; bound = AtLeast n; at = t }

-- a state of the colour alone is seen to be old enough
pub old_seen : (sets : List (List Span)) (all : List (Option ℤ)) (n mask floor c : ℕ) (t : ℤ) → ((k : ℕ) → Has mask k ↔ (k ≡ c)) → ((s : State) → Admits all s ↔ ((s.colour < n) × (s.entry <ℤ pos (2 ^ 39)))) → c < n → t <ℤ pos (2 ^ 39) → ((s : State) × IsPossible sets all t s × Meets (at_least mask floor t) s) ↔ HasOld (set_of sets c) floor t
old_seen sets all n mask floor c t only is lt high = (
  λ (s, (h, le, ad), (k, b)). (s.entry, subst (λ (x : ℕ). Member (set_of sets x) s.entry) ((only s.colour).0 k) h, b),
  λ (e, h, o). (state c e, (h, omega (arith, ints), (is (state c e)).1 (lt, omega (arith, ints))), ((only c).1 refl, o)),
)

-- the search: none is old enough before low, and at high one is, unless that is the end
abbrev pub IsSearched : List Span → ℕ → ℤ → ℤ → ℤ → ℤ → Type 0
IsSearched set floor f t low high = ((e y : ℤ) → Member set e → f ≤ℤ y → (e +ℤ pos floor) ≤ℤ y → y <ℤ t → low ≤ℤ y) × (high <ℤ t → HasOld set floor high)

pub search_down : (set : List Span) (floor : ℕ) (f t low high x : ℤ) → HasOld set floor x → IsSearched set floor f t low high → IsSearched set floor f t low x
search_down set floor f t low high x h (a, b) = (a, λ lt. h)

pub search_up : (set : List Span) (floor : ℕ) (f t low high x z : ℤ) → (HasOld set floor x → ⊥) → z ≡ (x +ℤ pos 1) → IsSearched set floor f t low high → IsSearched set floor f t z high
search_up set floor f t low high x z none e (a, b) = (
  λ e2 y m fy o yt. elim (int_cases x y) [ inl k ↦ let k2 = k.1 in omega (arith, ints) | inr k ↦ absurd (none (e2, m, (let k2 = k.1 in omega (arith, ints)))) ],
  b,
)

pub search_ends : (set : List Span) (floor : ℕ) (f t low high r : ℤ) → f ≤ℤ low → low ≡ high → high ≤ℤ t → r ≡ low → IsSearched set floor f t low high → IsFirst set floor f t r
search_ends set floor f t low high r fl e ht q (a, b) = (
  λ e2 y m fy o yt. let k = a e2 y m fy o yt in omega (arith, ints),
  omega (arith, ints),
  omega (arith, ints),
  λ lt. let (e2, m, o) = b (omega (arith, ints)) in (e2, m, omega (arith, ints)),
)

-- the first tenth at which one is old enough is that of the earliest entry
module _ (sets : List (List Span)) (c floor : ℕ) (f t x : ℤ) (older : NoneOlder sets) (low : f ≡ negsuc (2 ^ 39)) (first : IsFirst (set_of sets c) floor f t x) where
  pub first_least : (y : ℤ) → x <ℤ t → (y +ℤ pos floor) ≡ x → (e : ℤ) → Member (set_of sets c) e → y ≤ℤ e
  first_least y xt q e m =
      let o = older (state c e) m in
      elim (int_cases (e +ℤ pos floor) t) [
        | inl k ↦ let k2 = k.1 in let i = first.0 e (e +ℤ pos floor) m (omega (arith, ints)) (omega (arith, ints)) k2 in omega (arith, ints)
        | inr k ↦ let k2 = k.1 in omega (arith, ints)
      ]

  pub first_in_time : (y : ℤ) → y <ℤ t → HasOld (set_of sets c) floor y → x ≤ℤ y
  first_in_time y yt (e, m, o) = let k = older (state c e) m in first.0 e y m (omega (arith, ints)) o yt

  pub first_member : (y : ℤ) → x <ℤ t → (y +ℤ pos floor) ≡ x → Member (set_of sets c) y
  first_member y xt q =
      let (e, m, o) = first.3 xt in
      let l = first_least y xt q e m in
      let same : e ≡ y = omega (arith, ints) in
      subst (λ (z : ℤ). Member (set_of sets c) z) same m

-- ---- the states that are entered before a tenth
pub early_none : (sets : List (List Span)) (f : ℤ) (s : State) → Holds sets s ↔ (Holds sets s × (s.colour < 0 → s.entry <ℤ f))
early_none sets f s = (λ h. (h, λ lt. absurd (omega arith)), λ (h, k). h)

pub early_more : (sets old new : List (List Span)) (k : ℕ) (f t : ℤ) → t ≡ (f -ℤ pos 1) → ((s : State) → Holds old s ↔ (Holds sets s × (s.colour < k → s.entry <ℤ f))) → ((s : State) → Holds new s ↔ (Holds old s × (s.colour ≡ k → InBound (AtLeast 0) t s.entry))) → (s : State) → Holds new s ↔ (Holds sets s × (s.colour < k + 1 → s.entry <ℤ f))
early_more sets old new k f t e was kept s = (
  λ h. let (o, b) = (kept s).0 h in let (z, a) = (was s).0 o in (
    z,
    λ lt. elim (cases_eq s.colour k) [ inl q ↦ let i = b q in omega (arith, ints) | inr ne ↦ a (omega arith) ],
  ),
  λ (z, a). (kept s).1 ((was s).1 (z, λ lt. a (omega arith)), λ q. let i = a (omega arith) in omega (arith, ints)),
)

pub early_all : (sets new : List (List Span)) (n k : ℕ) (f : ℤ) → length sets ≡ n → n ≤ k → ((s : State) → Holds new s ↔ (Holds sets s × (s.colour < k → s.entry <ℤ f))) → (s : State) → Holds new s ↔ (Holds sets s × (s.entry <ℤ f))
early_all sets new n k f size le was s = (
  λ h. let (z, a) = (was s).0 h in (z, a (let i = in_sets sets s.colour s.entry z in omega arith)),
  λ (z, a). (was s).1 (z, λ lt. a),
)

-- ---- tests
pub asked_outside : (test : Test) (c : ℕ) (r : Option Test) → Has test.colours c → MatchOption r ((e : ℤ) → IsOutside test.bound test.at e → ⊥) (λ x. (e : ℤ) → ((e ≤ℤ x.at) × InBound x.bound x.at e) ↔ IsOutside test.bound test.at e) → MatchOption r ((e : ℤ) → EntryAnswers false test c e → ⊥) (IsAsked false test c)
asked_outside test c None has h = λ e (le, n). h e (le, λ b. n (has, b))
asked_outside test c (Some x) has h = λ e. (
  λ k. let (le, n) = (h e).0 k in (le, λ (a, b). n b),
  λ (le, n). (h e).1 (le, λ b. n (has, b)),
)

-- ---- an answer of one colour
module _ (past : List (List Span)) (ahead : List (Option ℤ)) (met : Bool) (test asked : Test) (c : ℕ) (is : IsAsked met test c asked) (only : (k : ℕ) → Has asked.colours k ↔ (k ≡ c)) where
  pub none_asked : (((s : State) × IsPossible past ahead asked.at s × Meets asked s) → ⊥) → (e : ℤ) → IsAnswer past ahead met test (state c e) → ⊥
  none_asked none e ((h, le, ad), a) = let (le2, b) = (is e).1 (le, a) in none (state c e, (h, le2, ad), ((only c).1 refl, b))

  pub some_asked : (left : List (List Span)) → ((s : State) → Holds left s ↔ (Holds past s × (s.colour ≡ c → InBound asked.bound asked.at s.entry))) → ((s : State) × IsPossible past ahead asked.at s × Meets asked s) → (e : ℤ) × Member (set_of left c) e × (e ≤ℤ asked.at) × NotLater (get_or ahead c None) e
  some_asked left kept (s, (h, le, ad), (k, b)) =
      let same = (only s.colour).0 k in
      (s.entry, subst (λ (x : ℕ). Member (set_of left x) s.entry) same ((kept s).1 (h, λ q. b)), le, subst (λ (x : ℕ). NotLater (get_or ahead x None) s.entry) same ad)

  pub found_asked : (left : List (List Span)) (e z : ℤ) → ((s : State) → Holds left s ↔ (Holds past s × (s.colour ≡ c → InBound asked.bound asked.at s.entry))) → Member (set_of left c) e → e ≤ℤ asked.at → e ≤ℤ z → NotLater (get_or ahead c None) z → IsAnswer past ahead met test (state c e)
  found_asked left e z kept m le ez ad =
      let (h, b) = (kept (state c e)).0 m in
      let (le2, a) = (is e).0 (le, b refl) in
      ((h, le2, not_later (get_or ahead c None) e z ez ad), a)

-- no colour below k, nor k
pub none_more : (P : State → Type 0) (k : ℕ) → ((s : State) → s.colour < k → P s → ⊥) → ((e : ℤ) → P (state k e) → ⊥) → (s : State) → s.colour < k + 1 → P s → ⊥
none_more P k below here s lt p = elim (cases_eq s.colour k) [
  | inl q ↦ here s.entry (subst P (state_same s (state k s.entry) q refl) p)
  | inr ne ↦ below s (omega arith) p
]

pub none_all : (past : List (List Span)) (ahead : List (Option ℤ)) (met : Bool) (test : Test) (k n : ℕ) → length past ≡ n → n ≤ k → ((s : State) → s.colour < k → IsAnswer past ahead met test s → ⊥) → (s : State) → IsAnswer past ahead met test s → ⊥
none_all past ahead met test k n size le none s a = none s (let i = in_sets past s.colour s.entry a.0.0 in omega arith) a

pub not_both : (b : Bool) → b ≡ false → IsTrue b → ⊥
not_both b e t = let q : true ≡ false = sym t ∙ e in absurd (cc)
