-- A way, and the lists of its letters by tenth.
use Rattle.std.proofs.Common.{suc, zero, ◌≡◌, refl, sym, ◌∙◌, subst, inl, inr, ◌↔◌, ℕ, ℤ, pos, ◌+ℤ◌, ◌<ℤ◌, ◌≤ℤ◌, List, [], ◌∷◌, cond, arith}
use Rattle.std.specs.Ordering.{int_eq}
use Rattle.std.proofs.lemmas.Int.{ints}
use Rattle.sig_base.proofs.Common.{same_cases}
use Rattle.colour_machine.specs.Rules.{Rules}
use Rattle.gap_ways.specs.declared.states.Fill.{Fill}
use Rattle.reach.specs.Runs.{State, Step, Steps, Run}
use Rattle.gap_ways.specs.Ways.{Way}

-- the letters of the fills of tenth t, in order
abbrev pub letters_in : List Fill → ℤ → List ℕ
letters_in [] t = []
letters_in (x ∷ xs) t = cond (int_eq x.at t) (x.letter ∷ letters_in xs t) (letters_in xs t)

-- those of the n tenths from f on
abbrev pub lists_in : List Fill → ℤ → ℕ → List (List ℕ)
lists_in fs f zero = []
lists_in fs f (suc n) = letters_in fs f ∷ lists_in fs (f +ℤ pos 1) n

-- no fill is before the one in front of it, and all are at tenths from f up to t
abbrev pub Ordered : ℤ → ℤ → List Fill → Type 0
Ordered f t [] = Unit {0}
Ordered f t (x ∷ xs) = (f ≤ℤ x.at) × (x.at <ℤ t) × Ordered x.at t xs

-- one letter after another, each at its tenth
abbrev pub Chain : Rules → State → List Fill → State → Type 0
Chain m s [] u = u ≡ s
Chain m s (x ∷ xs) u = (v : State) × Step m x.at s x.letter v × Chain m v xs u

way_chain : (m : Rules) (f t : ℤ) (s u : State) (fs : List Fill) → Way m f t s fs u ↔ (Ordered f t fs × Chain m s fs u)
way_chain m f t s u [] = (λ e. (tt, e), λ (o, e). e)
way_chain m f t s u (x ∷ xs) = (
  λ (a, b, (v, st, w)). let (o, c) = (way_chain m x.at t v u xs).0 w in ((a, b, o), (v, st, c)),
  λ ((a, b, o), (v, st, c)). (a, b, (v, st, (way_chain m x.at t v u xs).1 (o, c))),
)

none_at : (g t f : ℤ) (fs : List Fill) → Ordered g t fs → f <ℤ g → letters_in fs f ≡ []
none_at g t f [] o h = refl
none_at g t f (x ∷ xs) (a, b, o) h = elim (same_cases x.at f) [
  | inl (e, q) ↦ absurd (omega (arith, ints))
  | inr (e, q) ↦ rw e (none_at x.at t f xs o (omega (arith, ints)))
]

skip_one : (x : Fill) (xs : List Fill) (y : ℤ) → x.at <ℤ y → letters_in (x ∷ xs) y ≡ letters_in xs y
skip_one x xs y h = elim (same_cases x.at y) [
  | inl (e, q) ↦ absurd (omega (arith, ints))
  | inr (e, q) ↦ rw e refl
]

-- the fills of tenth f, and the later ones
split_at : (m : Rules) (f t : ℤ) (fs : List Fill) → Ordered f t fs → (rest : List Fill) × Ordered (f +ℤ pos 1) t rest × ((y : ℤ) → f <ℤ y → letters_in fs y ≡ letters_in rest y) × ((s u : State) → Chain m s fs u ↔ ((v : State) × Steps m f s (letters_in fs f) v × Chain m v rest u))
split_at m f t [] o = ([], tt, (λ y h. refl), λ s u. (λ e. (s, refl, e), λ (v, q, e). rw (← q) e))
split_at m f t (x ∷ xs) (a, b, o) = elim (same_cases x.at f) [
  | inl (e, q) ↦
      let o2 : Ordered f t xs = subst (λ (y : ℤ). Ordered y t xs) q o in
      let (rest, o3, same, ch) = split_at m f t xs o2 in (
        rest,
        o3,
        (λ y h. skip_one x xs y (omega (arith, ints)) ∙ same y h),
        λ s u. rw e (
          λ (z, st, c). let (v, r, d) = (ch z u).0 c in (v, (z, subst (λ (y : ℤ). Step m y s x.letter z) q st, r), d),
          λ (v, (z, st, r), d). (z, subst (λ (y : ℤ). Step m y s x.letter z) (sym q) st, (ch z u).1 (v, r, d)),
        ),
      )
  | inr (e, q) ↦
      let none : letters_in xs f ≡ [] = none_at x.at t f xs o (omega (arith, ints)) in
      (x ∷ xs, (omega (arith, ints), b, o), (λ y h. refl), λ s u. rw (e, none) (λ c. (s, refl, c), λ (v, k, c). rw (← k) c))
]

lists_same : (fs gs : List Fill) (f : ℤ) (n : ℕ) → ((y : ℤ) → f ≤ℤ y → letters_in fs y ≡ letters_in gs y) → lists_in fs f n ≡ lists_in gs f n
lists_same fs gs f zero h = refl
lists_same fs gs f (suc n) h = let a = h f (omega (arith, ints)) in let b = lists_same fs gs (f +ℤ pos 1) n (λ y le. h y (omega (arith, ints))) in cc

none_left : (f : ℤ) (fs : List Fill) → Ordered f f fs → fs ≡ []
none_left f [] o = refl
none_left f (x ∷ xs) (a, b, o) = absurd (omega (arith, ints))

chain_lists : (m : Rules) (f t : ℤ) (n : ℕ) (fs : List Fill) (s u : State) → t ≡ (f +ℤ pos n) → Ordered f t fs → Chain m s fs u ↔ Run m f s (lists_in fs f n) u
chain_lists m f t zero fs s u e o =
    let q : t ≡ f = omega (arith, ints) in
    let none = none_left f fs (subst (λ (y : ℤ). Ordered f y fs) q o) in
    rw none (λ c. c, λ c. c)
chain_lists m f t (suc n) fs s u e o =
    let (rest, o2, same, ch) = split_at m f t fs o in
    let k : lists_in fs (f +ℤ pos 1) n ≡ lists_in rest (f +ℤ pos 1) n = lists_same fs rest (f +ℤ pos 1) n (λ y le. same y (omega (arith, ints))) in
    let i : (v : State) → Chain m v rest u ↔ Run m (f +ℤ pos 1) v (lists_in rest (f +ℤ pos 1) n) u = λ v. chain_lists m (f +ℤ pos 1) t n rest v u (omega (arith, ints)) o2 in
    rw k (
      λ c. let (v, r, d) = (ch s u).0 c in (v, r, (i v).0 d),
      λ (v, r, d). (ch s u).1 (v, r, (i v).1 d),
    )

-- a way over the n tenths from f on is ordered fills whose lists, tenth by tenth, are a run
pub way_lists : (m : Rules) (f t : ℤ) (n : ℕ) (fs : List Fill) (s u : State) → t ≡ (f +ℤ pos n) → Way m f t s fs u ↔ (Ordered f t fs × Run m f s (lists_in fs f n) u)
way_lists m f t n fs s u e = (
  λ w. let (o, c) = (way_chain m f t s u fs).0 w in (o, (chain_lists m f t n fs s u e o).0 c),
  λ (o, r). (way_chain m f t s u fs).1 (o, (chain_lists m f t n fs s u e o).1 r),
)
