-- Few rounds change something: what a round lowers comes after the arrivals of as many colours as there were rounds before.
use Rattle.std.proofs.Common.{◌≡◌, refl, sym, ◌∙◌, subst, ap, inl, inr, ℕ, zero, suc, ◌+◌, ◌<◌, ◌≤◌, ℤ, pos, ◌<ℤ◌, ◌≤ℤ◌, cond, List, [], ◌∷◌, ◌++◌, length, reverse, arith}
use Rattle.std.specs.Prelude.{int_lt}
use Rattle.std.proofs.lemmas.Int.{ints}
use Rattle.std.proofs.lemmas.Bool.{cases_lt}
use Rattle.std.proofs.lemmas.List.{ext_get_or, reverse-append}
use Rattle.span_set.proofs.Sets.{int_cases}
use Rattle.colour_machine.specs.Rules.{Rules, IsMachine, Change}
use Rattle.colour_machine.proofs.Ways.{change_stays}
use Rattle.reach.specs.Sets.{at}
use Rattle.reach.specs.Arrivals.{IsLeave, IsLowered, ByColours}
use Rattle.gap_ways.specs.Rounds.{IsNext, AreRounds}

-- ---- how many of the first n tenths aren't later than x
abbrev pub mark : ℤ → ℤ → ℕ
mark y x = cond (int_lt x y) 0 1

mark_yes : (y x : ℤ) → y ≤ℤ x → mark y x ≡ 1
mark_yes y x h = elim (int_cases x y) [ inl a ↦ absurd (let b = a.1 in omega (arith, ints)) | inr a ↦ rw a.0 refl ]

mark_no : (y x : ℤ) → x <ℤ y → mark y x ≡ 0
mark_no y x h = elim (int_cases x y) [ inl a ↦ rw a.0 refl | inr a ↦ absurd (let b = a.1 in omega (arith, ints)) ]

mark_most : (y x : ℤ) → mark y x ≤ 1
mark_most y x = elim (int_cases x y) [ inl a ↦ let e = mark_no y x a.1 in omega arith | inr a ↦ let e = mark_yes y x a.1 in omega arith ]

mark_less : (y x z w : ℤ) → (y ≤ℤ x → z ≤ℤ w) → mark y x ≤ mark z w
mark_less y x z w h = elim (int_cases x y) [
  | inl a ↦ let e = mark_no y x a.1 in omega arith
  | inr a ↦ let e = mark_yes y x a.1 in let f = mark_yes z w (h a.1) in omega arith
]

abbrev pub upto : ℕ → List ℤ → ℤ → ℕ
upto zero a x = 0
upto (suc n) a x = upto n a x + mark (at a n) x

upto_most : (n : ℕ) (a : List ℤ) (x : ℤ) → upto n a x ≤ n
upto_most zero a x = omega arith
upto_most (suc n) a x = let i = upto_most n a x in let j = mark_most (at a n) x in omega arith

upto_less : (n : ℕ) (a b : List ℤ) (x y : ℤ) → ((d : ℕ) → d < n → at a d ≤ℤ x → at b d ≤ℤ y) → upto n a x ≤ upto n b y
upto_less zero a b x y h = omega arith
upto_less (suc n) a b x y h = let i = upto_less n a b x y (λ d lt. h d (omega arith)) in let j = mark_less (at a n) x (at b n) y (h n (omega arith)) in omega arith

upto_more : (n : ℕ) (a b : List ℤ) (x y : ℤ) (e : ℕ) → ((d : ℕ) → d < n → at a d ≤ℤ x → at b d ≤ℤ y) → e < n → x <ℤ at a e → at b e ≤ℤ y → upto n a x < upto n b y
upto_more zero a b x y e h lt late low = absurd (omega arith)
upto_more (suc n) a b x y e h lt late low = let up : (d : ℕ) → d < n → at a d ≤ℤ x → at b d ≤ℤ y = λ d k. h d (omega arith) in elim (cases_lt e n) [
  | inl k ↦ let i = upto_more n a b x y e up k late low in let j = mark_less (at a n) x (at b n) y (h n (omega arith)) in omega arith
  | inr k ↦
      let same : e ≡ n = omega arith in
      let i = upto_less n a b x y up in
      let p = mark_no (at a n) x (subst (λ (q : ℕ). x <ℤ at a q) same late) in
      let q = mark_yes (at b n) y (subst (λ (q : ℕ). at b q ≤ℤ y) same low) in
      omega arith
]

-- where a change lowers an arrival, those of k colours or more are no later than the change
abbrev pub Behind : Rules → List ℤ → ℕ → List ℤ → Type 0
Behind m dep k a = (c d : ℕ) (x : ℤ) → c < m.colours → Change m c d → IsLeave (at dep c) (at a c) (m.floor c) x → x <ℤ at a d → k ≤ upto 16 a x

-- ---- one round
module _ (m : Rules) (laws : IsMachine m) (dep leave a b : List ℤ)
    (leaves : (c : ℕ) → c < m.colours → IsLeave (at dep c) (at a c) (m.floor c) (at leave c))
    (lowered : IsLowered a b (ByColours m m.colours leave)) where
  pub next_round : IsNext m dep a b
  next_round d lt = elim (lowered.1 d lt).2 [
    | inl e ↦ inl e
    | inr (c, cl, (l, ll, (g, ne, y))) ↦ inr (c, at leave c, cl, (l, g, ne), leaves c cl, y)
  ]

  module _ (k : ℕ) (was : Behind m dep k a) where
    -- a lowered arrival comes after those of k colours, and with it there are more
    lowered_behind : (d : ℕ) → d < 16 → at b d <ℤ at a d → k ≤ upto 16 a (at b d)
    lowered_behind d lt less = elim (lowered.1 d lt).2 [
      | inl e ↦ absurd (omega (arith, ints))
      | inr (c, cl, (l, ll, (g, ne, y))) ↦ was c d (at b d) cl (l, g, ne) (rw y (leaves c cl)) less
    ]

    more_by : (d : ℕ) (x : ℤ) → d < 16 → at b d <ℤ at a d → at b d ≤ℤ x → k < upto 16 b x
    more_by d x lt less le =
        let i = lowered_behind d lt less in
        let j = upto_more 16 a b (at b d) x d (λ e h q. let w = (lowered.1 e h).0 in omega (arith, ints)) lt less le in
        omega arith

    pub next_behind : Behind m dep (k + 1) b
    next_behind c d x cl (l, g, ne) lv late =
        let few = laws.few_colours in
        let dl = change_stays m c d laws (l, g, ne) in
        let low = (lowered.1 d (omega arith)).1 (at leave c) (c, cl, (l, g.1, (g, ne, refl))) in
        let was_left = leaves c cl in let before = was_left.0 in let after = was_left.1 in
        elim lv.2 [
          | inl e ↦ absurd (omega (arith, ints))
          | inr e ↦ let i = more_by c x (omega arith) (omega (arith, ints)) (omega (arith, ints)) in omega arith
        ]

    low_same : 16 ≤ k → (d : ℕ) → d < 16 → at b d ≡ at a d
    low_same h d lt = elim (int_cases (at b d) (at a d)) [
      | inl less ↦ let i = more_by d (at b d) lt less.1 (omega (arith, ints)) in let j = upto_most 16 b (at b d) in absurd (omega arith)
      | inr le ↦ let i = le.1 in let j = (lowered.1 d lt).0 in omega (arith, ints)
    ]

    -- so a round that changes something has few before it
    pub few_before : length a ≡ 16 → (b ≡ a → ⊥) → k < 16
    few_before size ne = elim (cases_lt k 16) [
      | inl lt ↦ lt
      | inr ge ↦ absurd (ne (ext_get_or (pos 0) b a (lowered.0 ∙ sym size) (λ d lt. low_same ge d (let l = lowered.0 in omega arith))))
    ]

pub rounds_more : (m : Rules) (f t : ℤ) (dep a b : List ℤ) (items new : List (List ℤ)) → new ≡ items ++ a ∷ [] → ((d : ℕ) → d < 16 → (f ≤ℤ at a d) × (at a d ≤ℤ t)) → IsNext m dep a b → AreRounds m f t dep (reverse items) a → AreRounds m f t dep (reverse new) b
rounds_more m f t dep a b items new e w n r = let q : reverse new ≡ a ∷ reverse items = ap (λ (z : List (List ℤ)). reverse z) e ∙ reverse-append items (a ∷ []) in subst (λ (z : List (List ℤ)). AreRounds m f t dep z b) (sym q) (w, n, r)
