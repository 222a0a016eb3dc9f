-- The move at which a channel's runs stop.
use Rattle.std.proofs.Common.{◌≡◌, ap, sym, ◌∙◌, ◌⊎◌, inl, inr, ℕ, ◌+◌, ◌<◌, ◌≤◌, min, List, ◌++◌, length, take, drop, get_or, arith, Option, Some, None}
use Rattle.std.specs.Prelude.{MatchOption}
use Rattle.std.proofs.lemmas.Bool.{cases_eq, cases_lt}
use Rattle.std.proofs.lemmas.List.{take-take, take-append-drop, take_all}
use Rattle.colour_machine.specs.Rules.{Rules}
use Rattle.span_set.specs.declared.set.Span.{Span}
use Rattle.channel_path.specs.declared.moves.Move.{Move}
use Rattle.channel_path.specs.declared.moves.Move.TheVariants.{Letter}
use Rattle.channel_path.specs.Walks.{StopsAt}
use Rattle.channel_path.proofs.Moving.{walk_join}
use Rattle.board.specs.Stops.{IsEarlier, IsFirst, StopRow, Survives, number}

-- what leads through more moves leads through the first of them
pub fewer : (m : Rules) (sets : List (List Span)) (xs : List Move) (a b : ℕ) → a ≤ b → Survives m sets (take b xs) → Survives m sets (take a xs)
fewer m sets xs a b h (u, (s, hs, w)) =
    let e : take a xs ++ drop a (take b xs) ≡ take b xs = ap (λ ys. ys ++ drop a (take b xs)) (sym (take-take a b xs h)) ∙ take-append-drop a (take b xs) in
    let k = (walk_join m (take a xs) (drop a (take b xs)) s u).0 (rw e w) in
    (k.0, (s, hs, k.1))

pub stop_once : (m : Rules) (sets : List (List Span)) (xs : List Move) (i j : ℕ) → StopsAt m sets xs i → StopsAt m sets xs j → i ≡ j
stop_once m sets xs i j (a, b, c) (p, q, r) = elim (cases_eq i j) [
  | inl e ↦ e
  | inr ne ↦ elim (cases_lt i j) [
    | inl lt ↦ let k = fewer m sets xs (i + 1) j (omega arith) q in absurd (c k.0 k.1)
    | inr ge ↦ let k = fewer m sets xs (j + 1) i (omega arith) b in absurd (r k.0 k.1)
  ]
]

pub stop_row_once : (m : Rules) (sets : List (List Span)) (xs : List Move) (x y : ℕ) → StopRow m sets xs x → StopRow m sets xs y → x ≡ y
stop_row_once m sets xs x y (i, a, e) (j, b, f) = sym e ∙ (ap (λ k. number (get_or xs k (Letter 0 0 0))) (stop_once m sets xs i j a b) ∙ f)

pub no_stop : (m : Rules) (sets : List (List Span)) (xs : List Move) (x : ℕ) → Survives m sets xs → StopRow m sets xs x → ⊥
no_stop m sets xs x s (j, (lt, some, none), e) =
    let all : Survives m sets (take (length xs) xs) = rw (take_all (length xs) xs (omega arith)) s in
    let k = fewer m sets xs (j + 1) (length xs) (omega arith) all in none k.0 k.1

-- one place more
module _ (GoesOn : ℕ → Type 0) (Stops : ℕ → ℕ → Type 0) (once : (i x y : ℕ) → Stops i x → Stops i y → x ≡ y) (never : (i x : ℕ) → GoesOn i → Stops i x → ⊥) (n : ℕ) where
  pub first_more : (a b r : Option ℕ) → IsFirst GoesOn Stops n a → MatchOption b (GoesOn n) (λ x. Stops n x) → IsEarlier a b r → IsFirst GoesOn Stops (n + 1) r
  first_more None None r a b e = rw e (λ i lt. elim (cases_eq i n) [ inl same ↦ rw same b | inr ne ↦ a i (omega arith) ])
  first_more None (Some y) r a b e = rw e (
    (n, omega arith, b),
    (λ i z lt s. elim (cases_eq i n) [
      | inl same ↦ let k = once n y z b (rw same at s) in omega arith
      | inr ne ↦ absurd (never i z (a i (omega arith)) s)
    ]),
    λ i lt. elim (cases_eq i n) [ inl same ↦ rw same (inr (y, b)) | inr ne ↦ inl (a i (omega arith)) ],
  )
  first_more (Some x) None r (w, least, each) b e = rw e (
    (w.0, (let lt = w.1 in omega arith), w.2),
    (λ i z lt s. elim (cases_eq i n) [
      | inl same ↦ absurd (never n z b (rw same at s))
      | inr ne ↦ least i z (omega arith) s
    ]),
    λ i lt. elim (cases_eq i n) [ inl same ↦ rw same (inl b) | inr ne ↦ each i (omega arith) ],
  )
  first_more (Some x) (Some y) r (w, least, each) b e =
      let all : (i : ℕ) → i < n + 1 → GoesOn i ⊎ ((z : ℕ) × Stops i z) = λ i lt. elim (cases_eq i n) [ inl same ↦ rw same (inr (y, b)) | inr ne ↦ each i (omega arith) ] in
      rw e (elim (cases_lt x y) [
        | inl lt ↦ let m : min x y ≡ x = omega arith in rw m (
          (w.0, (let l2 = w.1 in omega arith), w.2),
          (λ i z l3 s. elim (cases_eq i n) [
            | inl same ↦ let k = once n y z b (rw same at s) in omega arith
            | inr ne ↦ least i z (omega arith) s
          ]),
          all,
        )
        | inr ge ↦ let m : min x y ≡ y = omega arith in rw m (
          (n, omega arith, b),
          (λ i z l3 s. elim (cases_eq i n) [
            | inl same ↦ let k = once n y z b (rw same at s) in omega arith
            | inr ne ↦ let k = least i z (omega arith) s in omega arith
          ]),
          all,
        )
      ])
