-- The place at which a test tells moves apart.
use Rattle.std.proofs.Common.{◌≡◌, refl, ap, sym, ◌∙◌, inl, inr, ℕ, suc, zero, ◌-◌, ◌<◌, ◌≤◌, Bool, true, false, List, [], ◌∷◌, ◌++◌, length, length-append, take, drop, take_at, drop_at, get_or, arith}
use Rattle.std.specs.List.Sorted.{IsPartitionedBy, IsPartitionPoint}
use Rattle.std.proofs.lemmas.Bool.{cases_lt}
use Rattle.std.proofs.lemmas.List.{get_or_append_left, get_or-append_right}
use Rattle.channel_path.specs.declared.moves.Move.{Move}
use Rattle.channel_path.specs.declared.moves.Move.TheVariants.{Letter}
use Rattle.decisive.specs.Cuts.{AllAre, IsCutBy}

are_get : (p : Move → Bool) (b : Bool) (ms : List Move) (i : ℕ) (d : Move) → AllAre p b ms → i < length ms → p (get_or ms i d) ≡ b
are_get p b [] i d h lt = absurd (omega arith)
are_get p b (m ∷ ms) zero d h lt = h.0
are_get p b (m ∷ ms) (suc i) d h lt = are_get p b ms i d h.1 (omega arith)

pub are_join : (p : Move → Bool) (b : Bool) (xs ys : List Move) → AllAre p b xs → AllAre p b ys → AllAre p b (xs ++ ys)
are_join p b [] ys h k = k
are_join p b (x ∷ xs) ys h k = (h.0, are_join p b xs ys h.1 k)

joined_at : (p : Move → Bool) (xs ys : List Move) (i : ℕ) (d : Move) → AllAre p true xs → i < length xs → p (get_or (xs ++ ys) i d) ≡ true
joined_at p xs ys i d h lt = ap (λ m. p m) (get_or_append_left xs ys d i lt) ∙ are_get p true xs i d h lt

joined_past : (p : Move → Bool) (xs ys : List Move) (i : ℕ) (d : Move) → AllAre p false ys → length xs ≤ i → i < length (xs ++ ys) → p (get_or (xs ++ ys) i d) ≡ false
joined_past p xs ys i d h le lt =
    let size = length-append xs ys in
    ap (λ m. p m) (get_or-append_right xs ys (length xs) i d refl le) ∙ are_get p false ys (i - length xs) d h (omega arith)

parted : (p : Move → Bool) (xs ys : List Move) → AllAre p true xs → AllAre p false ys → IsPartitionedBy p (xs ++ ys)
parted p xs ys h k i j d le lt is = elim (cases_lt i (length xs)) [
  | inl small ↦ joined_at p xs ys i d h small
  | inr big ↦ let no = joined_past p xs ys j d k (omega arith) lt in absurd (let bad : true ≡ false = sym is ∙ no in cc)
]

pub cut_parted : (p : Move → Bool) (ms xs ys : List Move) → IsCutBy p ms xs ys → IsPartitionedBy p ms
cut_parted p ms xs ys cut = rw cut.whole (parted p xs ys cut.first cut.rest)

point : (p : Move → Bool) (xs ys : List Move) (i : ℕ) → AllAre p true xs → AllAre p false ys → i ≤ length (xs ++ ys) → IsPartitionPoint (λ y. p y ≡ true) (λ y. p y ≡ false) (xs ++ ys) i → i ≡ length xs
point p xs ys i h k le at =
    let d = Letter 0 0 0 in
    let size = length-append xs ys in
    elim (cases_lt i (length xs)) [
      | inl small ↦ absurd (let no = at.1 i d (omega arith) (omega arith) in let yes = joined_at p xs ys i d h small in let bad : true ≡ false = sym yes ∙ no in cc)
      | inr big ↦ elim (cases_lt (length xs) i) [
        | inl more ↦ absurd (let yes = at.0 (length xs) d (omega arith) more in let no = joined_past p xs ys (length xs) d k (omega arith) (omega arith) in let bad : true ≡ false = sym yes ∙ no in cc)
        | inr less ↦ omega arith
      ]
    ]

pub cut_point : (p : Move → Bool) (ms xs ys : List Move) (i : ℕ) → IsCutBy p ms xs ys → i ≤ length ms → IsPartitionPoint (λ y. p y ≡ true) (λ y. p y ≡ false) ms i → i ≡ length xs
cut_point p ms xs ys i cut le at = let e = cut.whole in point p xs ys i cut.first cut.rest (rw e at le) (rw e at at)

pub cut_front : (p : Move → Bool) (ms xs ys : List Move) (i : ℕ) → IsCutBy p ms xs ys → i ≡ length xs → take i ms ≡ xs
cut_front p ms xs ys i cut e = rw (cut.whole, e) (take_at xs ys (length xs) refl)

pub cut_back : (p : Move → Bool) (ms xs ys : List Move) (i : ℕ) → IsCutBy p ms xs ys → i ≡ length xs → drop i ms ≡ ys
cut_back p ms xs ys i cut e = rw (cut.whole, e) (drop_at xs ys (length xs) refl)
