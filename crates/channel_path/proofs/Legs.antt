-- Legs among the moves of a walk.
use Rattle.std.proofs.Common.{suc, zero, ◌≡◌, ◌∙◌, ap, sym, subst, inl, inr, ℕ, ◌+◌, ◌-◌, ◌<◌, ◌≤◌, List, [], ◌∷◌, ◌++◌, length, take, drop, get_or, arith}
use Rattle.std.proofs.lemmas.Bool.{cases_eq}
use Rattle.std.proofs.lemmas.List.{get_or_default, get_or-take, get_or-drop, length-take-le, length-drop, take-append-drop, take-take, drop-take, drop-drop}
use Rattle.channel_path.specs.declared.moves.Move.{Move}
use Rattle.channel_path.specs.declared.moves.Move.TheVariants.{Letter, Gap}
use Rattle.channel_path.specs.Legs.{AreApart, IsLeg, AreParted, IsGap, AreGaps}

-- from place a up to b each move is apart from the next
abbrev pub InLeg : List Move → ℕ → ℕ → Type 0
InLeg xs a b = (k : ℕ) (d : Move) → a ≤ k → k + 1 < b → AreApart (get_or xs k d) (get_or xs (k + 1) d)

pub one_move : (xs : List Move) (a b : ℕ) → b ≤ a + 1 → InLeg xs a b
one_move xs a b h k d le lt = absurd (omega arith)

apart_at : (xs : List Move) (i j : ℕ) (d e : Move) → i < length xs → j < length xs → AreApart (get_or xs i d) (get_or xs j d) → AreApart (get_or xs i e) (get_or xs j e)
apart_at xs i j d e hi hj p =
    subst (λ (x : Move). AreApart x (get_or xs j e)) (get_or_default xs i d e hi) (subst (λ (y : Move). AreApart (get_or xs i d) y) (get_or_default xs j d e hj) p)

-- two moves that aren't apart part legs
pub parted : (xs : List Move) (n : ℕ) (d : Move) → 0 < n → n < length xs → (AreApart (get_or xs (n - 1) d) (get_or xs n d) → ⊥) → AreParted xs n
parted xs n d some h touch e p = touch (apart_at xs (n - 1) n e d (omega arith) h p)

pub length_slice : (xs : List Move) (a b : ℕ) → b ≤ length xs → length (take (b - a) (drop a xs)) ≡ b - a
length_slice xs a b h = let d = length-drop a xs in length-take-le (b - a) (drop a xs) (omega arith)

get_slice : (xs : List Move) (a b k : ℕ) (d : Move) → k < b - a → get_or (take (b - a) (drop a xs)) k d ≡ get_or xs (a + k) d
get_slice xs a b k d lt = get_or-take (b - a) (drop a xs) k d lt ∙ get_or-drop a xs k d

pub slice_leg : (xs : List Move) (a b : ℕ) → b ≤ length xs → IsLeg (take (b - a) (drop a xs)) → InLeg xs a b
slice_leg xs a b h leg k d le lt =
    let n = length_slice xs a b h in
    let p = leg (k - a) d (omega arith) in
    let one : a + (k - a) ≡ k = omega arith in
    let two : a + ((k - a) + 1) ≡ k + 1 = omega arith in
    rw two at (rw one at (rw (get_slice xs a b (k - a) d (omega arith), get_slice xs a b ((k - a) + 1) d (omega arith)) at p))

apart_first : (x y : Move) → AreApart x y → IsGap x
apart_first (Letter at l r) y p = absurd p
apart_first (Gap f t) y p = tt

apart_second : (x y : Move) → AreApart x y → IsGap y
apart_second (Letter at l r) y p = absurd p
apart_second (Gap f t) (Letter at l r) p = absurd p
apart_second (Gap f t) (Gap g u) p = tt

-- from place a up to b there are gaps alone
abbrev pub InGaps : List Move → ℕ → ℕ → Type 0
InGaps xs a b = (k : ℕ) (d : Move) → a ≤ k → k < b → IsGap (get_or xs k d)

-- after the first move of a leg
pub gaps_after : (xs : List Move) (a b : ℕ) → InLeg xs a b → InGaps xs (a + 1) b
gaps_after xs a b leg k d le lt =
    let at : (k - 1) + 1 ≡ k = omega arith in
    apart_second (get_or xs (k - 1) d) (get_or xs k d) (rw at at (leg (k - 1) d (omega arith) (omega arith)))

-- a leg of more than one move has no letter
pub leg_gaps : (xs : List Move) → 2 ≤ length xs → IsLeg xs → AreGaps xs
leg_gaps xs many leg k d lt = elim (cases_eq (k + 1) (length xs)) [
  | inl last ↦
      let at : (k - 1) + 1 ≡ k = omega arith in
      apart_second (get_or xs (k - 1) d) (get_or xs k d) (rw at at (leg (k - 1) d (omega arith)))
  | inr ne ↦ apart_first (get_or xs k d) (get_or xs (k + 1) d) (leg k d (omega arith))
]

-- a leg whose first move is a gap has no letter
pub gaps_leg : (xs : List Move) (f t : ℕ) → IsLeg xs → ((d : Move) → get_or xs 0 d ≡ Gap f t) → AreGaps xs
gaps_leg [] f t leg first k d lt = absurd (omega arith)
gaps_leg (x ∷ []) f t leg first zero d lt = rw (first d) tt
gaps_leg (x ∷ []) f t leg first (suc k) d lt = absurd (omega arith)
gaps_leg (x ∷ (y ∷ ys)) f t leg first k d lt = leg_gaps (x ∷ (y ∷ ys)) (omega arith) leg k d lt

pub gaps_slice : (xs : List Move) (a b f t : ℕ) (d : Move) → a < b → b ≤ length xs → get_or xs a d ≡ Gap f t → IsLeg (take (b - a) (drop a xs)) → AreGaps (take (b - a) (drop a xs))
gaps_slice xs a b f t d lt h gap leg =
    let at : a + 0 ≡ a = omega arith in
    gaps_leg (take (b - a) (drop a xs)) f t leg (λ e. get_slice xs a b 0 e (omega arith) ∙ (ap (λ n. get_or xs n e) at ∙ (get_or_default xs a e d (omega arith) ∙ gap)))

-- the moves up to a place, and those from it to another
pub slice_join : (xs : List Move) (a b : ℕ) → a ≤ b → take b xs ≡ take a xs ++ take (b - a) (drop a xs)
slice_join xs a b le =
    let e : a + (b - a) ≡ b = omega arith in
    let front : take a (take b xs) ≡ take a xs = take-take a b xs le in
    let back : drop a (take b xs) ≡ take (b - a) (drop a xs) = rw e at (drop-take a (b - a) xs) in
    sym (rw (front, back) at (take-append-drop a (take b xs)))

-- what is left of a slice from a place within it is a slice
pub slice_end : (xs : List Move) (a b j : ℕ) → a ≤ j → j ≤ b → drop (j - a) (take (b - a) (drop a xs)) ≡ take (b - j) (drop j xs)
slice_end xs a b j le h =
    let e : (j - a) + (b - j) ≡ b - a = omega arith in
    let one : a + (j - a) ≡ j = omega arith in
    rw e at (drop-take (j - a) (b - j) (drop a xs)) ∙ ap (take (b - j)) (drop-drop (j - a) a xs ∙ ap (λ n. drop n xs) one)

-- the moves from a place on are those of a slice and those after it
pub rest_join : (xs : List Move) (j b : ℕ) → j ≤ b → drop j xs ≡ take (b - j) (drop j xs) ++ drop b xs
rest_join xs j b h =
    let two : j + (b - j) ≡ b = omega arith in
    let after : drop (b - j) (drop j xs) ≡ drop b xs = drop-drop (b - j) j xs ∙ ap (λ n. drop n xs) two in
    sym (rw after at (take-append-drop (b - j) (drop j xs)))
