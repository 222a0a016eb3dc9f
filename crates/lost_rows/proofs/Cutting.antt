-- A walk that is cut in two at a tenth between two moves.
use Rattle.std.proofs.Common.{suc, zero, ◌≡◌, refl, subst, ◌⊎◌, inl, inr, ◌↔◌, ℕ, ◌+◌, ◌≤◌, ℤ, pos, ◌<ℤ◌, ◌≤ℤ◌, List, [], ◌∷◌, ◌++◌, arith}
use Rattle.std.proofs.lemmas.Int.{ints}
use Rattle.span_set.proofs.Sets.{int_cases}
use Rattle.colour_machine.specs.Rules.{Rules}
use Rattle.reach.specs.Runs.{State}
use Rattle.channel_path.specs.declared.moves.Move.{Move}
use Rattle.channel_path.specs.Walks.{limit_before, limit_after, InOrder}
use Rattle.channel_path.specs.Places.{limit_of}
use Rattle.channel_path.proofs.Moving.{taken_early}
use Rattle.lost_rows.specs.declared.asked.Asked.{Asked}
use Rattle.lost_rows.specs.Cuts.{last_still}
use Rattle.lost_rows.specs.Stills.{LostRows}
use Rattle.lost_rows.specs.Walks.{end_of, nothing_asked, still_after, LostWalk, WalkedFrom, WalkedTo}
use Rattle.lost_rows.proofs.Credits.{rows_before, rows_wide}

before_or_not : (a b : ℤ) → (a <ℤ b) ⊎ (b ≤ℤ a)
before_or_not a b = elim (int_cases a b) [ inl x ↦ inl x.1 | inr x ↦ inr x.1 ]

-- a still that is cut at tenth p is two: of its lost rows the first are in the one, the others in the other
pub rows_cut : (m : Rules) (r : Asked) (a p b : ℤ) (j : ℕ) (s u : State) → a ≤ℤ p → p ≤ℤ b → LostRows m r a b j s u → (i k : ℕ) × (i + k ≡ j) × ((v : State) × LostRows m r a p i s v × LostRows m r p b k v u)
rows_cut m r a p b zero s u low high e = (0, 0, refl, (s, refl, e))
rows_cut m r a p b (suc j) s u low high (t, ge, lt, (v, w, rest)) = elim (before_or_not t p) [
  | inl less ↦
      let (i, k, e, (x, rows, tail)) = rows_cut m r t p b j v u (omega (arith, ints)) high rest in
      (suc i, k, omega arith, (x, (t, ge, less, (v, w, rows)), tail))
  | inr late ↦ (0, suc j, omega arith, (s, refl, (t, late, lt, (v, w, rest))))
]

pub rows_join : (m : Rules) (r : Asked) (a p b : ℤ) (i k n : ℕ) (s v u : State) → a ≤ℤ p → p ≤ℤ b → i + k ≡ n → LostRows m r a p i s v → LostRows m r p b k v u → LostRows m r a b n s u
rows_join m r a p b zero k n s v u low high e rows tail =
    let same : k ≡ n = omega arith in
    subst (λ (z : ℕ). LostRows m r a b z s u) same (rows_wide m r a b p k s u low (subst (λ (x : State). LostRows m r p b k x u) rows tail))
rows_join m r a p b (suc i) k zero s v u low high e rows tail = absurd (omega arith)
rows_join m r a p b (suc i) k (suc n) s v u low high e (t, ge, lt, (x, w, rest)) tail = (t, ge, (omega (arith, ints)), (x, w, rows_join m r t p b i k n x v u (omega (arith, ints)) high (omega arith) rest tail))

-- the first still of moves
first_cut : (m : Rules) (r : Asked) (a p : ℕ) (ys : List Move) (b j : ℕ) (s u : State) → a ≤ p → p ≤ end_of ys b → LostWalk m r a ys b j s u → (i k : ℕ) × (i + k ≡ j) × ((v : State) × LostRows m r (pos a) (pos p) i s v × LostWalk m r p ys b k v u)
first_cut m r a p [] b j s u low high rows = rows_cut m r (pos a) (pos p) (pos b) j s u (omega (arith, ints)) (omega (arith, ints)) rows
first_cut m r a p (y ∷ ys) b j s u low high (g, f, e, (v, w, rows, tk, walk)) =
    let (i, k, d, (x, one, two)) = rows_cut m r (pos a) (pos p) (pos (limit_before y)) g s v (omega (arith, ints)) (omega (arith, ints)) rows in
    (i, k + f, omega arith, (x, one, (k, f, refl, (v, w, two, tk, walk))))

first_join : (m : Rules) (r : Asked) (a p : ℕ) (ys : List Move) (b i k n : ℕ) (s v u : State) → a ≤ p → p ≤ end_of ys b → i + k ≡ n → LostRows m r (pos a) (pos p) i s v → LostWalk m r p ys b k v u → LostWalk m r a ys b n s u
first_join m r a p [] b i k n s v u low high e rows tail = rows_join m r (pos a) (pos p) (pos b) i k n s v u (omega (arith, ints)) (omega (arith, ints)) e rows tail
first_join m r a p (y ∷ ys) b i k n s v u low high e one (g, f, d, (x, w, two, tk, walk)) = (i + g, f, omega arith, (x, w, rows_join m r (pos a) (pos p) (pos (limit_before y)) i g (i + g) s v x (omega (arith, ints)) (omega (arith, ints)) refl one two, tk, walk))

-- a walk over two lists is one over the first and then one over the second, cut at any tenth of the still between them
pub walk_cut : (m : Rules) (r : Asked) (a : ℕ) (xs : List Move) (p : ℕ) (ys : List Move) (b j : ℕ) (s u : State) → last_still a xs ≤ p → p ≤ end_of ys b → LostWalk m r a (xs ++ ys) b j s u → (i k : ℕ) × (i + k ≡ j) × ((v : State) × LostWalk m r a xs p i s v × LostWalk m r p ys b k v u)
walk_cut m r a [] p ys b j s u low high walk = first_cut m r a p ys b j s u low high walk
walk_cut m r a (x ∷ xs) p ys b j s u low high (g, f, e, (v, w, rows, tk, walk)) =
    let (i, k, d, (z, one, two)) = walk_cut m r (still_after x) xs p ys b f w u low high walk in
    (g + i, k, omega arith, (z, (g, i, refl, (v, w, rows, tk, one)), two))

pub walk_joined : (m : Rules) (r : Asked) (a : ℕ) (xs : List Move) (p : ℕ) (ys : List Move) (b i k n : ℕ) (s v u : State) → last_still a xs ≤ p → p ≤ end_of ys b → i + k ≡ n → LostWalk m r a xs p i s v → LostWalk m r p ys b k v u → LostWalk m r a (xs ++ ys) b n s u
walk_joined m r a [] p ys b i k n s v u low high e one two = first_join m r a p ys b i k n s v u low high e one two
walk_joined m r a (x ∷ xs) p ys b i k n s v u low high e (g, f, d, (z, w, rows, tk, one)) two = (g, f + k, omega arith, (z, w, rows, tk, walk_joined m r (still_after x) xs p ys b f k (f + k) w v u low high refl one two))

-- so of states by how many rows were lost before them
pub walked_cut : (m : Rules) (r : Asked) (P : ℕ → State → Type 0) (a : ℕ) (xs : List Move) (p : ℕ) (ys : List Move) (b j : ℕ) (u : State) → last_still a xs ≤ p → p ≤ end_of ys b → WalkedFrom m r P a (xs ++ ys) b j u ↔ WalkedFrom m r (λ i v. WalkedFrom m r P a xs p i v) p ys b j u
walked_cut m r P a xs p ys b j u low high = (
  λ (i, k, e, (s, h, walk)).
      let (c, d, f, (v, one, two)) = walk_cut m r a xs p ys b k s u low high walk in
      (i + c, d, omega arith, (v, (i, c, refl, (s, h, one)), two)),
  λ (n, d, e, (v, (i, c, f, (s, h, one)), two)). (i, c + d, omega arith, (s, h, walk_joined m r a xs p ys b c d (c + d) s v u low high refl one two)),
)

-- and of states by how many are lost after them
pub walked_to_cut : (m : Rules) (Q : ℕ → State → Type 0) (a : ℕ) (xs : List Move) (p : ℕ) (ys : List Move) (b j : ℕ) (s : State) → last_still a xs ≤ p → p ≤ end_of ys b → WalkedTo m Q a (xs ++ ys) b j s ↔ WalkedTo m (λ k v. WalkedTo m Q p ys b k v) a xs p j s
walked_to_cut m Q a xs p ys b j s low high = (
  λ (i, k, e, (u, q, walk)).
      let (c, d, f, (v, one, two)) = walk_cut m nothing_asked a xs p ys b k s u low high walk in
      (i + d, c, omega arith, (v, (i, d, refl, (u, q, two)), one)),
  λ (n, c, e, (v, (i, d, f, (u, q, two)), one)). (i, c + d, omega arith, (u, q, walk_joined m nothing_asked a xs p ys b c d (c + d) s v u low high refl one two)),
)

-- a walk from what is the same leads to the same, up to three rows
pub walked_same : (m : Rules) (r : Asked) (P Q : ℕ → State → Type 0) (a : ℕ) (xs : List Move) (b : ℕ) → ((j : ℕ) (u : State) → j ≤ 3 → P j u ↔ Q j u) → (j : ℕ) (u : State) → j ≤ 3 → WalkedFrom m r P a xs b j u ↔ WalkedFrom m r Q a xs b j u
walked_same m r P Q a xs b same j u few = (
  λ (i, k, e, (s, p, walk)). (i, k, e, (s, (same i s (omega arith)).0 p, walk)),
  λ (i, k, e, (s, q, walk)). (i, k, e, (s, (same i s (omega arith)).1 q, walk)),
)

-- no state that a walk leads to is entered after its end
pub lost_early : (m : Rules) (r : Asked) (low a : ℕ) (xs : List Move) (b j : ℕ) (s u : State) → InOrder m low xs → limit_of low xs ≤ b → s.entry <ℤ pos low → LostWalk m r a xs b j s u → u.entry <ℤ pos b
lost_early m r low a [] b j s u o le early rows = rows_before m r (pos a) (pos b) j s u rows (omega (arith, ints))
lost_early m r low a (x ∷ xs) b j s u o le early (i, k, e, (v, w, rows, tk, walk)) =
    let first = o.0 in
    let before = rows_before m r (pos a) (pos (limit_before x)) i s v rows (omega (arith, ints)) in
    lost_early m r (limit_after x) (still_after x) xs b k w u o.2 le (taken_early m x v w tk before) walk

-- a walk backward to what is the same, up to three rows, comes from the same states, where they are entered in time
pub walked_to_same : (m : Rules) (P Q : ℕ → State → Type 0) (low a : ℕ) (xs : List Move) (b : ℕ) → InOrder m low xs → limit_of low xs ≤ b → ((j : ℕ) (u : State) → j ≤ 3 → u.entry <ℤ pos b → P j u ↔ Q j u) → (j : ℕ) (s : State) → j ≤ 3 → s.entry <ℤ pos low → WalkedTo m P a xs b j s ↔ WalkedTo m Q a xs b j s
walked_to_same m P Q low a xs b o le same j s few early = (
  λ (i, k, e, (u, p, walk)). (i, k, e, (u, (same i u (omega arith) (lost_early m nothing_asked low a xs b k s u o le early walk)).0 p, walk)),
  λ (i, k, e, (u, q, walk)). (i, k, e, (u, (same i u (omega arith) (lost_early m nothing_asked low a xs b k s u o le early walk)).1 q, walk)),
)
