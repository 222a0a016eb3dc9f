-- What each channel starts and ends with, channel by channel.
use Rattle.std.proofs.Common.{suc, ◌≡◌, refl, inl, inr, ◌↔◌, ℕ, ◌+◌, ◌<◌, ℤ, negsuc, List, [], ◌∷◌, ◌++◌, length, get_or, arith, ◌<ℤ◌, Option}
use Rattle.std.proofs.lemmas.Int.{ints}
use Rattle.std.proofs.lemmas.Bool.{cases_eq}
use Rattle.std.proofs.lemmas.Grind.{common_steps}
use Rattle.span_set.specs.declared.set.Span.{Span}
use Rattle.channel_tables.specs.Spec.{rules_of}
use Rattle.channel_tables.proofs.Machines.{spec_machine}
use Rattle.channel_tables.specs.Spec.{IsSpec}
use Rattle.reach.specs.Runs.{State, state}
use Rattle.reach.specs.Past.{Holds}
use Rattle.channel_tables.specs.declared.spec.Spec.{Spec}
use Rattle.reach.specs.Ahead.{Admits}
use Rattle.board.specs.Logs.{no_spec}
use Rattle.board.specs.Hours.{IsStart, AreStarts, AreEnds}
use Rattle.board.specs.Stops.{rules_at}

-- a machine has some state before the window
pub start_some : (spec : Spec) → IsSpec spec → (past : List (List Span)) → ((s : State) → Holds past s ↔ IsStart (rules_of spec) s) → (s : State) × Holds past s
start_some spec fits past states = let one = (spec_machine spec fits).some_colour in (state 0 (negsuc 0), (states (state 0 (negsuc 0))).1 (omega arith, omega (arith, ints), omega (arith, ints)))

pub start_more : (specs : List Spec) (n : ℕ) (spec : Spec) (pasts : List (List (List Span))) (past : List (List Span)) → IsSpec spec → ((d : Spec) → spec ≡ get_or specs n d) → length pasts ≡ n → length past ≡ (rules_of spec).colours → ((s : State) → Holds past s ↔ IsStart (rules_of spec) s) → ((i : ℕ) (d : Spec) → i < n → (length (get_or pasts i []) ≡ (rules_at specs i d).colours) × ((s : State) × Holds (get_or pasts i []) s)) → (i : ℕ) (d : Spec) → i < n + 1 → (length (get_or (pasts ++ past ∷ []) i []) ≡ (rules_at specs i d).colours) × ((s : State) × Holds (get_or (pasts ++ past ∷ []) i []) s)
start_more specs n spec pasts past fits is len colours states old i d lt = elim (cases_eq i n) [
  | inl e ↦
      let at : get_or (pasts ++ past ∷ []) i [] ≡ past = grind (arith, common_steps) in
      rw (at, e, ← is d) (colours, start_some spec fits past states)
  | inr ne ↦ let below : i < n = omega arith in let b2 : i < length pasts = omega arith in let at : get_or (pasts ++ past ∷ []) i [] ≡ get_or pasts i [] = grind (arith, common_steps) in rw at (old i d below)
]

pub starts_more : (specs : List Spec) (n : ℕ) (spec : Spec) (pasts : List (List (List Span))) (past : List (List Span)) → spec ≡ get_or specs n no_spec → length pasts ≡ n → ((s : State) → Holds past s ↔ IsStart (rules_of spec) s) → AreStarts specs n pasts → AreStarts specs (n + 1) (pasts ++ past ∷ [])
starts_more specs n spec pasts past is len states old i lt s = elim (cases_eq i n) [
  | inl e ↦ let at : get_or (pasts ++ past ∷ []) i [] ≡ past = grind (arith, common_steps) in rw (at, e, ← is) (states s)
  | inr ne ↦ let below : i < n = omega arith in let b2 : i < length pasts = omega arith in let at : get_or (pasts ++ past ∷ []) i [] ≡ get_or pasts i [] = grind (arith, common_steps) in rw at (old i below s)
]

pub ends_more : (specs : List Spec) (point : ℤ) (n : ℕ) (spec : Spec) (aheads : List (List (Option ℤ))) (one : List (Option ℤ)) → spec ≡ get_or specs n no_spec → length aheads ≡ n → ((s : State) → Admits one s ↔ ((s.colour < (rules_of spec).colours) × (s.entry <ℤ point))) → AreEnds specs point n aheads → AreEnds specs point (n + 1) (aheads ++ one ∷ [])
ends_more specs point n spec aheads one is len states old i lt s = elim (cases_eq i n) [
  | inl e ↦ let at : get_or (aheads ++ one ∷ []) i [] ≡ one = grind (arith, common_steps) in rw (at, e, ← is) (states s)
  | inr ne ↦ let below : i < n = omega arith in let b2 : i < length aheads = omega arith in let at : get_or (aheads ++ one ∷ []) i [] ≡ get_or aheads i [] = grind (arith, common_steps) in rw at (old i below s)
]

-- the colours of one Ahead more
pub widths_more : (specs : List Spec) (n : ℕ) (spec : Spec) (aheads : List (List (Option ℤ))) (one : List (Option ℤ)) → ((d : Spec) → spec ≡ get_or specs n d) → length aheads ≡ n → length one ≡ (rules_of spec).colours → ((i : ℕ) (d : Spec) → i < n → length (get_or aheads i []) ≡ (rules_at specs i d).colours) → (i : ℕ) (d : Spec) → i < n + 1 → length (get_or (aheads ++ one ∷ []) i []) ≡ (rules_at specs i d).colours
widths_more specs n spec aheads one is len colours old i d lt = elim (cases_eq i n) [
  | inl e ↦ let at : get_or (aheads ++ one ∷ []) i [] ≡ one = grind (arith, common_steps) in rw (at, e, ← is d) colours
  | inr ne ↦ let below : i < n = omega arith in let b2 : i < length aheads = omega arith in let at : get_or (aheads ++ one ∷ []) i [] ≡ get_or aheads i [] = grind (arith, common_steps) in rw at (old i d below)
]

-- lists of copies are equal
pub same_sets : (a b : List (List (List Span))) → length a ≡ length b → ((i : ℕ) → i < length a → get_or a i [] ≡ get_or b i []) → a ≡ b
same_sets [] [] l h = refl
same_sets [] (y ∷ ys) l h = absurd (omega arith)
same_sets (x ∷ xs) [] l h = absurd (omega arith)
same_sets (x ∷ xs) (y ∷ ys) l h = let head : x ≡ y = h 0 (omega arith) in let tail : xs ≡ ys = same_sets xs ys (omega arith) (λ k lt. h (suc k) (omega arith)) in cc

pub same_latest : (a b : List (List (Option ℤ))) → length a ≡ length b → ((i : ℕ) → i < length a → get_or a i [] ≡ get_or b i []) → a ≡ b
same_latest [] [] l h = refl
same_latest [] (y ∷ ys) l h = absurd (omega arith)
same_latest (x ∷ xs) [] l h = absurd (omega arith)
same_latest (x ∷ xs) (y ∷ ys) l h = let head : x ≡ y = h 0 (omega arith) in let tail : xs ≡ ys = same_latest xs ys (omega arith) (λ k lt. h (suc k) (omega arith)) in cc
