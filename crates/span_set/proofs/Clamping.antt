-- The ranges with a limit in place of the tenths below it.
use Rattle.std.proofs.Common.{zero, suc, drop, drop-cons, add-one, get_or, length, ◌<◌, ◌≤◌, ◌+◌, ◌≡◌, refl, ◌⊎◌, inl, inr, ℕ, ℤ, pos, negsuc, ◌^◌, ◌+ℤ◌, ◌<ℤ◌, ◌≤ℤ◌, List, [], ◌∷◌, arith, ◌↔◌, take}
use Rattle.std.proofs.lemmas.Int.{ints}
use Rattle.std.proofs.lemmas.Grind.{common_steps}
use Rattle.span_set.specs.declared.set.Span.{Span}
use Rattle.span_set.specs.Changes.{span, AllEnd, squash}
use Rattle.span_set.specs.Spans.{Member, Above, AreRanges, BeginsBelow}
use Rattle.span_set.proofs.Sets.{int_cases, over, not_over, above_trans, member_above, least_first}

pub squash_above : (low limit : ℤ) (ss : List Span) → low <ℤ limit → limit ≤ℤ pos (2 ^ 40) → Above low ss → Above low (squash limit ss)
squash_above low limit [] a b p = (a, omega (arith, ints), omega (arith, ints), tt)
squash_above low limit (s ∷ ss) a b p =
    elim (int_cases limit s.to) as (λ _. Above low (squash limit (s ∷ ss))) [
      | inl x ↦ elim (int_cases (limit +ℤ pos 1) s.from) as (λ _. Above low (squash limit (s ∷ ss))) [
        | inl y ↦ rw (x.0, y.0) (a, omega (arith, ints), omega (arith, ints), (y.1, p.1, p.2, p.3))
        | inr y ↦ rw (x.0, y.0) (a, x.1, p.2, p.3)
      ]
      | inr x ↦ rw x.0 (squash_above low limit ss a b (above_trans low s.to ss (omega (arith, ints)) p.3))
    ]

pub squash_members : (low limit e : ℤ) (ss : List Span) → Above low ss → Member (squash limit ss) e ↔ ((e ≡ limit) ⊎ (Member ss e × (limit ≤ℤ e)))
squash_members low limit e [] p = grind (arith, ints)
squash_members low limit e (s ∷ ss) p =
    let i = squash_members s.to limit e ss p.3 in
    let j = member_above s.to e ss p.3 in
    elim (int_cases limit s.to) as (λ _. Member (squash limit (s ∷ ss)) e ↔ ((e ≡ limit) ⊎ (Member (s ∷ ss) e × (limit ≤ℤ e)))) [
      | inl x ↦ elim (int_cases (limit +ℤ pos 1) s.from) as (λ _. Member (squash limit (s ∷ ss)) e ↔ ((e ≡ limit) ⊎ (Member (s ∷ ss) e × (limit ≤ℤ e)))) [
        | inl y ↦ rw (x.0, y.0) (grind (arith, ints))
        | inr y ↦ rw (x.0, y.0) (grind (arith, ints))
      ]
      | inr x ↦ rw x.0 (grind (arith, ints))
    ]

squash_cons : (limit : ℤ) (s : Span) (ss : List Span) → limit <ℤ s.to → s.from ≤ℤ (limit +ℤ pos 1) → squash limit (s ∷ ss) ≡ span limit s.to ∷ ss
squash_cons limit s ss a b = rw (not_over limit s.to a, over (limit +ℤ pos 1) s.from b) refl

squash_apart : (limit : ℤ) (ss : List Span) → ((s : Span) (rest : List Span) → ss ≡ s ∷ rest → (limit +ℤ pos 1) <ℤ s.from × (limit <ℤ s.to)) → squash limit ss ≡ span limit (limit +ℤ pos 1) ∷ ss
squash_apart limit [] h = refl
squash_apart limit (s ∷ ss) h = let x = h s ss refl in rw (not_over limit s.to x.1, not_over (limit +ℤ pos 1) s.from x.0) refl

pub squash_begin : (limit : ℤ) (ss : List Span) (n : ℕ) (d : Span) → n < length ss → limit <ℤ (get_or ss n d).to → (get_or ss n d).from ≤ℤ (limit +ℤ pos 1) → squash limit (drop n ss) ≡ span limit (get_or ss n d).to ∷ drop (n + 1) ss
squash_begin limit ss n d h a b = rw (add-one, drop-cons ss n d h) (squash_cons limit (get_or ss n d) (drop (suc n) ss) a b)

first_of_drop : (ss : List Span) (n : ℕ) (s : Span) (rest : List Span) → drop n ss ≡ s ∷ rest → (n < length ss) × (get_or ss n s ≡ s)
first_of_drop ss n s rest e = (grind (arith, common_steps), grind (arith, common_steps))

pub squash_gap : (limit : ℤ) (ss : List Span) (n : ℕ) → (n < length ss → (d : Span) → (limit <ℤ (get_or ss n d).to) × ((limit +ℤ pos 1) <ℤ (get_or ss n d).from)) → squash limit (drop n ss) ≡ span limit (limit +ℤ pos 1) ∷ drop n ss
squash_gap limit ss n h = squash_apart limit (drop n ss) (λ s rest e. let f = first_of_drop ss n s rest e in let k = rw f.1 at (h f.0 s) in (k.1, k.0))

pub begins_below : (low limit : ℤ) (ss : List Span) → Above low ss → BeginsBelow limit ss ↔ ((e : ℤ) × Member ss e × (e <ℤ limit))
begins_below low limit [] p = (λ h. absurd h, λ (e, m, l). absurd m)
begins_below low limit (s ∷ ss) p = (λ h. (s.from, inl (omega (arith, ints), p.1), h), λ (e, m, l). let i = least_first low s ss p in let j = i.1 e m in omega (arith, ints))

-- where the first range begins below the limit, the squashed ranges are a set's, and it is the one that is meant
pub clamp_ranges : (limit : ℤ) (ss : List Span) → negsuc (2 ^ 40) <ℤ limit → limit ≤ℤ pos (2 ^ 40) → AreRanges ss → AreRanges (squash limit ss)
clamp_ranges limit ss a b p = squash_above (negsuc (2 ^ 40)) limit ss a b p

pub clamp_some : (limit : ℤ) (ss : List Span) → AreRanges ss → BeginsBelow limit ss → (e : ℤ) → Member (squash limit ss) e ↔ ((Member ss e × (limit ≤ℤ e)) ⊎ ((e ≡ limit) × BeginsBelow limit ss))
clamp_some limit ss p b e = let m = squash_members (negsuc (2 ^ 40)) limit e ss p in (
  λ h. elim (m.0 h) [ inl x ↦ inr (x, b) | inr x ↦ inl x ],
  λ h. elim h [ inl x ↦ m.1 (inr x) | inr x ↦ m.1 (inl x.0) ],
)

pub clamp_none : (limit : ℤ) (ss : List Span) → AreRanges ss → (BeginsBelow limit ss → ⊥) → (e : ℤ) → Member ss e ↔ ((Member ss e × (limit ≤ℤ e)) ⊎ ((e ≡ limit) × BeginsBelow limit ss))
clamp_none limit ss p n e = let b = begins_below (negsuc (2 ^ 40)) limit ss p in (
  λ m. elim (int_cases e limit) [ inl x ↦ absurd (n (b.1 (e, m, x.1))) | inr x ↦ inl (m, x.1) ],
  λ h. elim h [ inl x ↦ x.0 | inr x ↦ absurd (n x.1) ],
)

pub passed_some : (limit : ℤ) (ss : List Span) (n : ℕ) → BeginsBelow limit ss → (n < length ss → (d : Span) → (limit +ℤ pos 1) <ℤ (get_or ss n d).from) → 0 < n
passed_some limit [] n b h = absurd b
passed_some limit (s ∷ ss) zero b h = let k = h (omega arith) s in absurd (omega (arith, ints))
passed_some limit (s ∷ ss) (suc n) b h = omega arith

pub clamp_members : (limit : ℤ) (ss ns : List Span) → AreRanges ss → ((e : ℤ) → Member ns e ↔ ((Member ss e × (limit ≤ℤ e)) ⊎ ((e ≡ limit) × BeginsBelow limit ss))) → (e : ℤ) → Member ns e ↔ ((Member ss e × (limit ≤ℤ e)) ⊎ ((e ≡ limit) × ((x : ℤ) × Member ss x × (x <ℤ limit))))
clamp_members limit ss ns p h e = let b = begins_below (negsuc (2 ^ 40)) limit ss p in (
  (λ m. elim ((h e).0 m) [ inl x ↦ inl x | inr (q, y) ↦ inr (q, b.0 y) ]),
  λ m. (h e).1 (elim m [ inl x ↦ inl x | inr (q, y) ↦ inr (q, b.1 y) ]),
)

-- ranges that end at the limit or before are passed over
pub squash_split : (limit : ℤ) (ss : List Span) (n : ℕ) → n ≤ length ss → AllEnd limit (take n ss) → squash limit (drop n ss) ≡ squash limit ss
squash_split limit ss zero w a = refl
squash_split limit [] (suc n) w a = absurd (omega arith)
squash_split limit (s ∷ ss) (suc n) w a = rw (over limit s.to a.0) (squash_split limit ss n (omega arith) a.1)
