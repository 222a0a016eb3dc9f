-- The ranges with some tenths taken out.
use Rattle.std.proofs.Common.{set, zero, suc, drop, drop-cons, get_or, length, ◌<◌, ◌≤◌, ◌+◌, append_assoc, ◌∙◌, sym, ◌≡◌, refl, ap, ◌⊎◌, inl, inr, ℕ, ℤ, negsuc, ◌^◌, ◌<ℤ◌, ◌≤ℤ◌, List, [], ◌∷◌, ◌++◌, arith, ◌↔◌, take}
use Rattle.std.specs.Int.{int_max}
use Rattle.std.proofs.lemmas.Int.{ints, clamps}
use Rattle.span_set.specs.declared.set.Span.{Span}
use Rattle.span_set.specs.Changes.{span, AllEnd, part_before, from_on, cut_to, cut, keep_to}
use Rattle.span_set.specs.Spans.{Within, Member, Above, AreRanges}
use Rattle.std.proofs.Math.Seq.{take-append_seam, drop-append_seam}
use Rattle.std.proofs.lemmas.List.{drop-drop, length-take-le, length-append, take_more_set}
use Rattle.span_set.proofs.Sets.{int_cases, over, not_over, member_above, same_ranges}

from_on_above : (low m t : ℤ) (s : Span) (ss : List Span) → (low ≤ℤ m) ⊎ (low <ℤ t) → t <ℤ s.to → Above m (s ∷ ss) → Above low (from_on t (s ∷ ss))
from_on_above low m t s ss h a p = elim h as (λ _. Above low (from_on t (s ∷ ss))) [
  | inl x ↦ (omega (arith, ints, clamps), omega (arith, ints, clamps), p.2, p.3)
  | inr x ↦ (omega (arith, ints, clamps), omega (arith, ints, clamps), p.2, p.3)
]

cut_to_above : (low m t : ℤ) (ss : List Span) → (low ≤ℤ m) ⊎ (low <ℤ t) → Above m ss → Above low (cut_to t ss)
cut_to_above low m t [] h p = tt
cut_to_above low m t (s ∷ ss) h p =
    elim (int_cases t s.to) as (λ _. Above low (cut_to t (s ∷ ss))) [
      | inl x ↦ rw x.0 (from_on_above low m t s ss h x.1 p)
      | inr x ↦ rw x.0 (cut_to_above low s.to t ss (elim h [ inl y ↦ inl (omega (arith, ints)) | inr y ↦ inr y ]) p.3)
    ]

cut_to_members : (low t e : ℤ) (ss : List Span) → Above low ss → Member (cut_to t ss) e ↔ (Member ss e × (t ≤ℤ e))
cut_to_members low t e [] p = grind arith
cut_to_members low t e (s ∷ ss) p =
    let j = member_above s.to e ss p.3 in
    elim (int_cases t s.to) as (λ _. Member (cut_to t (s ∷ ss)) e ↔ (Member (s ∷ ss) e × (t ≤ℤ e))) [
      | inl x ↦ rw x.0 (grind (arith, ints, clamps))
      | inr x ↦ rw x.0 (let i = cut_to_members s.to t e ss p.3 in grind (arith, ints))
    ]

here_above : (low f t : ℤ) (s : Span) (ss : List Span) → f <ℤ t → f <ℤ s.to → Above low (s ∷ ss) → Above low (part_before f (s ∷ ss) ++ cut_to t (s ∷ ss))
here_above low f t s ss h a p =
    elim (int_cases s.from f) as (λ _. Above low (part_before f (s ∷ ss) ++ cut_to t (s ∷ ss))) [
      | inl x ↦ rw x.0 (p.0, x.1, omega (arith, ints), cut_to_above f low t (s ∷ ss) (inr h) p)
      | inr x ↦ rw x.0 (cut_to_above low low t (s ∷ ss) (inl (omega (arith, ints))) p)
    ]

here_some : (f t e : ℤ) (s : Span) (M C : Type 0) → f <ℤ t → f <ℤ s.to → s.from <ℤ f → (M → s.to <ℤ e) → (C ↔ ((Within s e ⊎ M) × (t ≤ℤ e))) → (Within (span s.from f) e ⊎ C) ↔ ((Within s e ⊎ M) × (Within (span f t) e → ⊥))
here_some f t e s M C h a b j i = grind (arith, ints)

here_none : (f t e : ℤ) (s : Span) (M C : Type 0) → f <ℤ t → f <ℤ s.to → f ≤ℤ s.from → (M → s.to <ℤ e) → (C ↔ ((Within s e ⊎ M) × (t ≤ℤ e))) → C ↔ ((Within s e ⊎ M) × (Within (span f t) e → ⊥))
here_none f t e s M C h a b j i = grind (arith, ints)

here_members : (low f t e : ℤ) (s : Span) (ss : List Span) → f <ℤ t → f <ℤ s.to → Above low (s ∷ ss) → Member (part_before f (s ∷ ss) ++ cut_to t (s ∷ ss)) e ↔ (Member (s ∷ ss) e × (Within (span f t) e → ⊥))
here_members low f t e s ss h a p =
    let i = cut_to_members low t e (s ∷ ss) p in
    let j = member_above s.to e ss p.3 in
    elim (int_cases s.from f) as (λ _. Member (part_before f (s ∷ ss) ++ cut_to t (s ∷ ss)) e ↔ (Member (s ∷ ss) e × (Within (span f t) e → ⊥))) [
      | inl x ↦ rw x.0 (here_some f t e s (Member ss e) (Member (cut_to t (s ∷ ss)) e) h a x.1 j i)
      | inr x ↦ rw x.0 (here_none f t e s (Member ss e) (Member (cut_to t (s ∷ ss)) e) h a x.1 j i)
    ]

pub cut_above : (low f t : ℤ) (ss : List Span) → f <ℤ t → Above low ss → Above low (cut f t ss)
cut_above low f t [] h p = tt
cut_above low f t (s ∷ ss) h p =
    elim (int_cases f s.to) as (λ _. Above low (cut f t (s ∷ ss))) [
      | inl x ↦ rw x.0 (here_above low f t s ss h x.1 p)
      | inr x ↦ rw x.0 (p.0, p.1, p.2, cut_above s.to f t ss h p.3)
    ]

members_above : (low f t e : ℤ) (ss : List Span) → f <ℤ t → Above low ss → Member (cut f t ss) e ↔ (Member ss e × (Within (span f t) e → ⊥))
members_above low f t e [] h p = grind arith
members_above low f t e (s ∷ ss) h p =
    elim (int_cases f s.to) as (λ _. Member (cut f t (s ∷ ss)) e ↔ (Member (s ∷ ss) e × (Within (span f t) e → ⊥))) [
      | inl x ↦ rw x.0 (here_members low f t e s ss h x.1 p)
      | inr x ↦ rw x.0 (let i = members_above s.to f t e ss h p.3 in grind (arith, ints))
    ]

pub cut_members : (f t e : ℤ) (ss : List Span) → f <ℤ t → AreRanges ss → Member (cut f t ss) e ↔ (Member ss e × (Within (span f t) e → ⊥))
cut_members f t e ss h p = members_above (negsuc (2 ^ 40)) f t e ss h p

-- ranges that end at the tenth or before are passed over
cut_to_split : (t : ℤ) (ss : List Span) (n : ℕ) → n ≤ length ss → AllEnd t (take n ss) → (n < length ss → (d : Span) → t <ℤ (get_or ss n d).to) → cut_to t ss ≡ from_on t (drop n ss)
cut_to_split t [] zero w a b = refl
cut_to_split t [] (suc n) w a b = absurd (omega arith)
cut_to_split t (s ∷ ss) zero w a b = rw (not_over t s.to (b (omega arith) s)) refl
cut_to_split t (s ∷ ss) (suc n) w a b = rw (over t s.to a.0) (cut_to_split t ss n (omega arith) a.1 (λ h d. b (omega arith) d))

cut_split : (f t : ℤ) (ss : List Span) (n : ℕ) → n ≤ length ss → AllEnd f (take n ss) → (n < length ss → (d : Span) → f <ℤ (get_or ss n d).to) → cut f t ss ≡ take n ss ++ (part_before f (drop n ss) ++ cut_to t (drop n ss))
cut_split f t [] zero w a b = refl
cut_split f t [] (suc n) w a b = absurd (omega arith)
cut_split f t (s ∷ ss) zero w a b = rw (not_over f s.to (b (omega arith) s)) refl
cut_split f t (s ∷ ss) (suc n) w a b = rw (over f s.to a.0) (ap (λ r. s ∷ r) (cut_split f t ss n (omega arith) a.1 (λ h d. b (omega arith) d)))

-- the ranges that a cut passes over, those that it takes out, and the rest
pub cut_is : (f t : ℤ) (ss : List Span) (n k : ℕ) → n ≤ length ss → AllEnd f (take n ss) → (n < length ss → (d : Span) → f <ℤ (get_or ss n d).to) → k ≤ length (drop n ss) → AllEnd t (take k (drop n ss)) → (k < length (drop n ss) → (d : Span) → t <ℤ (get_or (drop n ss) k d).to) → cut f t ss ≡ (take n ss ++ part_before f (drop n ss)) ++ from_on t (drop (n + k) ss)
cut_is f t ss n k w a b v x y =
    cut_split f t ss n w a b ∙ (ap (λ r. take n ss ++ (part_before f (drop n ss) ++ r)) (cut_to_split t (drop n ss) k v x y ∙ ap (from_on t) (drop-drop k n ss)) ∙ sym (append_assoc (take n ss) (part_before f (drop n ss)) (from_on t (drop (n + k) ss))))

seam_take : (a : ℕ) (xs ys : List Span) → length xs ≡ a → take a (xs ++ ys) ≡ xs
seam_take a xs ys e = rw (← e) (take-append_seam xs ys)

seam_drop : (a : ℕ) (xs ys : List Span) → length xs ≡ a → drop a (xs ++ ys) ≡ ys
seam_drop a xs ys e = rw (← e) (drop-append_seam xs ys)

-- what is left after the middle is taken out and the rest is begun no earlier
pub removed_is : (t : ℤ) (one two three kept rest : List Span) (a b : ℕ) → a ≤ b → b ≤ length one → take a one ≡ kept → drop b one ≡ rest → two ≡ take a one ++ drop b one → three ≡ take a two ++ from_on t (drop a two) → three ≡ kept ++ from_on t rest
removed_is t one two three kept rest a b o w k r x y =
    let n : length (take a one) ≡ a = length-take-le a one (omega arith) in
    let front : take a two ≡ kept = ap (take a) x ∙ (seam_take a (take a one) (drop b one) n ∙ k) in
    let back : drop a two ≡ rest = ap (drop a) x ∙ (seam_drop a (take a one) (drop b one) n ∙ r) in
    y ∙ (ap (λ l. l ++ from_on t (drop a two)) front ∙ ap (λ l. kept ++ from_on t l) back)

set_parts : (xs : List Span) (n : ℕ) (s : Span) → n < length xs → set xs n s ≡ take n xs ++ s ∷ drop (suc n) xs
set_parts [] n s h = absurd (omega arith)
set_parts (x ∷ xs) zero s h = refl
set_parts (x ∷ xs) (suc n) s h = ap (λ l. x ∷ l) (set_parts xs n s (omega arith))

-- a range whose beginning is moved
pub begin_is : (t : ℤ) (xs : List Span) (n : ℕ) (x s : Span) → n < length xs → x ≡ get_or xs n x → s ≡ span (int_max x.from t) x.to → set xs n s ≡ take n xs ++ from_on t (drop n xs)
begin_is t xs n x s h e q =
    let d : drop n xs ≡ get_or xs n x ∷ drop (suc n) xs = drop-cons xs n x h in
    set_parts xs n s h ∙ ap (λ l. take n xs ++ l) (ap (λ (y : Span). y ∷ drop (suc n) xs) (q ∙ ap (λ (y : Span). span (int_max y.from t) y.to) e) ∙ ap (from_on t) (sym d))

part_some : (f : ℤ) (x : Span) (xs : List Span) → x.from <ℤ f → part_before f (x ∷ xs) ≡ span x.from f ∷ []
part_some f x xs a = rw (not_over x.from f a) refl

-- a range that is cut in two
pub halved_is : (f : ℤ) (xs ns : List Span) (n : ℕ) (x : Span) → n < length xs → x ≡ get_or xs n x → x.from <ℤ f → ns ≡ take n xs ++ span x.from f ∷ drop n xs → (take (n + 1) ns ≡ take n xs ++ part_before f (drop n xs)) × (drop (n + 1) ns ≡ drop n xs)
halved_is f xs ns n x h e a q =
    let l : length (take n xs) ≡ n = length-take-le n xs (omega arith) in
    let d : drop n xs ≡ get_or xs n x ∷ drop (suc n) xs = drop-cons xs n x h in
    let b : part_before f (drop n xs) ≡ span x.from f ∷ [] = ap (part_before f) d ∙ (ap (λ (y : Span). part_before f (y ∷ drop (suc n) xs)) (sym e) ∙ part_some f x (drop (suc n) xs) a) in
    let q2 : ns ≡ (take n xs ++ span x.from f ∷ []) ++ drop n xs = q ∙ sym (append_assoc (take n xs) (span x.from f ∷ []) (drop n xs)) in
    let l2 : length (take n xs ++ span x.from f ∷ []) ≡ n + 1 = length-append (take n xs) (span x.from f ∷ []) ∙ ap (λ k. k + 1) l in
    (ap (take (n + 1)) q2 ∙ (seam_take (n + 1) _ (drop n xs) l2 ∙ ap (λ r. take n xs ++ r) (sym b)), ap (drop (n + 1)) q2 ∙ seam_drop (n + 1) _ (drop n xs) l2)

pub keep_above : (low f : ℤ) (ss : List Span) → Above low ss → Above low (keep_to f ss)
keep_above low f [] p = tt
keep_above low f (s ∷ ss) p =
    elim (int_cases f s.to) as (λ _. Above low (keep_to f (s ∷ ss))) [
      | inl x ↦ elim (int_cases s.from f) as (λ _. Above low (keep_to f (s ∷ ss))) [
        | inl y ↦ rw (x.0, y.0) (p.0, y.1, omega (arith, ints), tt)
        | inr y ↦ rw (x.0, y.0) tt
      ]
      | inr x ↦ rw x.0 (p.0, p.1, p.2, keep_above s.to f ss p.3)
    ]

kept_members : (low f e : ℤ) (ss : List Span) → Above low ss → Member (keep_to f ss) e ↔ (Member ss e × (e <ℤ f))
kept_members low f e [] p = grind arith
kept_members low f e (s ∷ ss) p =
    let j = member_above s.to e ss p.3 in
    elim (int_cases f s.to) as (λ _. Member (keep_to f (s ∷ ss)) e ↔ (Member (s ∷ ss) e × (e <ℤ f))) [
      | inl x ↦ elim (int_cases s.from f) as (λ _. Member (keep_to f (s ∷ ss)) e ↔ (Member (s ∷ ss) e × (e <ℤ f))) [
        | inl y ↦ rw (x.0, y.0) (grind (arith, ints))
        | inr y ↦ rw (x.0, y.0) (grind (arith, ints))
      ]
      | inr x ↦ rw x.0 (let i = kept_members s.to f e ss p.3 in grind (arith, ints))
    ]

pub keep_members : (f e : ℤ) (ss : List Span) → AreRanges ss → Member (keep_to f ss) e ↔ (Member ss e × (e <ℤ f))
keep_members f e ss p = kept_members (negsuc (2 ^ 40)) f e ss p

-- what is kept is the one set with these members
pub keep_only : (f : ℤ) (old new ss : List Span) → AreRanges old → new ≡ keep_to f old → AreRanges ss → ((e : ℤ) → Member ss e ↔ (Member old e × (e <ℤ f))) → new ≡ ss
keep_only f old new ss p n q h =
    let k : keep_to f old ≡ ss = same_ranges (negsuc (2 ^ 40)) (keep_to f old) ss (keep_above (negsuc (2 ^ 40)) f old p) q (λ e. let i = keep_members f e old p in let j = h e in (λ m. j.1 (i.0 m), λ m. i.1 (j.0 m))) in
    n ∙ k

-- ranges that end at the tenth or before are kept
pub keep_split : (f : ℤ) (ss : List Span) (n : ℕ) → n ≤ length ss → AllEnd f (take n ss) → (n < length ss → (d : Span) → f <ℤ (get_or ss n d).to) → keep_to f ss ≡ take n ss ++ part_before f (drop n ss)
keep_split f [] zero w a b = refl
keep_split f [] (suc n) w a b = absurd (omega arith)
keep_split f (s ∷ ss) zero w a b = rw (not_over f s.to (b (omega arith) s)) refl
keep_split f (s ∷ ss) (suc n) w a b = rw (over f s.to a.0) (ap (λ r. s ∷ r) (keep_split f ss n (omega arith) a.1 (λ h d. b (omega arith) d)))

-- a range whose end is cut off, and those after it
pub trimmed_is : (f : ℤ) (xs : List Span) (n : ℕ) (x : Span) → n < length xs → x ≡ get_or xs n x → x.from <ℤ f → take (n + 1) (set xs n (span x.from f)) ≡ take n xs ++ part_before f (drop n xs)
trimmed_is f xs n x h e a =
    let d : drop n xs ≡ get_or xs n x ∷ drop (suc n) xs = drop-cons xs n x h in
    let b : part_before f (drop n xs) ≡ span x.from f ∷ [] = ap (part_before f) d ∙ (ap (λ (y : Span). part_before f (y ∷ drop (suc n) xs)) (sym e) ∙ part_some f x (drop (suc n) xs) a) in
    take_more_set xs n (span x.from f) h ∙ ap (λ r. take n xs ++ r) (sym b)
