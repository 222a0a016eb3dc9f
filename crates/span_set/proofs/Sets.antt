-- Ranges in order, and what is in them.
use Rattle.std.proofs.Common.{rules, set, zero, ◌-◌, suc, ◌&&◌, drop, drop-cons, add-one, get_or, length, ◌<◌, ◌≤◌, ◌+◌, ◌∙◌, sym, ◌≡◌, refl, ap, ◌⊎◌, inl, inr, ℕ, ℤ, negsuc, ◌^◌, ◌<ℤ◌, ◌≤ℤ◌, true, false, List, [], ◌∷◌, arith, ◌↔◌, int_lt, int_le, take, Bool, ◌||◌, IsTrue}
use Rattle.std.specs.Int.{int_max, int_min}
use Rattle.std.proofs.lemmas.Int.{ints, clamps}
use Rattle.std.proofs.lemmas.Bool.{and_parts, and_from, false≢true}
use Rattle.std.proofs.lemmas.Bool.Decides.{Decides-int_eq}
use Rattle.std.proofs.lemmas.List.{take_all, drop_all, length-drop, length-set, get_or_default}
use Rattle.std.specs.List.{refill}
use Rattle.std.specs.Bool.{Decides}
use Rattle.std.specs.Ordering.{int_eq}
use Rattle.span_set.specs.declared.set.Span.{Span}
use Rattle.span_set.specs.Changes.{span, AllEnd}
use Rattle.span_set.specs.Spans.{Member, Within, Above, AreRanges, AnyIn, is_member}

-- a test of two signed numbers, and what it says
pub int_cases : (a b : ℤ) → ((int_lt a b ≡ true) × (a <ℤ b)) ⊎ ((int_lt a b ≡ false) × (b ≤ℤ a))
int_cases a b = grind (arith, ints)

pub over : (a b : ℤ) → b ≤ℤ a → int_lt a b ≡ false
over a b h = grind (arith, ints)

pub not_over : (a b : ℤ) → a <ℤ b → int_lt a b ≡ true
not_over a b h = grind (arith, ints)

pub above_trans : (a b : ℤ) (ss : List Span) → a ≤ℤ b → Above b ss → Above a ss
above_trans a b [] h p = tt
above_trans a b (s ∷ ss) h p = (omega (arith, ints), p.1, p.2, p.3)

pub member_above : (low e : ℤ) (ss : List Span) → Above low ss → Member ss e → low <ℤ e
member_above low e [] p m = absurd m
member_above low e (s ∷ ss) p m = elim m [ inl w ↦ omega (arith, ints) | inr w ↦ let i = member_above s.to e ss p.3 w in omega (arith, ints) ]

pub span_same : (x y : Span) → x.from ≡ y.from → x.to ≡ y.to → x ≡ y
span_same x y a b = ap (λ (v : ℤ). span v x.to) a ∙ ap (λ (v : ℤ). span y.from v) b

pub first_from : (low : ℤ) (a b : Span) (vs : List Span) → Above low (b ∷ vs) → Member (b ∷ vs) a.from → b.from ≤ℤ a.from
first_from low a b vs v m = elim m [ inl w ↦ w.0 | inr w ↦ let i = member_above b.to a.from vs v.3 w in omega (arith, ints) ]

pub first_to : (low : ℤ) (a b : Span) (us vs : List Span) → Above low (a ∷ us) → Above low (b ∷ vs) → a.from ≡ b.from → (Member (b ∷ vs) a.to → Member (a ∷ us) a.to) → b.to ≤ℤ a.to
first_to low a b us vs u v g m = elim (int_cases a.to b.to) [
  | inl x ↦ elim (m (inl (omega (arith, ints), x.1))) [ inl w ↦ omega (arith, ints) | inr w ↦ let i = member_above a.to a.to us u.3 w in omega (arith, ints) ]
  | inr x ↦ x.1
]

pub tail_part : (low e : ℤ) (a b : Span) (us vs : List Span) → Above low (a ∷ us) → a.from ≡ b.from → a.to ≡ b.to → (Member (a ∷ us) e → Member (b ∷ vs) e) → Member us e → Member vs e
tail_part low e a b us vs u f t h m = let i = member_above a.to e us u.3 m in elim (h (inr m)) [ inl w ↦ absurd (omega (arith, ints)) | inr w ↦ w ]

-- ranges with the same members are the same
pub same_ranges : (low : ℤ) (xs ys : List Span) → Above low xs → Above low ys → ((e : ℤ) → Member xs e ↔ Member ys e) → xs ≡ ys
same_ranges low [] [] p q h = refl
same_ranges low [] (y ∷ ys) p q h = absurd ((h y.from).1 (inl (omega (arith, ints), q.1)))
same_ranges low (x ∷ xs) [] p q h = absurd ((h x.from).0 (inl (omega (arith, ints), p.1)))
same_ranges low (x ∷ xs) (y ∷ ys) p q h =
    let f1 : y.from ≤ℤ x.from = first_from low x y ys q ((h x.from).0 (inl (omega (arith, ints), p.1))) in
    let f2 : x.from ≤ℤ y.from = first_from low y x xs p ((h y.from).1 (inl (omega (arith, ints), q.1))) in
    let f : x.from ≡ y.from = omega (arith, ints) in
    let t1 : y.to ≤ℤ x.to = first_to low x y xs ys p q f (h x.to).1 in
    let t2 : x.to ≤ℤ y.to = first_to low y x ys xs q p (sym f) (h y.to).0 in
    let t : x.to ≡ y.to = omega (arith, ints) in
    let tails : (e : ℤ) → Member xs e ↔ Member ys e = λ e. (tail_part low e x y xs ys p f t (h e).0, tail_part low e y x ys xs q (sym f) (sym t) (h e).1) in
    let r : xs ≡ ys = same_ranges x.to xs ys p.3 (rw t q.3) tails in
    let d : x ≡ y = span_same x y f t in
    cc

pub any_step : (f t : ℤ) (s : Span) (ss : List Span) → AnyIn (s ∷ ss) f t → (int_max s.from f <ℤ int_min s.to t → ⊥) → AnyIn ss f t
any_step f t s ss (e, m, l, h) n = elim m [ inl w ↦ absurd (n (omega (arith, ints, clamps))) | inr w ↦ (e, w, l, h) ]

pub any_later : (f t : ℤ) (s : Span) (ss : List Span) → AnyIn ss f t → AnyIn (s ∷ ss) f t
any_later f t s ss (e, m, l, h) = (e, inr m, l, h)

pub any_here : (f t : ℤ) (s : Span) (ss : List Span) → int_max s.from f <ℤ int_min s.to t → AnyIn (s ∷ ss) f t
any_here f t s ss h = (int_max s.from f, inl (omega (arith, ints, clamps), omega (arith, ints, clamps)), omega (arith, ints, clamps), omega (arith, ints, clamps))

-- the first range begins with the least member
pub least_first : (low : ℤ) (s : Span) (ss : List Span) → Above low (s ∷ ss) → Member (s ∷ ss) s.from × ((e : ℤ) → Member (s ∷ ss) e → s.from ≤ℤ e)
least_first low s ss p = (inl (omega (arith, ints), p.1), λ e m. elim m [ inl w ↦ w.0 | inr w ↦ let i = member_above s.to e ss p.3 w in omega (arith, ints) ])

pub same_iff : (xs ys : List Span) → AreRanges xs → AreRanges ys → (xs ≡ ys) ↔ ((e : ℤ) → Member xs e ↔ Member ys e)
same_iff xs ys p q = (λ h e. rw h (λ m. m, λ m. m), λ h. same_ranges (negsuc (2 ^ 40)) xs ys p q h)

pub any_found : (f t : ℤ) (xs : List Span) (i : ℕ) (d : Span) → i < length xs → int_max (get_or xs i d).from f <ℤ int_min (get_or xs i d).to t → AnyIn (drop i xs) f t
any_found f t xs i d h p = rw (drop-cons xs i d h) (any_here f t (get_or xs i d) (drop (suc i) xs) p)

pub any_skip : (f t : ℤ) (xs : List Span) (i : ℕ) (d : Span) → i < length xs → int_min (get_or xs i d).to t ≤ℤ int_max (get_or xs i d).from f → AnyIn (drop i xs) f t ↔ AnyIn (drop (i + 1) xs) f t
any_skip f t xs i d h p = rw (add-one, drop-cons xs i d h) (λ a. any_step f t (get_or xs i d) (drop (suc i) xs) a (λ q. absurd (omega (arith, ints))), any_later f t (get_or xs i d) (drop (suc i) xs))

pub least_at : (ss : List Span) (d : Span) → AreRanges ss → 1 ≤ length ss → Member ss (get_or ss 0 d).from × ((e : ℤ) → Member ss e → (get_or ss 0 d).from ≤ℤ e)
least_at [] d p h = absurd (omega arith)
least_at (s ∷ ss) d p h = least_first (negsuc (2 ^ 40)) s ss p

pub span_eq : (a b : Span) → Decides (int_eq a.from b.from && int_eq a.to b.to) (a ≡ b)
span_eq a b = (
  λ h. let k = and_parts (int_eq a.from b.from) (int_eq a.to b.to) h in span_same a b ((Decides-int_eq a.from b.from).0 k.0) ((Decides-int_eq a.to b.to).0 k.1),
  λ e. and_from (int_eq a.from b.from) (int_eq a.to b.to) ((Decides-int_eq a.from b.from).1 (ap (λ (s : Span). s.from) e)) ((Decides-int_eq a.to b.to).1 (ap (λ (s : Span). s.to) e)),
)

pub end_more : (at : ℤ) (ss : List Span) (n : ℕ) (d : Span) → n < length ss → (get_or ss n d).to ≤ℤ at → AllEnd at (take n ss) → AllEnd at (take (n + 1) ss)
end_more at [] n d h a p = absurd (omega arith)
end_more at (s ∷ ss) zero d h a p = (a, tt)
end_more at (s ∷ ss) (suc n) d h a p = let i = end_more at ss n d (omega arith) a p.1 in rw add-one (p.0, rw add-one at i)

-- a range that is read, as the value at a place
pub read_is : (xs ys : List Span) (n : ℕ) (d : Span) → xs ≡ ys → n < length ys → get_or xs n d ≡ get_or ys n (get_or xs n d)
read_is xs ys n d e h = ap (λ l. get_or l n d) e ∙ get_or_default ys n d (get_or xs n d) h

-- ranges whose places are written, and one of them is another
pub write_is : (xs ys : List Span) (n : ℕ) (s : Span) → xs ≡ ys → refill (length ys) ys (set xs n s) ≡ set ys n s
write_is xs ys n s e = rw e (search (rules, drop_all (length ys) ys (omega arith), take_all (length ys) (set ys n s) (omega (arith, length-set ys n s))))

-- what a slice from a place on has
pub suffix : (xs : List Span) (n : ℕ) → n ≤ length xs → take (length xs - n) (drop n xs) ≡ drop n xs
suffix xs n h = take_all (length xs - n) (drop n xs) (omega (arith, length-drop n xs))

pub le_cases : (a b : ℤ) → ((int_le a b ≡ true) × (a ≤ℤ b)) ⊎ ((int_le a b ≡ false) × (b <ℤ a))
le_cases a b = grind (arith, ints)

within_test : (s : Span) (e : ℤ) (m : Bool) (M : Type 0) → (IsTrue m ↔ M) → IsTrue ((int_le s.from e && int_lt e s.to) || m) ↔ (Within s e ⊎ M)
within_test s e m M i =
    elim (le_cases s.from e) as (λ _. IsTrue ((int_le s.from e && int_lt e s.to) || m) ↔ (Within s e ⊎ M)) [
      | inl x ↦ elim (int_cases e s.to) as (λ _. IsTrue ((int_le s.from e && int_lt e s.to) || m) ↔ (Within s e ⊎ M)) [
        | inl y ↦ rw (x.0, y.0) (λ _. inl (x.1, y.1), λ _. refl)
        | inr y ↦ rw (x.0, y.0) (λ h. inr (i.0 h), λ h. elim h [ inl w ↦ absurd (omega (arith, ints)) | inr w ↦ i.1 w ])
      ]
      | inr x ↦ rw x.0 (λ h. inr (i.0 h), λ h. elim h [ inl w ↦ absurd (omega (arith, ints)) | inr w ↦ i.1 w ])
    ]

-- the test of a member, and what it says
pub member_test : (ss : List Span) (e : ℤ) → IsTrue (is_member ss e) ↔ Member ss e
member_test [] e = (λ h. absurd (false≢true h), λ h. absurd h)
member_test (s ∷ ss) e = within_test s e (is_member ss e) (Member ss e) (member_test ss e)

same_tests : (a b : Bool) → (IsTrue a → IsTrue b) → (IsTrue b → IsTrue a) → a ≡ b
same_tests true true f g = refl
same_tests true false f g = absurd (false≢true (f refl))
same_tests false true f g = absurd (false≢true (g refl))
same_tests false false f g = refl

pub tested : (b : Bool) (ss : List Span) (e : ℤ) → (IsTrue b ↔ Member ss e) → b ≡ is_member ss e
tested b ss e h = let i = member_test ss e in same_tests b (is_member ss e) (λ t. i.1 (h.0 t)) (λ t. h.1 (i.0 t))
