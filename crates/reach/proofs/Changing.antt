-- Sets of entries, one for each colour, changed one at a time.
use Rattle.std.proofs.Common.{◌≡◌, refl, ap, sym, ◌∙◌, subst, ◌⊎◌, inl, inr, ◌↔◌, ℕ, suc, ◌+◌, ◌-◌, ◌<◌, ◌≤◌, ℤ, pos, ◌+ℤ◌, ◌-ℤ◌, ◌<ℤ◌, ◌≤ℤ◌, List, [], ◌∷◌, length, get_or, set, get_or-set_same, get_or-set_other, arith, negsuc, ◌^◌, take, drop, ◌++◌}
use Rattle.std.specs.Int.{int_max}
use Rattle.std.proofs.lemmas.Int.{ints, clamps}
use Rattle.std.proofs.lemmas.Bool.{cases_eq, cases_lt}
use Rattle.std.proofs.lemmas.List.{take_at}
use Rattle.std.proofs.lemmas.Grind.{common_steps}
use Rattle.span_set.specs.declared.set.Span.{Span}
use Rattle.span_set.specs.Spans.{Member, Above, AreRanges}
use Rattle.reach.specs.Sets.{at, set_of, IsFree, AreFree, AreAdded, AreTakenBack, AreStarts, IsRebuilt}
use Rattle.reach.proofs.States.{lists_same}

pub put_length : (sets : List (List Span)) (k : ℕ) (y : List Span) → length (set sets k y) ≡ length sets
put_length sets k y = grind (arith, common_steps)

pub put_here : (sets : List (List Span)) (k c : ℕ) (y : List Span) → k < length sets → c ≡ k → set_of (set sets k y) c ≡ y
put_here sets k c y h e = rw e (get_or-set_same sets k y [] h)

pub put_there : (sets : List (List Span)) (k c : ℕ) (y : List Span) → (c ≡ k → ⊥) → set_of (set sets k y) c ≡ set_of sets c
put_there sets k c y ne = get_or-set_other sets k c y [] ne

pub put_same : (sets : List (List Span)) (k : ℕ) (y : List Span) → k < length sets → y ≡ set_of sets k → set sets k y ≡ sets
put_same sets k y h e = lists_same (set sets k y) sets (put_length sets k y) (λ c lt. elim (cases_eq c k) [
  | inl q ↦ put_here sets k c y h q ∙ (e ∙ ap (set_of sets) (sym q))
  | inr ne ↦ put_there sets k c y ne
])

-- the last of the ranges
abbrev last_range : Span → List Span → Span
last_range s [] = s
last_range s (t ∷ ts) = last_range t ts

last_get : (s : Span) (ss : List Span) (d : Span) → get_or (s ∷ ss) (length ss) d ≡ last_range s ss
last_get s [] d = refl
last_get s (t ∷ ts) d = last_get t ts d

last_facts : (low : ℤ) (s : Span) (ss : List Span) → Above low (s ∷ ss) → Member (s ∷ ss) ((last_range s ss).to -ℤ pos 1) × ((e : ℤ) → Member (s ∷ ss) e → e <ℤ (last_range s ss).to)
last_facts low s [] p = (inl (omega (arith, ints), omega (arith, ints)), λ e m. elim m [ inl v ↦ v.1 | inr v ↦ absurd v ])
last_facts low s (t ∷ ts) p =
    let i = last_facts s.to t ts p.3 in
    let k : t.from <ℤ (last_range t ts).to = i.1 t.from (inl (omega (arith, ints), p.3.1)) in
    (inr i.0, λ e m. elim m [ inl v ↦ (let q = p.3.0 in let r = v.1 in omega (arith, ints)) | inr v ↦ i.1 e v ])

free_last : (start x : ℤ) (s : Span) (ss : List Span) → AreRanges (s ∷ ss) → ((e : ℤ) → Member (s ∷ ss) e → e ≤ℤ start) → x ≡ int_max start (last_range s ss).to → IsFree (s ∷ ss) start x
free_last start x s ss p h e =
    let f = last_facts (negsuc (2 ^ 40)) s ss p in
    let late : ((last_range s ss).to -ℤ pos 1) ≤ℤ start = h ((last_range s ss).to -ℤ pos 1) f.0 in
    record {
      ordered = p;
      late = omega (arith, ints, clamps);
      after = λ y m. let k = f.1 y m in omega (arith, ints, clamps);
      taken = λ y a b. let same : y ≡ ((last_range s ss).to -ℤ pos 1) = omega (arith, ints, clamps) in subst (λ z. Member (s ∷ ss) z) (sym same) f.0;
    }

-- a set without members after the start is free from the end of its last range on
pub free_from : (ss : List Span) (start x : ℤ) (d : Span) → AreRanges ss → 1 ≤ length ss → ((e : ℤ) → Member ss e → e ≤ℤ start) → x ≡ int_max start (get_or ss (length ss - 1) d).to → IsFree ss start x
free_from [] start x d p n h e = absurd (omega arith)
free_from (s ∷ ss) start x d p n h e =
    let k : (suc (length ss)) - 1 ≡ length ss = omega arith in
    let g : get_or (s ∷ ss) ((suc (length ss)) - 1) d ≡ last_range s ss = rw k (last_get s ss d) in
    free_last start x s ss p h (e ∙ ap (λ (v : Span). int_max start v.to) g)

pub taken_more : (old now : List (List Span)) (firsts : List ℤ) (k : ℕ) (new : List Span) → k < length now → AreTakenBack old firsts now k → ((ss : List Span) → AreRanges ss → ((e : ℤ) → Member ss e ↔ (Member (set_of now k) e × (e <ℤ at firsts k))) → new ≡ ss) → AreTakenBack old firsts (set now k new) (k + 1)
taken_more old now firsts k new h (len, below, above) cut = (
  put_length now k new ∙ len,
  λ c lt ss q m. elim (cases_eq c k) [
    | inl e ↦ put_here now k c new h e ∙ cut ss q (λ x. let i = subst (λ n. Member ss x ↔ (Member (set_of old n) x × (x <ℤ at firsts n))) e (m x) in rw (above k (omega arith)) i)
    | inr ne ↦ put_there now k c new ne ∙ below c (omega arith) ss q m
  ],
  λ c le. let ne : c ≡ k → ⊥ = λ e. omega arith in put_there now k c new ne ∙ above c (omega arith),
)

pub added_more : (old now : List (List Span)) (firsts : List ℤ) (t : ℤ) (k : ℕ) (new : List Span) → k < length now → AreAdded old firsts t now k → ((c : ℕ) → k ≤ c → set_of now c ≡ set_of old c) → ((e : ℤ) → Member new e ↔ (Member (set_of now k) e ⊎ ((at firsts k ≤ℤ e) × (e <ℤ t)))) → AreAdded old firsts t (set now k new) (k + 1) × ((c : ℕ) → k + 1 ≤ c → set_of (set now k new) c ≡ set_of old c)
added_more old now firsts t k new h (len, below) above add = (
  (
    put_length now k new ∙ len,
    λ c lt e. elim (cases_eq c k) [
      | inl q ↦ let n : Member new e ↔ (Member (set_of old k) e ⊎ ((at firsts k ≤ℤ e) × (e <ℤ t))) = rw (sym (above k (omega arith))) (add e) in rw (put_here now k c new h q) (subst (λ j. Member new e ↔ (Member (set_of old j) e ⊎ ((at firsts j ≤ℤ e) × (e <ℤ t)))) (sym q) n)
      | inr ne ↦ rw (put_there now k c new ne) (below c (omega arith) e)
    ],
  ),
  λ c le. let ne : c ≡ k → ⊥ = λ e. omega arith in put_there now k c new ne ∙ above c (omega arith),
)

-- what was added is taken back, and all is as it was
pub undone : (old now new : List (List Span)) (starts firsts : List ℤ) (t : ℤ) (k : ℕ) → AreFree old starts firsts (length old) → AreAdded old firsts t now k → ((c : ℕ) → k ≤ c → set_of now c ≡ set_of old c) → AreTakenBack now firsts new k → new ≡ old
undone old now new starts firsts t k free added above taken = lists_same new old (taken.0 ∙ added.0) (λ c lt.
    let f = free.1 c (let a = taken.0 in let b = added.0 in omega arith) in
    elim (cases_lt c k) [
      | inl b ↦ taken.1 c b (set_of old c) f.ordered (λ e. (λ m. ((added.1 c b e).1 (inl m), f.after e m), λ (m, l). elim ((added.1 c b e).0 m) [ inl x ↦ x | inr y ↦ absurd (let z = y.0 in omega (arith, ints)) ]))
      | inr b ↦ taken.2 c b ∙ above c b
    ])

-- sets to which a tenth is added, and which are then settled, are rebuilt
pub rebuilt_is : (old mid new : List (List Span)) (keep enter : ℕ) (t : ℤ) (starts : List ℤ) → length old ≤ 16 → AreStarts enter t starts 16 → AreAdded old starts (t +ℤ pos 1) mid (length old) → IsRebuilt mid keep enter t new (length mid) → IsRebuilt old keep enter t new (length old)
rebuilt_is old mid new keep enter t starts few s a r = (
  r.0 ∙ a.0,
  λ c lt e.
      let i = r.1 c (let l = a.0 in omega arith) e in
      let j = a.1 c lt e in
      let k = s.1 c (omega arith) in (
        λ m. elim (i.0 m) [
          | inl (p, x) ↦ elim (j.0 x) [ inl y ↦ inl (p, y) | inr y ↦ (let u = k.0 in let v = y.0 in let z = y.1 in inr (k.2.0 (omega (arith, ints)), omega (arith, ints))) ]
          | inr x ↦ inr x
        ],
        λ h. i.1 (elim h [ inl (p, x) ↦ inl (p, j.1 (inl x)) | inr x ↦ inr x ]),
      ),
)

-- what a slice of all of a Vec leaves
pub written_back : (n : ℕ) (new old : List (List Span)) → n ≡ length old → length new ≡ length old → take n (new ++ drop (length new) old) ≡ new
written_back n new old a b = take_at new (drop (length new) old) n (b ∙ sym a)
