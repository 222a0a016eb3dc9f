-- Tenths at which a colour may be left, and states that are put in.
use Rattle.std.proofs.Common.{zero, suc, ◌≡◌, sym, subst, ap, ◌∙◌, ◌⊎◌, inl, inr, ◌↔◌, ℕ, ◌+◌, ◌<◌, ◌≤◌, ℤ, pos, negsuc, ◌^◌, ◌+ℤ◌, ◌-ℤ◌, ◌<ℤ◌, ◌≤ℤ◌, List, [], ◌∷◌, length, take, get_or, get_or-set_same, get_or-set_other, set, arith, Option, None}
use Rattle.std.specs.Int.{int_max}
use Rattle.std.proofs.lemmas.Int.{ints, clamps}
use Rattle.std.proofs.lemmas.Bool.{cases_eq}
use Rattle.span_set.specs.declared.set.Span.{Span}
use Rattle.span_set.specs.Spans.{Above, AreRanges, Member, Within}
use Rattle.span_set.proofs.Sets.{int_cases}
use Rattle.reach.specs.Runs.{State}
use Rattle.reach.specs.Ahead.{Admits, NotLater}
use Rattle.reach.specs.Latest.{entry_of, IsTable}
use Rattle.reach.specs.declared.put.Times.{Times}
use Rattle.reach.specs.declared.seen.AgeBound.{AgeBound}
use Rattle.reach.specs.declared.seen.AgeBound.TheVariants.{Any, AtLeast, AtMost}
use Rattle.reach.specs.Tests.{InBound}
use Rattle.reach.specs.Sets.{set_of}
use Rattle.reach.specs.Put.{LeftAt, LeftFrom}
use Rattle.span_set.specs.Changes.{span}
use Rattle.reach.specs.declared.past.Single.{Single}
use Rattle.reach.specs.Single.{sets_of, IsSingle}
use Rattle.reach.proofs.Alone.{only_here, only_there}
use Rattle.reach.proofs.Crossing.{member_at}
use Rattle.reach.proofs.Filling.{member_more}
use Rattle.reach.proofs.Later.{take_admits, take_length}

pub left_more : (ss old now new : List Span) (w : Times) (k : ℕ) (d : Span) → k < length ss → ((t : ℤ) → Member now t ↔ (Member old t ⊎ LeftFrom (take k ss) w t)) → ((t : ℤ) → Member new t ↔ (Member now t ⊎ ((e : ℤ) × Within (get_or ss k d) e × LeftAt w e t))) → (t : ℤ) → Member new t ↔ (Member old t ⊎ LeftFrom (take (k + 1) ss) w t)
left_more ss old now new w k d lt was add t =
    let i = was t in let j = add t in (
      λ m. elim (j.0 m) [
        | inl x ↦ elim (i.0 x) [ inl y ↦ inl y | inr y ↦ inr (y.0, (member_more ss k d y.0 lt).1 (inl y.1), y.2) ]
        | inr x ↦ inr (x.0, (member_more ss k d x.0 lt).1 (inr x.1), x.2)
      ],
      λ m. j.1 (elim m [
        | inl x ↦ inl (i.1 (inl x))
        | inr x ↦ elim ((member_more ss k d x.0 lt).0 x.1) [ inl y ↦ inl (i.1 (inr (x.0, y, x.2))) | inr y ↦ inr (x.0, y, x.2) ]
      ]),
    )

-- no range: nothing to leave
pub left_none : (w : Times) (t : ℤ) → LeftFrom [] w t → ⊥
left_none w t (e, m, l) = m

-- one range, by the bound
pub left_any : (r : Span) (w : Times) (t : ℤ) → w.bound ≡ Any → r.from <ℤ r.to → ((w.from ≤ℤ t) × (t <ℤ w.to) × ((r.from +ℤ pos w.floor) ≤ℤ t)) ↔ ((e : ℤ) × Within r e × LeftAt w e t)
left_any r w t is some = (
  λ (a, b, c). (r.from, (omega (arith, ints), some), (a, b, c, rw is tt)),
  λ (e, (x, y), (a, b, c, d)). (a, b, omega (arith, ints)),
)

pub left_least : (r : Span) (w : Times) (n : ℕ) (t : ℤ) → w.bound ≡ AtLeast n → r.from <ℤ r.to → ((w.from ≤ℤ t) × (t <ℤ w.to) × ((r.from +ℤ pos w.floor) ≤ℤ t) × ((r.from +ℤ pos n) ≤ℤ t)) ↔ ((e : ℤ) × Within r e × LeftAt w e t)
left_least r w n t is some = (
  λ (a, b, c, d). (r.from, (omega (arith, ints), some), (a, b, c, rw is d)),
  λ (e, (x, y), (a, b, c, d)). let q = subst (λ (o : AgeBound). InBound o t e) is d in (a, b, omega (arith, ints), omega (arith, ints)),
)

pub left_most : (r : Span) (w : Times) (n : ℕ) (t : ℤ) → w.bound ≡ AtMost n → w.floor ≤ n → r.from <ℤ r.to → ((w.from ≤ℤ t) × (t <ℤ w.to) × ((r.from +ℤ pos w.floor) ≤ℤ t) × (t <ℤ (r.to +ℤ pos n))) ↔ ((e : ℤ) × Within r e × LeftAt w e t)
left_most r w n t is few some = (
  λ (a, b, c, d). elim (int_cases (t -ℤ pos w.floor) r.to) [
    | inl x ↦ let lt = x.1 in (t -ℤ pos w.floor, (omega (arith, ints), omega (arith, ints)), (a, b, omega (arith, ints), rw is (omega (arith, ints))))
    | inr x ↦ let ge = x.1 in (r.to -ℤ pos 1, (omega (arith, ints), omega (arith, ints)), (a, b, omega (arith, ints), rw is (omega (arith, ints))))
  ],
  λ (e, (x, y), (a, b, c, d)). let q = subst (λ (o : AgeBound). InBound o t e) is d in (a, b, omega (arith, ints), omega (arith, ints)),
)

pub left_never : (r : Span) (w : Times) (n : ℕ) (t : ℤ) → w.bound ≡ AtMost n → n < w.floor → ((e : ℤ) × Within r e × LeftAt w e t) → ⊥
left_never r w n t is many (e, (x, y), (a, b, c, d)) = let q = subst (λ (o : AgeBound). InBound o t e) is d in omega (arith, ints)

-- the bounds of a range
pub range_bounds : (low : ℤ) (ss : List Span) (k : ℕ) (d : Span) → Above low ss → k < length ss → (low <ℤ (get_or ss k d).from) × ((get_or ss k d).from <ℤ (get_or ss k d).to) × ((get_or ss k d).to ≤ℤ pos (2 ^ 40 + 1))
range_bounds low [] k d a lt = absurd (omega arith)
range_bounds low (s ∷ ss) zero d (a, b, c, r) lt = (a, b, c)
range_bounds low (s ∷ ss) (suc k) d (a, b, c, r) lt = let i = range_bounds s.to ss k d r (omega arith) in let x = i.0 in (omega (arith, ints), i.1, i.2)

-- no member comes before the first range
above_low : (low e : ℤ) (ss : List Span) → Above low ss → Member ss e → low <ℤ e
above_low low e [] a m = absurd m
above_low low e (s ∷ ss) (a, b, c, r) m = elim m [ inl x ↦ let q = x.0 in omega (arith, ints) | inr x ↦ let q = above_low s.to e ss r x in omega (arith, ints) ]

-- where an older entry meets the bound too, the first range tells all
pub left_first : (low : ℤ) (ss : List Span) (d : Span) (w : Times) (t : ℤ) → Above low ss → 0 < length ss → ((e f : ℤ) → f ≤ℤ e → InBound w.bound t e → InBound w.bound t f) → LeftFrom ss w t ↔ ((e : ℤ) × Within (get_or ss 0 d) e × LeftAt w e t)
left_first low [] d w t a lt older = absurd (omega arith)
left_first low (s ∷ ss) d w t (a, b, c, r) lt older = (
  λ (e, m, (p, q, o, bd)). let le : s.from ≤ℤ e = elim m [ inl x ↦ x.0 | inr x ↦ let y = above_low s.to e ss r x in omega (arith, ints) ] in (s.from, (omega (arith, ints), b), (p, q, omega (arith, ints), older e s.from le bd)),
  λ (e, m, l). (e, inl m, l),
)

pub left_only : (ss old new : List Span) (d : Span) (w : Times) → AreRanges ss → 0 < length ss → ((t e f : ℤ) → f ≤ℤ e → InBound w.bound t e → InBound w.bound t f) → ((t : ℤ) → Member new t ↔ (Member old t ⊎ ((e : ℤ) × Within (get_or ss 0 d) e × LeftAt w e t))) → (t : ℤ) → Member new t ↔ (Member old t ⊎ LeftFrom ss w t)
left_only ss old new d w are lt older h t =
    let i = h t in let j = left_first (negsuc (2 ^ 40)) ss d w t are lt (older t) in (
      λ m. elim (i.0 m) [ inl x ↦ inl x | inr x ↦ inr (j.1 x) ],
      λ m. i.1 (elim m [ inl x ↦ inl x | inr x ↦ inr (j.0 x) ]),
    )

pub ranges_more : (ss old now new : List Span) (k : ℕ) (d : Span) → k < length ss → ((t : ℤ) → Member now t ↔ (Member old t ⊎ Member (take k ss) t)) → ((t : ℤ) → Member new t ↔ (Member now t ⊎ Within (get_or ss k d) t)) → (t : ℤ) → Member new t ↔ (Member old t ⊎ Member (take (k + 1) ss) t)
ranges_more ss old now new k d lt was add t =
    let i = was t in let j = add t in let q = member_more ss k d t lt in (
      λ m. elim (j.0 m) [ inl x ↦ elim (i.0 x) [ inl y ↦ inl y | inr y ↦ inr (q.1 (inl y)) ] | inr x ↦ inr (q.1 (inr x)) ],
      λ m. j.1 (elim m [ inl x ↦ inl (i.1 (inl x)) | inr x ↦ elim (q.0 x) [ inl y ↦ inl (i.1 (inr y)) | inr y ↦ inr y ] ]),
    )

-- a later latest entry of one colour
pub raise_is : (n c : ℕ) (latest now : List (Option ℤ)) (x : Option ℤ) (f : ℤ) → length latest ≡ 16 → IsTable n latest → take n latest ≡ now → c < length now → ((e : ℤ) → NotLater x e ↔ (NotLater (entry_of latest c) e ⊎ (e ≤ℤ f))) → (s : State) → Admits (take n (set latest c x)) s ↔ (Admits now s ⊎ ((s.colour ≡ c) × (s.entry ≤ℤ f)))
raise_is n c latest now x f size (few, none) view lt h s =
    let count : length now ≡ n = ap length (sym view) ∙ take_length n latest size few in
    let was = subst (λ (w : List (Option ℤ)). Admits w s ↔ Admits latest s) view (take_admits n latest s none) in
    let over : (k : ℕ) → n ≤ k → entry_of (set latest c x) k ≡ None = λ k ge. let ne : k ≡ c → ⊥ = λ e. omega arith in get_or-set_other latest c k x None ne ∙ none k ge in
    let new = take_admits n (set latest c x) s over in
    elim (cases_eq s.colour c) [
      | inl e ↦
          let at : get_or (set latest c x) s.colour None ≡ x = rw e (get_or-set_same latest c x None (omega arith)) in
          let old : Admits latest s ↔ NotLater (entry_of latest c) s.entry = rw e (λ a. a, λ a. a) in
          let i = h s.entry in (
            λ a. elim (i.0 (subst (λ (o : Option ℤ). NotLater o s.entry) at (new.0 a))) [ inl y ↦ inl (was.1 (old.1 y)) | inr y ↦ inr (e, y) ],
            λ m. new.1 (subst (λ (o : Option ℤ). NotLater o s.entry) (sym at) (i.1 (elim m [ inl y ↦ inl (old.0 (was.0 y)) | inr y ↦ inr y.1 ]))),
          )
      | inr ne ↦
          let at : get_or (set latest c x) s.colour None ≡ get_or latest s.colour None = get_or-set_other latest c s.colour x None ne in (
            λ a. inl (was.1 (subst (λ (o : Option ℤ). NotLater o s.entry) at (new.0 a))),
            λ m. new.1 (subst (λ (o : Option ℤ). NotLater o s.entry) (sym at) (elim m [ inl y ↦ was.0 y | inr y ↦ absurd (ne y.0) ])),
          )
    ]

pub range_high : (ss : List Span) (k : ℕ) (d : Span) → AreRanges ss → ((e : ℤ) → Member ss e → e <ℤ pos (2 ^ 40)) → k < length ss → (get_or ss k d).to ≤ℤ pos (2 ^ 40)
range_high ss k d are high lt =
    let b = range_bounds (negsuc (2 ^ 40)) ss k d are lt in
    let x = b.1 in
    let h = high ((get_or ss k d).to -ℤ pos 1) (member_at ss k d ((get_or ss k d).to -ℤ pos 1) lt (omega (arith, ints), omega (arith, ints))) in omega (arith, ints)

-- the entry of the one state
pub left_single : (o : Single) (sets : List (List Span)) (c : ℕ) (old new : List Span) (w : Times) → IsSingle o → sets_of o ≡ sets → o.colour ≡ c → ((t : ℤ) → Member new t ↔ (Member old t ⊎ ((e : ℤ) × Within (span o.entry (o.entry +ℤ pos 1)) e × LeftAt w e t))) → (t : ℤ) → Member new t ↔ (Member old t ⊎ LeftFrom (set_of sets c) w t)
left_single o sets c old new w is view same h t =
    let here = only_here o.colours o.colour c o.entry is.colour (sym same) in
    let at : set_of sets c ≡ span o.entry (o.entry +ℤ pos 1) ∷ [] = ap (λ (x : List (List Span)). set_of x c) (sym view) ∙ here in
    let i = h t in rw at (
      λ m. elim (i.0 m) [ inl x ↦ inl x | inr (e, m, l) ↦ inr (e, inl m, l) ],
      λ m. i.1 (elim m [ inl x ↦ inl x | inr (e, m, l) ↦ elim m [ inl y ↦ inr (e, y, l) | inr y ↦ absurd y ] ]),
    )

pub left_other : (o : Single) (sets : List (List Span)) (c : ℕ) (old : List Span) (w : Times) → sets_of o ≡ sets → (o.colour ≡ c → ⊥) → (t : ℤ) → Member old t ↔ (Member old t ⊎ LeftFrom (set_of sets c) w t)
left_other o sets c old w view ne t =
    let there = only_there o.colours o.colour c o.entry (λ e. ne (sym e)) in
    let at : set_of sets c ≡ [] = ap (λ (x : List (List Span)). set_of x c) (sym view) ∙ there in
    rw at (λ m. inl m, λ m. elim m [ inl x ↦ x | inr x ↦ absurd (left_none w t x) ])

-- one range's part, by the bound
pub part_any : (r : Span) (w : Times) (f : ℤ) (old new : List Span) → w.bound ≡ Any → r.from <ℤ r.to → f ≡ (r.from +ℤ pos w.floor) → ((t : ℤ) → Member new t ↔ (Member old t ⊎ ((w.from ≤ℤ t) × (t <ℤ w.to) × (f ≤ℤ t)))) → (t : ℤ) → Member new t ↔ (Member old t ⊎ ((e : ℤ) × Within r e × LeftAt w e t))
part_any r w f old new is some q h t =
    let i = h t in let j = left_any r w t is some in (
      λ m. elim (i.0 m) [ inl x ↦ inl x | inr (a, b, c) ↦ inr (j.0 (a, b, subst (λ (z : ℤ). z ≤ℤ t) q c)) ],
      λ m. i.1 (elim m [ inl x ↦ inl x | inr x ↦ let (a, b, c) = j.1 x in inr (a, b, subst (λ (z : ℤ). z ≤ℤ t) (sym q) c) ]),
    )

pub part_least : (r : Span) (w : Times) (n : ℕ) (f a b : ℤ) (old new : List Span) → w.bound ≡ AtLeast n → r.from <ℤ r.to → f ≡ int_max a b → a ≡ (r.from +ℤ pos w.floor) → b ≡ (r.from +ℤ pos n) → ((t : ℤ) → Member new t ↔ (Member old t ⊎ ((w.from ≤ℤ t) × (t <ℤ w.to) × (f ≤ℤ t)))) → (t : ℤ) → Member new t ↔ (Member old t ⊎ ((e : ℤ) × Within r e × LeftAt w e t))
part_least r w n f a b old new is some m p q h t =
    let i = h t in let j = left_least r w n t is some in (
      λ x. elim (i.0 x) [ inl y ↦ inl y | inr (u, v, z) ↦ inr (j.0 (u, v, omega (arith, ints, clamps), omega (arith, ints, clamps))) ],
      λ x. i.1 (elim x [ inl y ↦ inl y | inr y ↦ let (u, v, c, d) = j.1 y in inr (u, v, omega (arith, ints, clamps)) ]),
    )

pub part_most : (r : Span) (w : Times) (n : ℕ) (g f : ℤ) (old new : List Span) → w.bound ≡ AtMost n → w.floor ≤ n → r.from <ℤ r.to → g ≡ (r.from +ℤ pos w.floor) → f ≡ (r.to +ℤ pos n) → ((t : ℤ) → Member new t ↔ (Member old t ⊎ ((w.from ≤ℤ t) × (t <ℤ w.to) × (g ≤ℤ t) × (t <ℤ f)))) → (t : ℤ) → Member new t ↔ (Member old t ⊎ ((e : ℤ) × Within r e × LeftAt w e t))
part_most r w n g f old new is few some q m h t =
    let i = h t in let j = left_most r w n t is few some in (
      λ x. elim (i.0 x) [ inl y ↦ inl y | inr (a, b, c, d) ↦ inr (j.0 (a, b, subst (λ (z : ℤ). z ≤ℤ t) q c, subst (λ (z : ℤ). t <ℤ z) m d)) ],
      λ x. i.1 (elim x [ inl y ↦ inl y | inr y ↦ let (a, b, c, d) = j.1 y in inr (a, b, subst (λ (z : ℤ). z ≤ℤ t) (sym q) c, subst (λ (z : ℤ). t <ℤ z) (sym m) d) ]),
    )

pub part_never : (r : Span) (w : Times) (n : ℕ) (old : List Span) → w.bound ≡ AtMost n → n < w.floor → (t : ℤ) → Member old t ↔ (Member old t ⊎ ((e : ℤ) × Within r e × LeftAt w e t))
part_never r w n old is many t = (λ m. inl m, λ m. elim m [ inl x ↦ x | inr x ↦ absurd (left_never r w n t is many x) ])
