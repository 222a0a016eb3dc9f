-- A clause is kept, broken or undecided by its terms.
use Rattle.std.proofs.Common.{suc, zero, ◌≡◌, ◌≢◌, refl, ap, sym, ◌∙◌, subst, ◌⊎◌, inl, inr, ◌↔◌, ℕ, ◌+◌, ◌<◌, ◌≤◌, ℤ, pos, Bool, true, false, not, IsTrue, nat_eq, if◌then◌else◌, List, [], ◌∷◌, ◌++◌, length, take, drop, get_or, arith, Option}
use Rattle.std.proofs.lemmas.Bool.{cases_eq, eq-eqb, ne_eqb}
use Rattle.std.specs.Int.{bit_at}
use Rattle.colour_machine.specs.Mask.{Has}
use Rattle.span_set.specs.declared.set.Span.{Span}
use Rattle.reach.specs.Runs.{State, Steps}
use Rattle.reach.specs.Tests.{Meets}
use Rattle.reach.specs.declared.seen.Test.{Test}
use Rattle.reach.proofs.Later.{then_iff}
use Rattle.sig_base.specs.declared.values.Row.{Row}
use Rattle.gap_map.specs.declared.stretch.Stretch.{Stretch}
use Rattle.board.specs.declared.clause.Term.{Term}
use Rattle.reach.specs.declared.seen.Seen.{Seen}
use Rattle.reach.specs.declared.seen.AgeBound.TheVariants.{Any}
use Rattle.board.proofs.Product.{product}
use Rattle.std.proofs.lemmas.List.{take_more, drop_more, drop_all}
use Rattle.board.proofs.Bridge.{agreeing_join, agreeing_first, agreeing_none, none_at}
use Rattle.board.proofs.Cutting.{events_join}
use Rattle.std.proofs.lemmas.List.{append-nil, take-append-drop}
use Rattle.gap_map.specs.Stretches.{known_at}
use Rattle.board.specs.History.{Agreeing, Track, events_at, letters}
use Rattle.board.specs.Moves.{RowsIn, count_before}
use Rattle.board.specs.Places.{IsAtPlace, IsLog, IsPlace, SeesAt}
use Rattle.board.specs.Logs.{HourLog, first_tenth, end_tenth, no_spec}
use Rattle.board.specs.Channels.{track}
use Rattle.board.specs.Verdicts.{AreApart, AreTerms, AreWithin, FailEach, HasSpec, HoldOne, IsAtEnd, Keeps, MayPass, NotOf, PassStates, SeesEnd, SomeIn, SomeNot}
use Rattle.board.proofs.Tracks.{tracks_are}
use Rattle.board.proofs.Within.{known_within}

abbrev but : (ℕ → State) → ℕ → State → ℕ → State
but v j z i = if nat_eq i j then z else v i

but_same : (v : ℕ → State) (j : ℕ) (z : State) → but v j z j ≡ z
but_same v j z = rw (eq-eqb j j refl) refl

but_other : (v : ℕ → State) (i j : ℕ) (z : State) → i ≢ j → but v j z i ≡ v i
but_other v i j z ne = rw (ne_eqb i j ne) refl

module _ (A : ℕ → State → Type 0) (n : ℕ) where
  but_all : (v : ℕ → State) (j : ℕ) (z : State) → A j z → ((i : ℕ) → i < n → A i (v i)) → (i : ℕ) → i < n → A i (but v j z i)
  but_all v j z a h i lt = elim (cases_eq i j) [
    | inl e ↦ subst (λ (k : ℕ). A k (but v j z k)) (sym e) (subst (λ (s : State). A j s) (sym (but_same v j z)) a)
    | inr ne ↦ subst (λ (s : State). A i s) (sym (but_other v i j z ne)) (h i lt)
  ]

  keeps_other : (cs : List Term) (v : ℕ → State) (j : ℕ) (z : State) → NotOf j cs → Keeps cs (but v j z) → Keeps cs v
  keeps_other (c ∷ cs) v j z (ne, r) k = elim k [
    | inl x ↦ inl (subst (λ (s : State). Has c.colours s.colour) (but_other v c.spec j z ne) x)
    | inr x ↦ inr (keeps_other cs v j z r x)
  ]
  keeps_other [] v j z h k = k

  -- where each term fails in some state, all fail at once
  pub all_fail : (cs : List Term) (w : ℕ → State) → ((i : ℕ) → i < n → A i (w i)) → AreTerms n cs → FailEach A cs → (v : ℕ → State) × ((i : ℕ) → i < n → A i (v i)) × (Keeps cs v → ⊥)
  all_fail [] w h t f = (w, h, λ k. k)
  all_fail (c ∷ cs) w h (lt, other, t) ((z, a, bad), f) =
      let (v, p, q) = all_fail cs w h t f in (
        but v c.spec z,
        but_all v c.spec z a p,
        λ k. elim k [
          | inl x ↦ bad (subst (λ (s : State). Has c.colours s.colour) (but_same v c.spec z) x)
          | inr x ↦ q (keeps_other cs v c.spec z other x)
        ],
      )

  pub one_holds : (cs : List Term) (w : ℕ → State) → ((i : ℕ) → i < n → A i (w i)) → HoldOne A cs → (v : ℕ → State) × ((i : ℕ) → i < n → A i (v i)) × Keeps cs v
  one_holds [] w h f = absurd f
  one_holds (c ∷ cs) w h f = elim f [
    | inl (z, a, good) ↦ (but w c.spec z, but_all w c.spec z a h, inl (subst (λ (s : State). Has c.colours s.colour) (sym (but_same w c.spec z)) good))
    | inr x ↦ let (v, p, k) = one_holds cs w h x in (v, p, inr k)
  ]

  pub none_holds : (cs : List Term) (v : ℕ → State) → ((i : ℕ) → i < n → A i (v i)) → AreTerms n cs → Keeps cs v → HoldOne A cs
  none_holds [] v h t k = k
  none_holds (c ∷ cs) v h (lt, other, t) k = elim k [ inl x ↦ inl (v c.spec, h c.spec lt, x) | inr x ↦ inr (none_holds cs v h t x) ]

  pub kept_by : (cs : List Term) (j : ℕ) (d : Term) (v : ℕ → State) → ((i : ℕ) → i < n → A i (v i)) → AreTerms n cs → j < length cs → (SomeNot A (get_or cs j d) → ⊥) → Keeps cs v
  kept_by [] j d v h t lt no_other = absurd (omega arith)
  kept_by (c ∷ cs) zero d v h (lt, other, t) l no_other = elim (cases_eq (bit_at c.colours (v c.spec).colour) 1) [ inl x ↦ inl x | inr x ↦ absurd (no_other (v c.spec, h c.spec lt, x)) ]
  kept_by (c ∷ cs) (suc j) d v h (lt, other, t) l no_other = inr (kept_by cs j d v h t (omega arith) no_other)

-- one term more
pub fail_more : (A : ℕ → State → Type 0) (cs : List Term) (c : Term) → FailEach A cs → SomeNot A c → FailEach A (cs ++ c ∷ [])
fail_more A [] c f g = (g, tt)
fail_more A (x ∷ cs) c (a, f) g = (a, fail_more A cs c f g)

pub hold_more : (A : ℕ → State → Type 0) (cs : List Term) (c : Term) → HoldOne A (cs ++ c ∷ []) ↔ (HoldOne A cs ⊎ SomeIn A c)
hold_more A [] c = ((λ h. elim h [ inl x ↦ inr x | inr x ↦ absurd x ]), λ h. elim h [ inl x ↦ absurd x | inr x ↦ inl x ])
hold_more A (x ∷ cs) c = (
  (λ h. elim h [ inl y ↦ inl (inl y) | inr y ↦ elim ((hold_more A cs c).0 y) [ inl z ↦ inl (inr z) | inr z ↦ inr z ] ]),
  λ h. elim h [ inl y ↦ elim y [ inl z ↦ inl z | inr z ↦ inr ((hold_more A cs c).1 (inl z)) ] | inr y ↦ inr ((hold_more A cs c).1 (inr y)) ],
)

-- the place at a tenth's end is the end of its tenth
pub end_place : (k : Track) (rows : List Row) (ss : List Stretch) (f t x i : ℕ) (before : List (List Span)) (after : List (Option ℤ)) (v : State) → IsPlace f t rows ss x i → RowsIn (x + 1) t (drop i rows) → IsAtPlace k rows ss f t before after x i v ↔ IsAtEnd k (known_at ss) (events_at rows) f x t before after v
end_place k rows ss f t x i before after v p later =
    let K = known_at ss in
    let G = events_at rows in
    let none : events_at (drop i rows) x ≡ [] = none_at (drop i rows) (x + 1) t x later (omega arith) in
    let whole : G x ≡ events_at (take i rows) x = ap (λ rs. events_at rs x) (sym (take-append-drop i rows)) ∙ (events_join (take i rows) (drop i rows) x ∙ (ap (λ zs. events_at (take i rows) x ++ zs) none ∙ append-nil (events_at (take i rows) x))) in
    let join = λ (s : State). agreeing_join k K G f x (x + 1) s v p.first (omega arith) in
    let last = λ (a : State). agreeing_first k K G x (x + 1) a v (omega arith) p.is_known in
    let empty = λ (b : State). agreeing_none k K G (x + 1) b v in (
      (λ ((s, hs, (a, ag, ev)), (u, (b, ev2, ag2), au)).
          let same : b ≡ v = rw none at ev2 in
          ((s, hs, (join s).1 (a, ag, (last a).1 (v, rw whole ev, (empty v).1 refl))), (u, subst (λ (z : State). Agreeing k K G (x + 1) t z u) same ag2, au))),
      λ ((s, hs, ag), (u, ag2, au)).
          let (a, b, c) = (join s).0 ag in
          let (z, ev, q) = (last a).0 c in
          ((s, hs, (a, b, subst (λ (y : State). Steps k.rules (pos x) a (letters k (events_at (take i rows) x)) y) (sym ((empty z).0 q)) (rw (← whole) ev))), (u, (v, rw none refl, ag2), au)),
    )

pub terms_below : (n j : ℕ) (d : Term) (cs : List Term) → AreTerms n cs → j < length cs → (get_or cs j d).spec < n
terms_below n j d [] t lt = absurd (omega arith)
terms_below n zero d (c ∷ cs) (lt, other, t) l = lt
terms_below n (suc j) d (c ∷ cs) (lt, other, t) l = terms_below n j d cs t (omega arith)

pub verdict_turn : (A : ℕ → State → Type 0) (cs : List Term) (i : ℕ) (one : Term) (some some_true some_false new : Bool) → one ≡ get_or cs i one → i < length cs → FailEach A (take i cs) → (IsTrue some ↔ HoldOne A (take i cs)) → (IsTrue some_true ↔ SomeIn A one) → (IsTrue some_false ↔ SomeNot A one) → some_false ≡ true → (IsTrue new ↔ (IsTrue some ⊎ IsTrue some_true)) → FailEach A (take (i + 1) cs) × (IsTrue new ↔ HoldOne A (take (i + 1) cs))
verdict_turn A cs i one some some_true some_false new same lt f h t g is_true e =
    let k = hold_more A (take i cs) one in
    let more : take (i + 1) cs ≡ take i cs ++ one ∷ [] = take_more cs i one lt ∙ ap (λ y. take i cs ++ y ∷ []) (sym same) in
    rw more (
      fail_more A (take i cs) one f (g.0 is_true),
      ((λ x. k.1 (elim (e.0 x) [ inl y ↦ inl (h.0 y) | inr y ↦ inr (t.0 y) ])), λ x. e.1 (elim (k.0 x) [ inl y ↦ inl (h.1 y) | inr y ↦ inr (t.1 y) ])),
    )

-- what is seen at the place after the rows of a tenth is seen at its end
pub sees_end : (log : HourLog) (x i : ℕ) (test : Test) (seen : Seen) → IsPlace (first_tenth log.hour) (end_tenth log.hour) log.rows log.stretches x (count_before (x + 1) log.rows) → RowsIn (x + 1) (end_tenth log.hour) (drop (count_before (x + 1) log.rows) log.rows) → SeesAt (track (get_or log.specs i no_spec)) log.rows log.stretches (first_tenth log.hour) (end_tenth log.hour) (get_or log.before i []) (get_or log.after i []) x (count_before (x + 1) log.rows) test seen → SeesEnd log x i test seen
sees_end log x i test seen place later sees =
    let q = λ (v : State). end_place (track (get_or log.specs i no_spec)) log.rows log.stretches (first_tenth log.hour) (end_tenth log.hour) x (count_before (x + 1) log.rows) (get_or log.before i []) (get_or log.after i []) v place later in
    record {
      some_true = then_iff sees.some_true ((λ (v, a, t). (v, (q v).0 a, t)), (λ (v, a, t). (v, (q v).1 a, t)));
      some_false = then_iff sees.some_false ((λ (v, a, t). (v, (q v).0 a, t)), (λ (v, a, t). (v, (q v).1 a, t)));
    }

pub histories_are : (log : HourLog) (x : ℕ) → IsLog log → known_at log.stretches x ≡ true → (v : ℕ → State) → PassStates log x v ↔ ((i : ℕ) → i < length log.specs → MayPass log x i (v i))
histories_are log x is known v =
    let (a, b) = known_within (first_tenth log.hour) (end_tenth log.hour) x log.stretches is.is_hour.follow known in
    product (length log.specs) (λ i. track (get_or log.specs i no_spec)) (tracks_are log.specs no_spec is.are_specs) (known_at log.stretches) (events_at log.rows) (first_tenth log.hour) x (end_tenth log.hour) (omega arith) (omega arith) (λ i. get_or log.before i []) (λ i. get_or log.after i []) v

pub term_sees : (log : HourLog) (x : ℕ) (term : Term) (test : Test) (seen : Seen) → test.colours ≡ term.colours → test.bound ≡ Any → SeesEnd log x term.spec test seen → (IsTrue seen.some_true ↔ SomeIn (MayPass log x) term) × (IsTrue seen.some_false ↔ SomeNot (MayPass log x) term)
term_sees log x term test seen colours bound sees =
    let m : (v : State) → Meets test v ↔ Has term.colours v.colour = λ v. rw (colours, bound) ((λ x. x.0), λ x. (x, tt)) in (
      then_iff sees.some_true ((λ (v, a, t). (v, a, (m v).0 t)), (λ (v, a, t). (v, a, (m v).1 t))),
      then_iff sees.some_false ((λ (v, a, t). (v, a, λ h. t ((m v).1 h))), (λ (v, a, t). (v, a, λ h. t ((m v).0 h)))),
    )

-- no two terms are of one channel, and each is of one of the first n
pub are_terms : (n : ℕ) (cs : List Term) → AreWithin n cs → AreApart cs → AreTerms n cs
are_terms n [] w a = tt
are_terms n (c ∷ cs) (lt, w) (other, a) = (lt, other, are_terms n cs w a)

-- a test of the terms against the later ones
pub not_of : (i : ℕ) (cs : List Term) → (HasSpec i cs → ⊥) → NotOf i cs
not_of i [] h = tt
not_of i (c ∷ cs) h = ((λ e. h (inl e)), not_of i cs (λ x. h (inr x)))

has_not : (i : ℕ) (cs : List Term) → NotOf i cs → HasSpec i cs → ⊥
has_not i [] n h = h
has_not i (c ∷ cs) (ne, n) h = elim h [ inl e ↦ ne e | inr x ↦ has_not i cs n x ]

-- the first k terms are apart from all after them
abbrev pub ApartUntil : ℕ → List Term → Type 0
ApartUntil k cs = AreApart (drop k cs) → AreApart cs

pub apart_turn : (cs : List Term) (k : ℕ) (d : Term) → k < length cs → (HasSpec (get_or cs k d).spec (drop (k + 1) cs) → ⊥) → ApartUntil k cs → ApartUntil (k + 1) cs
apart_turn cs k d lt other inv a = inv (subst (λ (xs : List Term). AreApart xs) (sym (drop_more cs k d lt)) (not_of (get_or cs k d).spec (drop (k + 1) cs) other, a))

apart_drop : (cs : List Term) (k : ℕ) → AreApart cs → AreApart (drop k cs)
apart_drop cs zero a = a
apart_drop [] (suc k) a = tt
apart_drop (c ∷ cs) (suc k) (n, a) = apart_drop cs k a

pub apart_all : (cs : List Term) (k : ℕ) → length cs ≤ k → ApartUntil k cs → AreApart cs
apart_all cs k le inv = let none : drop k cs ≡ [] = drop_all k cs le in inv (rw none tt)

pub has_more : (i : ℕ) (cs : List Term) (k : ℕ) (d : Term) → k < length cs → ((get_or cs k d).spec ≡ i → ⊥) → (HasSpec i cs ↔ HasSpec i (drop k cs)) → HasSpec i cs ↔ HasSpec i (drop (k + 1) cs)
has_more i cs k d lt other inv =
    let e = drop_more cs k d lt in
    let step : HasSpec i (drop k cs) ↔ HasSpec i (drop (k + 1) cs) = rw e ((λ h. elim h [ inl x ↦ absurd (other x) | inr x ↦ x ]), λ x. inr x) in
    then_iff inv step

pub has_none : (i : ℕ) (cs : List Term) (k : ℕ) → length cs ≤ k → (HasSpec i cs ↔ HasSpec i (drop k cs)) → HasSpec i cs → ⊥
has_none i cs k le inv h = let none : drop k cs ≡ [] = drop_all k cs le in rw none at (inv.0 h)

pub apart_not : (cs : List Term) (k : ℕ) (d : Term) → k < length cs → HasSpec (get_or cs k d).spec (drop (k + 1) cs) → AreApart cs → ⊥
apart_not cs k d lt h a = let b = subst (λ (xs : List Term). AreApart xs) (drop_more cs k d lt) (apart_drop cs k a) in has_not (get_or cs k d).spec (drop (k + 1) cs) b.0 h

pub clash : (b : Bool) → IsTrue b → b ≡ false → ⊥
clash b t f = let bad : true ≡ false = sym t ∙ f in absurd (cc)

pub not_false : (b : Bool) → not b ≡ false → b ≡ true
not_false true e = refl
not_false false e = let bad : true ≡ false = e in absurd (cc)
