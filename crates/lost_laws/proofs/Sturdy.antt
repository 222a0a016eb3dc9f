-- A line is sturdy where its rule is broken in each history of which three rows were lost or fewer.
use Rattle.std.proofs.Common.{suc, zero, ◌≡◌, refl, ap, sym, ◌∙◌, subst, ◌⊎◌, inl, inr, ℕ, ◌+◌, ◌<◌, ℤ, pos, ◌+ℤ◌, true, false, List, [], ◌∷◌, length, map, take, get_or, arith, Option, Some, None}
use Rattle.std.proofs.lemmas.Int.{ints}
use Rattle.std.proofs.lemmas.Bool.{cases_Bool, cases_eq, cases_lt, cases_order}
use Rattle.std.proofs.lemmas.List.{length-map, get_or-map}
use Rattle.sig_base.proofs.Common.{some_same}
use Rattle.span_set.proofs.Sets.{int_cases}
use Rattle.colour_machine.specs.Rules.{Goes}
use Rattle.reach.specs.Runs.{State, state, Steps}
use Rattle.reach.specs.Tests.{InBound}
use Rattle.reach.specs.declared.seen.AgeBound.{AgeBound}
use Rattle.reach.specs.declared.seen.AgeBound.TheVariants.{Any, AtLeast, AtMost}
use Rattle.board.specs.History.{Event, events_at, put, start_of}
use Rattle.board.proofs.Product.{choose}
use Rattle.signal_log.specs.Log.{Log, track_at}
use Rattle.signal_log.specs.States.{IsAfterEvents, IsAtEndOf}
use Rattle.lost_rows.specs.Marked.{LosesRows, Marked, MarkedHistory, events_of, plain, told}
use Rattle.lost_rows.specs.Lines.{ComesBefore, IntervalLine, IntervalRule, KeptInHistory, no_event, tenth_of}
use Rattle.lost_laws.specs.Sturdy.{BrokenInHistory, EndsHaveStates, RowStands, SturdyHoldsNone, SturdyIsBroken}
use Rattle.lost_laws.proofs.Places.{after_once, agree_at, option_cases, passes, run_cut}

bound_cases : (b : AgeBound) (t e : ℤ) → InBound b t e ⊎ (InBound b t e → ⊥)
bound_cases Any t e = inl tt
bound_cases (AtLeast n) t e = elim (int_cases t (e +ℤ pos n)) [ inl (_, lt) ↦ inr (λ le. omega (arith, ints)) | inr (_, le) ↦ inl le ]
bound_cases (AtMost n) t e = elim (int_cases (e +ℤ pos n) t) [ inl (_, lt) ↦ inr (λ le. omega (arith, ints)) | inr (_, le) ↦ inl le ]

-- in a history a rule is kept or broken at each event
kept_or_broken : (log : Log) (r : IntervalRule) (h : MarkedHistory) (k x p : ℕ) → LosesRows log h k → r.channel < length log.specs → p < length (tenth_of h x) → KeptInHistory log r h x p ⊎ BrokenInHistory log r h x p
kept_or_broken log r h k x p loses small lt =
    let c = track_at log r.channel in
    let e = (get_or (tenth_of h x) p no_event).event in
    let (v, w, comes, step) = passes log h k r.channel x p loses small lt in
    let once : (z : State) → IsAfterEvents log (plain h) r.channel x p z → z ≡ v = λ z a. after_once log (plain h) r.channel x p z v a comes in
    elim (option_cases (c.letter e.code e.param)) [
      | inl none ↦ inl (λ z a same l d is. absurd (let bad : None ≡ Some l = sym none ∙ is in cc))
      | inr (l, is) ↦
          let (u, (goes, _), _) = (subst (λ (o : Option ℕ). Steps c.rules (pos x) v (put o []) w) is step) in
          elim (cases_eq v.colour r.colour) [
            | inr ne ↦ inl (λ z a same. absurd (ne (ap (λ (y : State). y.colour) (sym (once z a)) ∙ same)))
            | inl same ↦ elim (cases_eq u.colour v.colour) [
              | inl stays ↦ inl (λ z a _ l2 d is2 go ne. absurd (let at = once z a in let one : Some l ≡ Some l2 = sym is ∙ is2 in let two = some_same l l2 one in let go2 : Goes c.rules v.colour l d = subst (λ (y : ℕ). Goes c.rules v.colour y d) (sym two) (subst (λ (y : State). Goes c.rules y.colour l2 d) at go) in let three : d ≡ u.colour = some_same d u.colour (sym go2.2 ∙ goes.2) in ne (three ∙ (stays ∙ ap (λ (y : State). y.colour) (sym at)))))
              | inr leaves ↦ elim (bound_cases r.bound (pos x) v.entry) [
                | inl met ↦ inl (λ z a _ l2 d is2 go ne. subst (λ (y : State). InBound r.bound (pos x) y.entry) (sym (once z a)) met)
                | inr unmet ↦ inr (record { state = v; comes = comes; colour = same; letter = l; is_letter = is; next = u.colour; goes = goes; leaves = leaves; unmet = unmet })
              ]
            ]
          ]
    ]

-- the first of some, or none
search_below : (n : ℕ) (P Q : ℕ → Type 0) → ((i : ℕ) → i < n → P i ⊎ Q i) → ((i : ℕ) × (i < n) × Q i) ⊎ ((i : ℕ) → i < n → P i)
search_below zero P Q h = inr (λ i lt. absurd (omega arith))
search_below (suc n) P Q h = elim (search_below n P Q (λ i lt. h i (omega arith))) [
  | inl (i, lt, q) ↦ inl (i, omega arith, q)
  | inr all ↦ elim (h n (omega arith)) [
    | inr q ↦ inl (n, omega arith, q)
    | inl p ↦ inr (λ i lt. elim (cases_eq i n) [ inl e ↦ subst P (sym e) p | inr ne ↦ all i (omega arith) ])
  ]
]

before_cases : (y q x p : ℕ) → ComesBefore y q x p ⊎ (ComesBefore y q x p → ⊥)
before_cases y q x p = elim (cases_order y x) [
  | inl e ↦ elim (cases_lt q p) [
    | inl lt ↦ inl (inr (e, lt))
    | inr ge ↦ inr (λ b. elim b [ inl lt ↦ absurd (omega arith) | inr (_, lt) ↦ absurd (omega arith) ])
  ]
  | inr (inl lt) ↦ inl (inl lt)
  | inr (inr gt) ↦ inr (λ b. elim b [ inl lt ↦ absurd (omega arith) | inr (e, _) ↦ absurd (omega arith) ])
]

-- the rule is kept at the event, should it be a lost one before the place
abbrev SparedAt : Log → IntervalLine → MarkedHistory → ℕ → ℕ → ℕ → Type 0
SparedAt log line h p y q = ComesBefore y q line.at p → (get_or (tenth_of h y) q no_event).lost ≡ true → KeptInHistory log line.rule h y q

abbrev BrokenAt : Log → IntervalLine → MarkedHistory → ℕ → ℕ → ℕ → Type 0
BrokenAt log line h p y q = ComesBefore y q line.at p × ((get_or (tenth_of h y) q no_event).lost ≡ true) × BrokenInHistory log line.rule h y q

spared_or_broken : (log : Log) (line : IntervalLine) (h : MarkedHistory) (k p y q : ℕ) → LosesRows log h k → line.rule.channel < length log.specs → q < length (tenth_of h y) → SparedAt log line h p y q ⊎ BrokenAt log line h p y q
spared_or_broken log line h k p y q loses small lt = elim (before_cases y q line.at p) [
  | inr never ↦ inl (λ b lost. absurd (never b))
  | inl b ↦ elim (cases_Bool (get_or (tenth_of h y) q no_event).lost) [
    | inr held ↦ inl (λ _ lost. absurd (let bad : true ≡ false = sym lost ∙ held in cc))
    | inl lost ↦ elim (kept_or_broken log line.rule h k y q loses small lt) [ inl kept ↦ inl (λ _ _. kept) | inr broken ↦ inr (b, lost, broken) ]
  ]
]

-- a place before is in an earlier tenth or in the same
before_tenth : (y q x p : ℕ) → ComesBefore y q x p → y < x + 1
before_tenth y q x p (inl lt) = omega arith
before_tenth y q x p (inr (e, _)) = omega arith

pub is_broken : SturdyIsBroken
is_broken log line small = (
  λ sturdy h k p le loses row. elim (kept_or_broken log line.rule h k line.at p loses small row.within) [
    | inr broken ↦ inl broken
    | inl kept ↦ elim (search_below (line.at + 1) (λ y. (q : ℕ) → q < length (tenth_of h y) → SparedAt log line h p y q) (λ y. (q : ℕ) × (q < length (tenth_of h y)) × BrokenAt log line h p y q) (λ y _. elim (search_below (length (tenth_of h y)) (λ q. SparedAt log line h p y q) (λ q. BrokenAt log line h p y q) (λ q lt. spared_or_broken log line h k p y q loses small lt)) [ inl found ↦ inr found | inr all ↦ inl all ])) [
      | inl (y, _, (q, lt, (b, lost, broken))) ↦ inr (y, q, b, lt, lost, broken)
      | inr all ↦ absurd (sturdy k le (h, loses, (p, row.within, row.held, row.before, kept, λ y q b lt lost. all y (before_tenth y q line.at p b) q lt b lost)))
    ]
  ],
  λ all k le (h, loses, (p, within, held, before, kept, earlier)). elim (all h k p le loses (record { within = within; held = held; before = before })) [
    | inl b ↦ b.unmet (kept b.state b.comes b.colour b.letter b.next b.is_letter b.goes b.leaves)
    | inr (y, q, at, lt, lost, b) ↦ b.unmet (earlier y q at lt lost b.state b.comes b.colour b.letter b.next b.is_letter b.goes b.leaves)
  ],
)

-- a held row has one place among the marked events
abbrev StandsAt : List Marked → ℕ → ℕ → Type 0
StandsAt es n p = (p < length es) × ((get_or es p no_event).lost ≡ false) × (length (told (take p es)) ≡ n)

told_here : (e : Marked) (es : List Marked) (n : ℕ) → e.lost ≡ false → n < suc (length (told es)) → ((m : ℕ) → m < length (told es) → (p : ℕ) × StandsAt es m p) → (p : ℕ) × StandsAt (e ∷ es) n p
told_here e es zero held lt rest = (zero, (omega arith, held, refl))
told_here e es (suc n) held lt rest = let (p, (less, is, before)) = rest n (omega arith) in (suc p, (omega arith, is, rw held (ap suc before)))

told_stands : (es : List Marked) (n : ℕ) → n < length (told es) → (p : ℕ) × StandsAt es n p
told_stands [] n lt = absurd (omega arith)
told_stands (e ∷ es) n lt = elim (cases_Bool e.lost) [
  | inl lost ↦ let (p, (less, held, before)) = told_stands es n (rw lost at lt) in (suc p, (omega arith, held, rw lost before))
  | inr held ↦ told_here e es n held (rw held at lt) (λ m less. told_stands es m less)
]

stands_once : (es : List Marked) (n p q : ℕ) → StandsAt es n p → StandsAt es n q → q ≡ p
stands_once [] n p q (lt, _, _) b = absurd (omega arith)
stands_once (e ∷ es) n zero zero a b = refl
stands_once (e ∷ es) n zero (suc q) (_, held, none) (_, _, some) = absurd (let more : suc (length (told (take q es))) ≡ n = rw held at some in omega arith)
stands_once (e ∷ es) n (suc p) zero (_, _, some) (_, held, none) = absurd (let more : suc (length (told (take p es))) ≡ n = rw held at some in omega arith)
stands_once (e ∷ es) n (suc p) (suc q) (l1, h1, b1) (l2, h2, b2) = elim (cases_Bool e.lost) [
  | inl lost ↦ ap suc (stands_once es n p q (omega arith, h1, rw lost at b1) (omega arith, h2, rw lost at b2))
  | inr held ↦
      let c1 : suc (length (told (take p es))) ≡ n = rw held at b1 in
      let c2 : suc (length (told (take q es))) ≡ n = rw held at b2 in
      ap suc (stands_once es (length (told (take p es))) p q (omega arith, h1, refl) (omega arith, h2, omega arith))
]

pub row_stands : RowStands
row_stands log line h k is loses =
    let covers = loses.covers in
    let within = is.within in
    let at : get_or (map told h.tenths) line.at [] ≡ told (tenth_of h line.at) = get_or-map told h.tenths line.at [] [] (omega arith) in
    let size : length (map told h.tenths) ≡ length h.tenths = length-map h.tenths told in
    let given : get_or (map told h.tenths) line.at [] ≡ events_at log.rows line.at = agree_at [] log.known (events_at log.rows) 0 line.at line.at (map told h.tenths) (omega arith) (omega arith) is.is_known loses.agree in
    let row : line.before < length (told (tenth_of h line.at)) = subst (λ (xs : List Event). line.before < length xs) (sym given ∙ at) is.row in
    let (p, (lt, held, before)) = told_stands (tenth_of h line.at) line.before row in
    (p, record { within = lt; held = held; before = before }, λ q r. stands_once (tenth_of h line.at) line.before p q (lt, held, before) (r.within, r.held, r.before))

abbrev no_state : State
no_state = state 0 (pos 0)

pub ends_have : EndsHaveStates
ends_have log h x k lt loses =
    let es = (plain h).events in
    let covers = loses.covers in
    let size : length es ≡ length h.tenths = length-map h.tenths events_of in
    let (ws, _, each) = choose no_state (length log.specs) (λ i v. IsAtEndOf log (plain h) i x v) (λ i small. let (u, r) = loses.legal i small in let (v, front, _) = run_cut (track_at log i) es (x + 1) (start_of (plain h) i) u (omega arith) r in (v, front)) in
    (λ i. get_or ws i no_state, each)

pub holds_none : SturdyHoldsNone
holds_none log line = (
  λ sturdy h k v le loses ends keeps. sturdy k le (h, loses, (v, ends, keeps)),
  λ all k le (h, loses, (v, ends, keeps)). all h k v le loses ends keeps,
)
