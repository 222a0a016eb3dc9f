-- The runs over the stretches of an hour are the walks over the channel's moves.
use Rattle.std.proofs.Common.{suc, zero, ◌≡◌, ◌≢◌, refl, ap, sym, ◌∙◌, subst, inl, inr, ◌↔◌, ℕ, ◌+◌, ◌-◌, ◌<◌, ◌≤◌, ℤ, pos, ◌+ℤ◌, Bool, true, false, nat_eq, nat_lt, nat_le, ◌&&◌, ◌||◌, List, [], ◌∷◌, ◌++◌, length, length-append, take, drop, arith, Option, Some, None}
use Rattle.std.proofs.lemmas.Int.{ints}
use Rattle.std.proofs.lemmas.Bool.{cases_Bool}
use Rattle.std.proofs.lemmas.Bool.{leb-true, le-leb, lt-ltb}
use Rattle.std.proofs.lemmas.Bool.Decides.{eqb_tells}
use Rattle.colour_machine.specs.Rules.{Rules}
use Rattle.reach.specs.Runs.{State, Step, Steps, Run, Fills}
use Rattle.reach.proofs.Later.{then_iff}
use Rattle.channel_path.specs.declared.moves.Move.{Move}
use Rattle.channel_path.specs.Walks.{Walk}
use Rattle.channel_path.proofs.Moving.{walk_join}
use Rattle.sig_base.specs.declared.values.Row.{Row}
use Rattle.sig_base.proofs.Common.{not_less}
use Rattle.gap_map.specs.declared.stretch.Stretch.{Stretch}
use Rattle.gap_map.specs.Stretches.{FollowOn, known_at}
use Rattle.gap_map.proofs.Cutting.{nat_cases}
use Rattle.board.specs.History.{Agree, Agreeing, Event, Track, event_of, events_at, letters, put}
use Rattle.board.specs.Moves.{RowsIn, count_before, letter_moves, own, stretch_moves, with_letter}

-- one range of tenths and then another
pub run_join : (m : Rules) (t x : ℤ) (xs ys : List (List ℕ)) (s u : State) → (t +ℤ pos (length xs)) ≡ x → Run m t s (xs ++ ys) u ↔ ((v : State) × Run m t s xs v × Run m x v ys u)
run_join m t x [] ys s u e =
    let same : t ≡ x = omega (arith, ints) in
    (λ r. (s, refl, subst (λ (y : ℤ). Run m y s ys u) same r), λ (v, q, r). subst (λ (w : State). Run m t w ys u) q (subst (λ (y : ℤ). Run m y v ys u) (sym same) r))
run_join m t x (ls ∷ xs) ys s u e =
    let k = λ (z : State). run_join m (t +ℤ pos 1) x xs ys z u (omega (arith, ints)) in (
      λ (z, a, r). let q = (k z).0 r in (q.0, (z, a, q.1), q.2),
      λ (v, (z, a, q), r). (z, a, (k z).1 (v, q, r)),
    )

pub agree_join : {A : Type 0} → (known : ℕ → Bool) (given : ℕ → A) (t x : ℕ) (xs ys : List A) → t + length xs ≡ x → Agree known given t (xs ++ ys) ↔ (Agree known given t xs × Agree known given x ys)
agree_join known given t x [] ys e = let same : t ≡ x = omega arith in (λ a. (tt, subst (λ (y : ℕ). Agree known given y ys) same a), λ (_, b). subst (λ (y : ℕ). Agree known given y ys) (sym same) b)
agree_join known given t x (ls ∷ xs) ys e =
    let k = agree_join known given (t + 1) x xs ys (omega arith) in
    (λ (a, r). let q = k.0 r in ((a, q.0), q.1), λ ((a, p), q). (a, k.1 (p, q)))

cut_list : (xs : List (List ℕ)) (n m : ℕ) → length xs ≡ n + m → (ys : List (List ℕ)) × (zs : List (List ℕ)) × (length ys ≡ n) × (length zs ≡ m) × (xs ≡ ys ++ zs)
cut_list xs zero m e = ([], xs, refl, (let q = e in omega arith), refl)
cut_list [] (suc n) m e = absurd (omega arith)
cut_list (x ∷ xs) (suc n) m e = let (ys, zs, a, b, c) = cut_list xs n m (omega arith) in (x ∷ ys, zs, ap suc a, b, ap (λ ws. x ∷ ws) c)

pub agreeing_join : (k : Track) (known : ℕ → Bool) (given : ℕ → List Event) (f x t : ℕ) (s u : State) → f ≤ x → x ≤ t → Agreeing k known given f t s u ↔ ((v : State) × Agreeing k known given f x s v × Agreeing k known given x t v u)
agreeing_join k known given f x t s u h1 h2 =
    let L : ℕ → List ℕ = λ y. letters k (given y) in (
      λ (lists, len, (a, r)).
          let (ys, zs, ly, lz, e) = cut_list lists (x - f) (t - x) (omega arith) in
          let at : f + length ys ≡ x = omega arith in
          let a2 = (agree_join known L f x ys zs at).0 (rw (← e) a) in
          let r2 = (run_join k.rules (pos f) (pos x) ys zs s u (omega (arith, ints))).0 (rw (← e) r) in
          (r2.0, (ys, at, (a2.0, r2.1)), (zs, (omega arith), (a2.1, r2.2))),
      λ (v, (ys, ly, (a, r)), (zs, lz, (b, q))).
          (ys ++ zs, (let l = length-append ys zs in omega arith), ((agree_join known L f x ys zs ly).1 (a, b), (run_join k.rules (pos f) (pos x) ys zs s u (omega (arith, ints))).1 (v, r, q))),
    )

agree_same : (known known2 : ℕ → Bool) (given given2 : ℕ → List ℕ) (f t : ℕ) (xs : List (List ℕ)) → f + length xs ≡ t → ((x : ℕ) → f ≤ x → x < t → known x ≡ known2 x) → ((x : ℕ) → f ≤ x → x < t → given x ≡ given2 x) → Agree known given f xs → Agree known2 given2 f xs
agree_same known known2 given given2 f t [] e h g a = tt
agree_same known known2 given given2 f t (x ∷ xs) e h g (a, r) =
    (λ is_known. a (h f (omega arith) (omega arith) ∙ is_known) ∙ g f (omega arith) (omega arith), agree_same known known2 given given2 (f + 1) t xs (omega arith) (λ y l1 l2. h y (omega arith) l2) (λ y l1 l2. g y (omega arith) l2) r)

-- only what is known and given in the range matters
pub agreeing_same : (k : Track) (known known2 : ℕ → Bool) (given given2 : ℕ → List Event) (f t : ℕ) (s u : State) → ((x : ℕ) → f ≤ x → x < t → known x ≡ known2 x) → ((x : ℕ) → f ≤ x → x < t → given x ≡ given2 x) → Agreeing k known given f t s u → Agreeing k known2 given2 f t s u
agreeing_same k known known2 given given2 f t s u h g (lists, len, (a, r)) =
    (lists, len, (agree_same known known2 (λ x. letters k (given x)) (λ x. letters k (given2 x)) f t lists len h (λ x l1 l2. ap (λ y. letters k y) (g x l1 l2)) a, r))

-- nothing is known: any legal letters
agree_free : (known : ℕ → Bool) (given : ℕ → List ℕ) (f t : ℕ) (xs : List (List ℕ)) → f + length xs ≡ t → ((x : ℕ) → f ≤ x → x < t → known x ≡ false) → Agree known given f xs
agree_free known given f t [] e h = tt
agree_free known given f t (x ∷ xs) e h = ((λ is_known. let no = h f (omega arith) (omega arith) in absurd (cc)), agree_free known given (f + 1) t xs (omega arith) (λ y l1 l2. h y (omega arith) l2))

pub gap_free : (k : Track) (known : ℕ → Bool) (given : ℕ → List Event) (f t : ℕ) (s u : State) → ((x : ℕ) → f ≤ x → x < t → known x ≡ false) → Agreeing k known given f t s u ↔ Fills k.rules (pos f) (pos t) s u
gap_free k known given f t s u h = (
  λ (lists, len, (a, r)). (lists, omega (arith, ints), r),
  λ (lists, len, r). let e : f + length lists ≡ t = omega (arith, ints) in (lists, e, (agree_free known (λ x. letters k (given x)) f t lists e h, r)),
)

pub event_here : (r : Row) (rs : List Row) (x : ℕ) → nat_eq r.at x ≡ true → events_at (r ∷ rs) x ≡ event_of r ∷ events_at rs x
event_here r rs x e = rw e

pub event_not_here : (r : Row) (rs : List Row) (x : ℕ) → r.at ≢ x → events_at (r ∷ rs) x ≡ events_at rs x
event_not_here r rs x ne = elim (eqb_tells r.at x) [ inl (e, q) ↦ absurd (ne q) | inr (e, _) ↦ rw e ]

-- no row is at an earlier tenth
pub none_at : (rs : List Row) (f t x : ℕ) → RowsIn f t rs → x < f → events_at rs x ≡ []
none_at [] f t x h lt = refl
none_at (r ∷ rs) f t x h lt = let a = h.0 in event_not_here r rs x (λ e. absurd (omega arith)) ∙ none_at rs r.at t x h.2 (omega arith)

peel_one : (m : Rules) (o : Option ℕ) (at f i : ℕ) (ls : List ℕ) (ms qs : List Move) → at ≡ f → ((s u : State) → Walk m ms s u ↔ ((v : State) × Steps m (pos f) s ls v × Walk m qs v u)) → (s u : State) → Walk m (with_letter o at i ms) s u ↔ ((v : State) × Steps m (pos f) s (put o ls) v × Walk m qs v u)
peel_one m None at f i ls ms qs e h s u = h s u
peel_one m (Some l) at f i ls ms qs e h s u = (
  λ (z, a, w). let (v, b, q) = (h z u).0 w in (v, (z, subst (λ (y : ℕ). Step m (pos y) s l z) e a, b), q),
  λ (v, (z, a, b), q). (z, subst (λ (y : ℕ). Step m (pos y) s l z) (sym e) a, (h z u).1 (v, b, q)),
)

Peeled : Track → ℕ → ℕ → ℕ → List Row → List Row → ℕ → Type 0
Peeled k f t i rs qs j = RowsIn (f + 1) t qs × ((x : ℕ) → f < x → events_at rs x ≡ events_at qs x) × ((s u : State) → Walk k.rules (letter_moves k i rs) s u ↔ ((v : State) × Steps k.rules (pos f) s (letters k (events_at rs f)) v × Walk k.rules (letter_moves k j qs) v u))

-- the rows of the first tenth, and the others
peel : (k : Track) (f t i : ℕ) (rs : List Row) → f < t → RowsIn f t rs → (qs : List Row) × (j : ℕ) × Peeled k f t i rs qs j
unfolding Peeled
peel k f t i [] lt h = ([], i, ((omega arith), (λ x l. refl), λ s u. (λ w. (s, refl, w), λ (v, e, w). subst (λ (z : State). u ≡ z) e w)))
peel k f t i (r ∷ rs) lt h = elim (eqb_tells r.at f) [
  | inl (test, e) ↦
      let (qs, j, (p, ats, w)) = peel k f t (i + 1) rs lt (subst (λ (y : ℕ). RowsIn y t rs) e h.2) in (
        qs,
        j,
        (
          p,
          (λ x l. event_not_here r rs x (λ q. absurd (omega arith)) ∙ ats x l),
          λ s u. rw (event_here r rs f test) (peel_one k.rules (k.letter r.code r.param) r.at f i (letters k (events_at rs f)) (letter_moves k (i + 1) rs) (letter_moves k j qs) e w s u),
        ),
      )
  | inr (test, ne) ↦
      let late : RowsIn (f + 1) t (r ∷ rs) = ((let a = h.0 in omega arith), h.1, h.2) in
      let none : events_at (r ∷ rs) f ≡ [] = none_at (r ∷ rs) (f + 1) t f late (omega arith) in
      (r ∷ rs, i, (late, (λ x l. refl), λ s u. rw none (λ w. (s, refl, w), λ (v, e, w). rw (← e) w)))
]

cut : (k : Track) (known : ℕ → Bool) (given : ℕ → List Event) (f t : ℕ) (s u : State) → f < t → known f ≡ true → (lists : List (List ℕ)) → f + length lists ≡ t → Agree known (λ x. letters k (given x)) f lists → Run k.rules (pos f) s lists u → (v : State) × Steps k.rules (pos f) s (letters k (given f)) v × Agreeing k known given (f + 1) t v u
cut k known given f t s u lt e [] len a r = absurd (omega arith)
cut k known given f t s u lt e (ls ∷ rest) len a (v, ev, r) = (v, subst (λ (ms : List ℕ). Steps k.rules (pos f) s ms v) (a.0 e) ev, (rest, omega arith, (a.1, r)))

no_lists : (k : Track) (f : ℕ) (s u : State) (lists : List (List ℕ)) → f + length lists ≡ f → Run k.rules (pos f) s lists u → u ≡ s
no_lists k f s u [] e r = r
no_lists k f s u (ls ∷ rest) e r = absurd (omega arith)

pub agreeing_first : (k : Track) (known : ℕ → Bool) (given : ℕ → List Event) (f t : ℕ) (s u : State) → f < t → known f ≡ true → Agreeing k known given f t s u ↔ ((v : State) × Steps k.rules (pos f) s (letters k (given f)) v × Agreeing k known given (f + 1) t v u)
agreeing_first k known given f t s u lt e = (
  λ (lists, len, (a, r)). cut k known given f t s u lt e lists len a r,
  λ (v, ev, (rest, len, (a, r))). (letters k (given f) ∷ rest, omega arith, (((λ _. refl), a), (v, ev, r))),
)

pub agreeing_none : (k : Track) (known : ℕ → Bool) (given : ℕ → List Event) (f : ℕ) (s u : State) → Agreeing k known given f f s u ↔ (u ≡ s)
agreeing_none k known given f s u = (λ (lists, len, (a, r)). no_lists k f s u lists len r, λ e. ([], omega arith, (tt, e)))

-- a known range: the letters of its rows
pub rows_walk : (k : Track) (known : ℕ → Bool) (given : ℕ → List Event) (d f t i : ℕ) (rs : List Row) (s u : State) → f + d ≡ t → RowsIn f t rs → ((x : ℕ) → f ≤ x → x < t → known x ≡ true) → ((x : ℕ) → f ≤ x → x < t → given x ≡ events_at rs x) → Agreeing k known given f t s u ↔ Walk k.rules (letter_moves k i rs) s u
unfolding Peeled
rows_walk k known given zero f t i [] s u e h n g = let same : t ≡ f = omega arith in rw same (agreeing_none k known given f s u)
rows_walk k known given zero f t i (r ∷ rs) s u e h n g = let a = h.0 in let b = h.1 in absurd (omega arith)
rows_walk k known given (suc d) f t i rs s u e h n g =
    let (qs, j, (p, ats, w)) = peel k f t i rs (omega arith) h in
    let here : given f ≡ events_at rs f = g f (omega arith) (omega arith) in
    let rest = λ (v : State). rows_walk k known given d (f + 1) t j qs v u (omega arith) p (λ x l1 l2. n x (omega arith) l2) (λ x l1 l2. g x (omega arith) l2 ∙ ats x (omega arith)) in
    let first = agreeing_first k known given f t s u (omega arith) (n f (omega arith) (omega arith)) in
    let mid = rw here at first in (
      λ a. let (v, ev, b) = mid.0 a in (w s u).1 (v, ev, (rest v).0 b),
      λ b. let (v, ev, q) = (w s u).0 b in mid.1 (v, ev, (rest v).1 q),
    )

pub leb_no : (a b : ℕ) → b < a → nat_le a b ≡ false
leb_no a b h = elim (cases_Bool (nat_le a b)) [ inl x ↦ absurd (let q = leb-true a b x in omega arith) | inr x ↦ x ]

both_no : (a : Bool) → ((a && false) || false) ≡ false
both_no true = refl
both_no false = refl

no_test : (a b c d : Bool) → b ≡ false → d ≡ false → ((a && (b && c)) || d) ≡ false
no_test a b c d e f = rw (e, f) (both_no a)

both_yes : (a : Bool) → ((a && true) || false) ≡ a
both_yes true = refl
both_yes false = refl

yes_test : (a b c d : Bool) → b ≡ true → c ≡ true → d ≡ false → ((a && (b && c)) || d) ≡ a
yes_test a b c d e f g = rw (e, f, g) (both_yes a)

past_test : (a b c d : Bool) → c ≡ false → ((a && (b && c)) || d) ≡ d
past_test true true c d e = rw e refl
past_test true false c d e = refl
past_test false b c d e = refl

pub late_end : (f t : ℕ) (ss : List Stretch) → FollowOn f t ss → f ≤ t
late_end f t [] e = omega arith
late_end f t (s ∷ ss) h = let k = late_end s.to t ss h.2 in let a = h.1 in omega arith

-- no stretch has an earlier tenth
pub known_late : (ss : List Stretch) (f t x : ℕ) → FollowOn f t ss → x < f → known_at ss x ≡ false
known_late [] f t x h lt = refl
known_late (s ∷ ss) f t x h lt = let a = h.0 in let b = h.1 in no_test s.known (nat_le s.from x) (nat_lt x s.to) (known_at ss x) (leb_no s.from x (omega arith)) (known_late ss s.to t x h.2 (omega arith))

pub known_here : (s : Stretch) (ss : List Stretch) (f t x : ℕ) → FollowOn f t (s ∷ ss) → f ≤ x → x < s.to → known_at (s ∷ ss) x ≡ s.known
known_here s ss f t x h l1 l2 = let a = h.0 in yes_test s.known (nat_le s.from x) (nat_lt x s.to) (known_at ss x) (le-leb s.from x (omega arith)) (lt-ltb x s.to l2) (known_late ss s.to t x h.2 l2)

pub known_there : (s : Stretch) (ss : List Stretch) (x : ℕ) → s.to ≤ x → known_at (s ∷ ss) x ≡ known_at ss x
known_there s ss x l = past_test s.known (nat_le s.from x) (nat_lt x s.to) (known_at ss x) (not_less x s.to l)

abbrev pub CutAt : ℕ → ℕ → ℕ → List Row → List Row → List Row → Type 0
CutAt f m t rows before rest = RowsIn f m before × RowsIn m t rest × ((x : ℕ) → x < m → events_at rows x ≡ events_at before x) × ((x : ℕ) → m ≤ x → events_at rows x ≡ events_at rest x)

pub cut_rows : (f m t : ℕ) (rows : List Row) → f ≤ m → m ≤ t → RowsIn f t rows → CutAt f m t rows (take (count_before m rows) rows) (drop (count_before m rows) rows)
cut_rows f m t [] a b h = (a, b, (λ x l. refl), λ x l. refl)
cut_rows f m t (r ∷ rows) a b h = elim (nat_cases r.at m) [
  | inl (test, lt) ↦ rw test (
      let q = h.0 in
      let (k1, k2, k3, k4) = cut_rows r.at m t rows (omega arith) b h.2 in (
        (q, lt, k1),
        k2,
        (λ x l. elim (eqb_tells r.at x) [ inl (e, _) ↦ rw e (ap (λ zs. event_of r ∷ zs) (k3 x l)) | inr (e, _) ↦ rw e (k3 x l) ]),
        λ x l. event_not_here r rows x (λ e. absurd (omega arith)) ∙ k4 x l,
      ))
  | inr (test, le) ↦ rw test (
    a,
    (le, h.1, h.2),
    (λ x l. none_at (r ∷ rows) m t x (le, h.1, h.2) l),
    λ x l. refl,
  )
]

part_walk : (k : Track) (known : ℕ → Bool) (given : ℕ → List Event) (st : Stretch) (f i : ℕ) (rs : List Row) (s u : State) → st.from ≡ f → f < st.to → RowsIn f st.to rs → ((x : ℕ) → f ≤ x → x < st.to → known x ≡ st.known) → ((x : ℕ) → f ≤ x → x < st.to → given x ≡ events_at rs x) → Agreeing k known given f st.to s u ↔ Walk k.rules (stretch_moves k i rs st) s u
part_walk k known given st f i rs s u e lt h n g = elim (cases_Bool st.known) [
  | inl yes_known ↦ rw yes_known (rows_walk k known given (st.to - f) f st.to i rs s u (omega arith) h (λ x l1 l2. n x l1 l2 ∙ yes_known) g)
  | inr not_known ↦ rw (not_known, e) (then_iff (gap_free k known given f st.to s u (λ x l1 l2. n x l1 l2 ∙ not_known)) ((λ w. (u, w, refl)), (λ (v, w, q). subst (λ (z : State). Fills k.rules (pos f) (pos st.to) s z) (sym q) w)))
]

-- the runs over the stretches are the walks over the channel's moves
pub own_walk : (k : Track) (known : ℕ → Bool) (given : ℕ → List Event) (f t i : ℕ) (rows : List Row) (ss : List Stretch) (s u : State) → FollowOn f t ss → RowsIn f t rows → ((x : ℕ) → f ≤ x → x < t → known x ≡ known_at ss x) → ((x : ℕ) → f ≤ x → x < t → given x ≡ events_at rows x) → Agreeing k known given f t s u ↔ Walk k.rules (own k i rows ss) s u
own_walk k known given f t i rows [] s u e h n g = let same : t ≡ f = omega arith in rw same (agreeing_none k known given f s u)
own_walk k known given f t i rows (st ∷ ss) s u h r n g =
    let m = st.to in
    let end = late_end st.to t ss h.2 in
    let lt = h.1 in
    let c = count_before st.to rows in
    let (k1, k2, k3, k4) = cut_rows f st.to t rows (omega arith) end r in
    let one = λ (v : State). part_walk k known given st f i (take c rows) s v h.0 lt k1 (λ x l1 l2. n x l1 (omega arith) ∙ known_here st ss f t x h l1 l2) (λ x l1 l2. g x l1 (omega arith) ∙ k3 x l2) in
    let two = λ (v : State). own_walk k known given st.to t (i + c) (drop c rows) ss v u h.2 k2 (λ x l1 l2. n x (omega arith) l2 ∙ known_there st ss x l1) (λ x l1 l2. g x (omega arith) l2 ∙ k4 x l1) in
    then_iff (agreeing_join k known given f st.to t s u (omega arith) end) (
      (λ (v, a, b). (walk_join k.rules (stretch_moves k i (take c rows) st) (own k (i + c) (drop c rows) ss) s u).1 (v, (one v).0 a, (two v).0 b)),
      (λ w. let (v, a, b) = (walk_join k.rules (stretch_moves k i (take c rows) st) (own k (i + c) (drop c rows) ss) s u).0 w in (v, (one v).1 a, (two v).1 b)),
    )
