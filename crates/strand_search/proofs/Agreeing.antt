-- Fillings of an hour, stretch by stretch.
use Rattle.std.proofs.Common.{◌≡◌, refl, sym, ap, ◌∙◌, subst, inl, inr, ℕ, ◌+◌, ◌-◌, ◌<◌, ◌≤◌, pos, Bool, true, false, if◌then◌else◌, Option, Some, None, List, [], ◌∷◌, ◌++◌, take, drop, append_assoc, append-nil, arith}
use Rattle.std.proofs.lemmas.Bool.{cases_Bool}
use Rattle.std.proofs.lemmas.Bool.Decides.{eqb_tells}
use Rattle.colour_machine.specs.Rules.{Rules}
use Rattle.reach.specs.Runs.{State}
use Rattle.sig_base.specs.declared.values.Row.{Row}
use Rattle.gap_map.specs.declared.stretch.Stretch.{Stretch}
use Rattle.gap_map.specs.Stretches.{FollowOn, known_at}
use Rattle.channel_path.specs.declared.moves.Move.{Move}
use Rattle.channel_path.specs.Walks.{Walk}
use Rattle.board.specs.History.{Agreeing, Event, Track, event_of, events_at}
use Rattle.board.specs.Moves.{RowsIn, count_before, letter_moves, own, stretch_moves, with_letter}
use Rattle.board.proofs.Bridge.{agreeing_join, agreeing_none, agreeing_same, cut_rows, event_not_here, known_here, known_there, late_end, none_at, rows_walk}
use Rattle.gap_ways.specs.declared.states.Fill.{Fill}
use Rattle.gap_ways.specs.Ways.{Way}
use Rattle.channel_ways.specs.Moves.{Filled}
use Rattle.strand_search.specs.Fillings.{AreFillRows, AreUnknown, FillingsAgree, events_of}
use Rattle.strand_search.proofs.Filling.{way_agrees, way_rows}

-- ---- fills and their rows, in two parts
pub filled_split : (m : Rules) (xs ys : List Move) (fs : List Fill) (s u : State) → Filled m (xs ++ ys) fs s u → (hs : List Fill) × (bs : List Fill) × (fs ≡ hs ++ bs) × ((v : State) × Filled m xs hs s v × Filled m ys bs v u)
filled_split m [] ys fs s u w = ([], fs, refl, (s, (refl, refl), w))
filled_split m (x ∷ xs) ys fs s u (hs, bs, e, (v, a, w)) =
    let (cs, ds, q, (z, p, r)) = filled_split m xs ys bs v u w in
    (hs ++ cs, ds, e ∙ (ap (λ (k : List Fill). hs ++ k) q ∙ sym (append_assoc hs cs ds)), (z, (hs, cs, refl, (v, a, p)), r))

pub rows_split : (k : Track) (hs bs : List Fill) (rs : List Row) → AreFillRows k (hs ++ bs) rs → (ps : List Row) × (qs : List Row) × (rs ≡ ps ++ qs) × AreFillRows k hs ps × AreFillRows k bs qs
rows_split k [] bs rs a = ([], rs, refl, tt, a)
rows_split k (x ∷ hs) bs [] a = absurd a
rows_split k (x ∷ hs) bs (r ∷ rs) (e, l, a) = let (ps, qs, q, b, c) = rows_split k hs bs rs a in (r ∷ ps, qs, ap (λ (z : List Row). r ∷ z) q, (e, l, b), c)

pub no_rows : (k : Track) (rs : List Row) → AreFillRows k [] rs → rs ≡ []
no_rows k [] a = refl
no_rows k (r ∷ rs) a = absurd a

-- letters have no fills
with_none : (m : Rules) (o : Option ℕ) (at i : ℕ) (ms : List Move) → ((fs : List Fill) (s u : State) → Filled m ms fs s u → (fs ≡ []) × Walk m ms s u) → (fs : List Fill) (s u : State) → Filled m (with_letter o at i ms) fs s u → (fs ≡ []) × Walk m (with_letter o at i ms) s u
with_none m None at i ms h fs s u w = h fs s u w
with_none m (Some l) at i ms h fs s u (hs, bs, e, (v, (n, a), w)) = let (q, r) = h bs v u w in (e ∙ (ap (λ (z : List Fill). z ++ bs) n ∙ q), (v, a, r))

pub filled_letters : (k : Track) (i : ℕ) (rs : List Row) (fs : List Fill) (s u : State) → Filled k.rules (letter_moves k i rs) fs s u → (fs ≡ []) × Walk k.rules (letter_moves k i rs) s u
filled_letters k i [] fs s u w = w
filled_letters k i (r ∷ rs) fs s u w = with_none k.rules (k.letter r.code r.param) r.at i (letter_moves k (i + 1) rs) (filled_letters k (i + 1) rs) fs s u w

-- ---- rows of two ranges
rows_low : (f m t : ℕ) (rs : List Row) → f ≤ m → RowsIn m t rs → RowsIn f t rs
rows_low f m t [] le h = omega arith
rows_low f m t (r ∷ rs) le h = let a = h.0 in (omega arith, h.1, h.2)

rows_join : (f m t : ℕ) (ps qs : List Row) → f ≤ m → RowsIn f m ps → RowsIn m t qs → m ≤ t → RowsIn f t (ps ++ qs)
rows_join f m t [] qs le a b mt = rows_low f m t qs le b
rows_join f m t (r ∷ ps) qs le a b mt = let lt = a.1 in (a.0, omega arith, rows_join r.at m t ps qs (omega arith) a.2 b mt)

-- before the second range there are those of the first alone, and from it on those of the second
pub join_early : (f m t x : ℕ) (ps qs : List Row) → RowsIn m t qs → x < m → events_at (ps ++ qs) x ≡ events_at ps x
join_early f m t x [] qs b lt = none_at qs m t x b lt
join_early f m t x (r ∷ ps) qs b lt = elim (eqb_tells r.at x) [
  | inl (e, _) ↦ rw e (ap (λ (z : List Event). event_of r ∷ z) (join_early f m t x ps qs b lt))
  | inr (e, _) ↦ rw e (join_early f m t x ps qs b lt)
]

pub join_late : (f m x : ℕ) (ps qs : List Row) → RowsIn f m ps → m ≤ x → events_at (ps ++ qs) x ≡ events_at qs x
join_late f m x [] qs a le = refl
join_late f m x (r ∷ ps) qs a le = let lt = a.1 in event_not_here r (ps ++ qs) x (λ e. absurd (omega arith)) ∙ join_late r.at m x ps qs a.2 le

pub unknown_join : (known : ℕ → Bool) (ps qs : List Row) → AreUnknown known ps → AreUnknown known qs → AreUnknown known (ps ++ qs)
unknown_join known [] qs a b = b
unknown_join known (r ∷ ps) qs (e, a) b = (e, unknown_join known ps qs a b)

unknown_all : (known : ℕ → Bool) (f m : ℕ) (ps : List Row) → RowsIn f m ps → ((x : ℕ) → f ≤ x → x < m → known x ≡ false) → AreUnknown known ps
unknown_all known f m [] a h = tt
unknown_all known f m (r ∷ ps) a h = (h r.at a.0 a.1, let le = a.0 in unknown_all known r.at m ps a.2 (λ x l1 l2. h x (omega arith) l2))

unknown_same : (known other : ℕ → Bool) (f t : ℕ) (qs : List Row) → RowsIn f t qs → ((x : ℕ) → f ≤ x → known x ≡ other x) → AreUnknown other qs → AreUnknown known qs
unknown_same known other f t [] a h b = tt
unknown_same known other f t (r ∷ qs) a h (e, b) = (h r.at a.0 ∙ e, let le = a.0 in unknown_same known other r.at t qs a.2 (λ x l1. h x (omega arith)) b)

-- ---- one stretch
is_known : (known : ℕ → Bool) (rows fills : List Row) (x : ℕ) → known x ≡ true → events_of known rows fills x ≡ events_at rows x
is_known known rows fills x e = rw e refl

-- the part of a stretch, and its rows that fill it
abbrev pub FillsPart : Track → (ℕ → List Event) → Bool → ℕ → ℕ → List Row → List Row → State → State → Type 0
FillsPart k given known f m rs ps s v = RowsIn f m ps × (known ≡ true → ps ≡ []) × (((x : ℕ) → f ≤ x → x < m → given x ≡ (if known then events_at rs x else events_at ps x)) → Agreeing k (λ x. true) given f m s v)

part_fills : (k : Track) (given : ℕ → List Event) (st : Stretch) (f i : ℕ) (rs ps : List Row) (hs : List Fill) (s v : State) → st.from ≡ f → f < st.to → RowsIn f st.to rs → AreFillRows k hs ps → Filled k.rules (stretch_moves k i rs st) hs s v → FillsPart k given st.known f st.to rs ps s v
part_fills k given st f i rs ps hs s v e lt h a w = elim (cases_Bool st.known) [
  | inl held ↦
      let (none, walk) = filled_letters k i rs hs s v (rw held at w) in
      let empty : ps ≡ [] = no_rows k ps (subst (λ (z : List Fill). AreFillRows k z ps) none a) in
      rw held (
        subst (RowsIn f st.to) (sym empty) (omega arith),
        (λ _. empty),
        λ g. (rows_walk k (λ x. true) given (st.to - f) f st.to i rs s v (omega arith) h (λ x l1 l2. refl) g).1 walk,
      )
  | inr hole ↦
      let (gs, bs, q, (z, (few, way), (nil, same))) = rw hole at w in
      let one : hs ≡ gs = q ∙ (ap (λ (y : List Fill). gs ++ y) nil ∙ append-nil gs) in
      let a2 = subst (λ (y : List Fill). AreFillRows k y ps) one a in
      let way2 = subst (λ (y : State). Way k.rules (pos st.from) (pos st.to) s gs y) (sym same) way in
      let way3 = subst (λ (y : ℕ). Way k.rules (pos y) (pos st.to) s gs v) e way2 in
      rw hole (
        way_rows k f (st.to - f) st.to s v gs ps (omega arith) a2 way3,
        (λ y. absurd (cc)),
        λ g. agreeing_same k (λ x. true) (λ x. true) (events_at ps) given f st.to s v (λ x l1 l2. refl) (λ x l1 l2. sym (g x l1 l2)) (way_agrees k f (st.to - f) st.to s v gs ps (omega arith) a2 way3),
      )
]

-- ---- all stretches
all_fills : (k : Track) (f t i : ℕ) (rows fills : List Row) (ss : List Stretch) (fs : List Fill) (s u : State) → FollowOn f t ss → RowsIn f t rows → AreFillRows k fs fills → Filled k.rules (own k i rows ss) fs s u → RowsIn f t fills × AreUnknown (known_at ss) fills × Agreeing k (λ x. true) (events_of (known_at ss) rows fills) f t s u
all_fills k f t i rows fills [] fs s u h r a (none, same) =
    let empty : fills ≡ [] = no_rows k fills (subst (λ (z : List Fill). AreFillRows k z fills) none a) in
    let end : t ≡ f = omega arith in
    rw (empty, end) (omega arith, tt, (agreeing_none k (λ x. true) (events_of (known_at []) rows []) f s u).1 same)
all_fills k f t i rows fills (st ∷ ss) fs s u h r a w =
    let m = st.to in
    let lt = h.1 in
    let end = late_end st.to t ss h.2 in
    let c = count_before st.to rows in
    let (k1, k2, k3, k4) = cut_rows f st.to t rows (omega arith) end r in
    let (hs, bs, e, (v, one, two)) = filled_split k.rules (stretch_moves k i (take c rows) st) (own k (i + c) (drop c rows) ss) fs s u w in
    let (ps, qs, q, a1, a2) = rows_split k hs bs fills (subst (λ (z : List Fill). AreFillRows k z fills) e a) in
    let known = known_at (st ∷ ss) in
    let given = events_of known rows (ps ++ qs) in
    let (p1, p2, p3) = part_fills k given st f i (take c rows) ps hs s v h.0 lt k1 a1 one in
    let (r1, r2, r3) = all_fills k st.to t (i + c) (drop c rows) qs ss bs v u h.2 k2 a2 two in
    let here : (x : ℕ) → f ≤ x → x < st.to → known x ≡ st.known = λ x l1 l2. known_here st ss f t x h l1 l2 in
    let there : (x : ℕ) → st.to ≤ x → known x ≡ known_at ss x = λ x l1. known_there st ss x l1 in
    let early : (x : ℕ) → f ≤ x → x < st.to → given x ≡ (if st.known then events_at (take c rows) x else events_at ps x) = λ x l1 l2. rw (here x l1 l2, k3 x l2, join_early f st.to t x ps qs r1 l2) refl in
    let late : (x : ℕ) → st.to ≤ x → x < t → events_of (known_at ss) (drop c rows) qs x ≡ given x = λ x l1 l2. rw (there x l1, k4 x l1, join_late f st.to x ps qs p1 l1) refl in
    let first = p3 early in
    let second = agreeing_same k (λ x. true) (λ x. true) (events_of (known_at ss) (drop c rows) qs) given st.to t v u (λ x l1 l2. refl) late r3 in
    let unknown : AreUnknown known ps = elim (cases_Bool st.known) [
      | inl held ↦ subst (λ (z : List Row). AreUnknown known z) (sym (p2 held)) tt
      | inr hole ↦ unknown_all known f st.to ps p1 (λ x l1 l2. here x l1 l2 ∙ hole)
    ] in
    rw q (
      rows_join f st.to t ps qs (omega arith) p1 r1 end,
      unknown_join known ps qs unknown (unknown_same known (known_at ss) st.to t qs r1 there r2),
      (agreeing_join k (λ x. true) given f st.to t s u (omega arith) end).1 (v, first, second),
    )

pub fillings_agree : FillingsAgree
fillings_agree k f t i rows fills ss fs s u h r a w = all_fills k f t i rows fills ss fs s u h r a w
