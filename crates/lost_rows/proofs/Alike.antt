-- Walks from states that can no longer be told apart.
use Rattle.std.proofs.Common.{suc, zero, ◌≡◌, refl, sym, ◌∙◌, subst, ◌⊎◌, inl, inr, ◌↔◌, ℕ, ◌+◌, ◌<◌, ◌≤◌, ℤ, pos, ◌+ℤ◌, ◌-ℤ◌, ◌≤ℤ◌, List, [], ◌∷◌, length, Some, arith}
use Rattle.std.proofs.lemmas.Int.{ints}
use Rattle.std.proofs.lemmas.Bool.{cases_lt}
use Rattle.span_set.specs.declared.set.Span.{Span}
use Rattle.span_set.proofs.Sets.{int_cases}
use Rattle.colour_machine.specs.Mask.{Has}
use Rattle.colour_machine.specs.Rules.{Rules, Change, IsMachine}
use Rattle.colour_machine.proofs.Ways.{change_stays}
use Rattle.reach.specs.Runs.{State, state, OldEnough, Step, Steps, Run}
use Rattle.reach.specs.Past.{AreClamped, Holds}
use Rattle.reach.specs.Tests.{InBound}
use Rattle.reach.specs.declared.seen.AgeBound.{AgeBound}
use Rattle.reach.specs.declared.seen.AgeBound.TheVariants.{Any, AtLeast, AtMost}
use Rattle.reach.proofs.Common.{colour_there}
use Rattle.channel_path.specs.declared.moves.Move.{Move}
use Rattle.channel_path.specs.declared.moves.Move.TheVariants.{Letter, Gap}
use Rattle.channel_path.specs.Walks.{limit_after, limit_before, InOrder, Taken}
use Rattle.signal_log.specs.States.{AreAlike}
use Rattle.lost_rows.specs.declared.asked.Asked.{Asked}
use Rattle.lost_rows.specs.declared.line.LineRule.{LineRule}
use Rattle.lost_rows.specs.declared.line.LineRule.TheVariants.{Interval, Term}
use Rattle.lost_rows.specs.declared.pasts.LostPasts.{LostPasts}
use Rattle.lost_rows.specs.Credits.{sets_with, AllBefore, AllOf, HoldsLost}
use Rattle.lost_rows.specs.Cuts.{ExplainedFrom}
use Rattle.lost_rows.specs.Decisions.{asked_by, KeepsRule}
use Rattle.lost_rows.specs.Hours.{begins, AlikeAt, BeginFrom, IsHourRule, IsWithinHour, TellsNotApart}
use Rattle.lost_rows.specs.Stills.{LostRow, LostRows, Spares}
use Rattle.lost_rows.specs.Walks.{nothing_asked, still_after, LostWalk, WalkedFrom, WalkedTo}
use Rattle.lost_rows.proofs.Deciding.{sets_count}
use Rattle.lost_rows.proofs.Stills.{lost_parts}

step_alike : (m : Rules) (p t : ℤ) (s r u : State) (l : ℕ) → IsMachine m → p ≤ℤ t → AreAlike m p s r → Step m t s l u → (v : State) × Step m t r l v × AreAlike m p u v
step_alike m p t s r u l laws h (few, same, k) ((_, lt, goes), ev) =
    let here : r.colour < m.colours = rw same few in
    elim ev [
      | inl stay ↦
          let next : m.next r.colour l ≡ Some r.colour = rw same (subst (λ (x : State). m.next s.colour l ≡ Some x.colour) stay goes) in
          (r, ((here, lt, next), inl refl), subst (λ (x : State). AreAlike m p x r) (sym stay) (few, same, k))
      | inr (ne, at, old) ↦
          let next : m.next r.colour l ≡ Some u.colour = rw same goes in
          let floor = laws.low_floor s.colour few in
          let far : OldEnough m t r = elim k [ inl x ↦ subst (λ (y : State). OldEnough m t y) (sym x) old | inr (a, b) ↦ rw same (omega (arith, ints)) ] in
          (u, ((here, lt, next), inr ((λ e. ne (e ∙ same)), at, far)), (laws.stays s.colour l u.colour few lt goes, refl, inl refl))
    ]

steps_alike : (m : Rules) (p t : ℤ) (ls : List ℕ) (s r u : State) → IsMachine m → p ≤ℤ t → AreAlike m p s r → Steps m t s ls u → (v : State) × Steps m t r ls v × AreAlike m p u v
steps_alike m p t [] s r u laws h a e = (r, refl, subst (λ (x : State). AreAlike m p x r) (sym e) a)
steps_alike m p t (l ∷ ls) s r u laws h a (z, ev, e) =
    let (y, ev2, b) = step_alike m p t s r z l laws h a ev in
    let (v, e2, c) = steps_alike m p t ls z y u laws h b e in
    (v, (y, ev2, e2), c)

run_alike : (m : Rules) (p t : ℤ) (lists : List (List ℕ)) (s r u : State) → IsMachine m → p ≤ℤ t → AreAlike m p s r → Run m t s lists u → (v : State) × Run m t r lists v × AreAlike m p u v
run_alike m p t [] s r u laws h a e = (r, refl, subst (λ (x : State). AreAlike m p x r) (sym e) a)
run_alike m p t (ls ∷ lists) s r u laws h a (z, ev, e) =
    let (y, ev2, b) = steps_alike m p t ls s r z laws h a ev in
    let (v, e2, c) = run_alike m p (t +ℤ pos 1) lists z y u laws (omega (arith, ints)) b e in
    (v, (y, ev2, e2), c)

taken_alike : (m : Rules) (p : ℕ) (x : Move) (s r u : State) → IsMachine m → p ≤ begins x → AreAlike m (pos p) s r → Taken m x s u → (v : State) × Taken m x r v × AreAlike m (pos p) u v
taken_alike m p (Letter at l n) s r u laws h a ev = step_alike m (pos p) (pos at) s r u l laws (omega (arith, ints)) a ev
taken_alike m p (Gap f t) s r u laws h a (lists, len, run) =
    let (v, run2, b) = run_alike m (pos p) (pos f) lists s r u laws (omega (arith, ints)) a run in
    (v, (lists, len, run2), b)

bound_alike : (b : AgeBound) (p t : ℤ) (s r : State) → IsWithinHour b → p ≤ℤ t → ((r ≡ s) ⊎ (((s.entry +ℤ pos 36001) ≤ℤ p) × ((r.entry +ℤ pos 36001) ≤ℤ p))) → InBound b t s.entry → InBound b t r.entry
bound_alike Any p t s r short h k x = tt
bound_alike (AtLeast n) p t s r short h k x = elim k [ inl e ↦ subst (λ (y : State). InBound (AtLeast n) t y.entry) (sym e) x | inr (a, b) ↦ omega (arith, ints) ]
bound_alike (AtMost n) p t s r short h k x = elim k [ inl e ↦ subst (λ (y : State). InBound (AtMost n) t y.entry) (sym e) x | inr (a, b) ↦ absurd (omega (arith, ints)) ]

spares_alike : (m : Rules) (q : Asked) (p t : ℤ) (s r : State) → IsWithinHour q.bound → p ≤ℤ t → AreAlike m p s r → Spares q t s → Spares q t r
spares_alike m q p t s r short h (few, same, k) sp own = bound_alike q.bound p t s r short h k (sp (sym same ∙ own))

-- a lost row leads from both to one state
lost_alike : (m : Rules) (q : Asked) (p t : ℤ) (s r u : State) → IsMachine m → IsWithinHour q.bound → p ≤ℤ t → AreAlike m p s r → LostRow m q t s u → LostRow m q t r u × AreAlike m p u u
lost_alike m q p t s r u laws short h (few, same, k) w =
    let (ch, e, old, sp) = (lost_parts m q t s u).0 w in
    let floor = laws.low_floor s.colour few in
    let far : OldEnough m t r = elim k [ inl x ↦ subst (λ (y : State). OldEnough m t y) (sym x) old | inr (a, b) ↦ rw same (omega (arith, ints)) ] in
    let change : Change m r.colour u.colour = subst (λ (c : ℕ). Change m c u.colour) (sym same) ch in
    ((lost_parts m q t r u).1 (change, e, far, spares_alike m q p t s r short h (few, same, k) sp), (change_stays m s.colour u.colour laws ch, refl, inl refl))

rows_alike : (m : Rules) (q : Asked) (p a b : ℤ) (j : ℕ) (s r u : State) → IsMachine m → IsWithinHour q.bound → p ≤ℤ a → AreAlike m p s r → LostRows m q a b j s u → (v : State) × LostRows m q a b j r v × AreAlike m p u v
rows_alike m q p a b zero s r u laws short h al e = (r, refl, subst (λ (x : State). AreAlike m p x r) (sym e) al)
rows_alike m q p a b (suc j) s r u laws short h al (t, ge, lt, (x, w, rest)) =
    let (w2, same) = lost_alike m q p t s r x laws short (omega (arith, ints)) al w in
    let (v, rest2, c) = rows_alike m q p t b j x x u laws short (omega (arith, ints)) same rest in
    (v, (t, ge, lt, (x, w2, rest2)), c)

still_late : (m : Rules) (p : ℕ) (low : ℕ) (x : Move) (xs : List Move) → InOrder m low (x ∷ xs) → p ≤ begins x → p ≤ still_after x
still_late m p low (Letter at l r) xs o h = h
still_late m p low (Gap f t) xs o h = let lt = o.1 in omega arith

walk_alike : (m : Rules) (q : Asked) (p low a : ℕ) (xs : List Move) (b j : ℕ) (s r u : State) → IsMachine m → IsWithinHour q.bound → InOrder m low xs → BeginFrom p xs → p ≤ a → AreAlike m (pos p) s r → LostWalk m q a xs b j s u → (v : State) × LostWalk m q a xs b j r v × AreAlike m (pos p) u v
walk_alike m q p low a [] b j s r u laws short o from h al rows = rows_alike m q (pos p) (pos a) (pos b) j s r u laws short (omega (arith, ints)) al rows
walk_alike m q p low a (x ∷ xs) b j s r u laws short o from h al (i, k, e, (y, z, rows, tk, walk)) =
    let (y2, rows2, one) = rows_alike m q (pos p) (pos a) (pos (limit_before x)) i s r y laws short (omega (arith, ints)) al rows in
    let (z2, tk2, two) = taken_alike m p x y y2 z laws from.0 one tk in
    let (v, walk2, three) = walk_alike m q p (limit_after x) (still_after x) xs b k z z2 u laws short o.2 from.1 (still_late m p low x xs o from.0) two walk in
    (v, (i, k, e, (y2, z2, rows2, tk2, walk2)), three)

-- the states to which states lead that are alike are alike
one_way : (m : Rules) (q : Asked) (P Q : ℕ → State → Type 0) (p a : ℕ) (xs : List Move) (b low : ℕ) → IsMachine m → IsWithinHour q.bound → InOrder m low xs → BeginFrom p xs → p ≤ a → ((j : ℕ) (s : State) → P j s → (v : State) × Q j v × AreAlike m (pos p) s v) → (j : ℕ) (u : State) → WalkedFrom m q P a xs b j u → (v : State) × WalkedFrom m q Q a xs b j v × AreAlike m (pos p) u v
one_way m q P Q p a xs b low laws short o from h same j u (i, k, e, (s, held, walk)) =
    let (r, there, al) = same i s held in
    let (v, walk2, c) = walk_alike m q p low a xs b k s r u laws short o from h al walk in
    (v, (i, k, e, (r, there, walk2)), c)

pub walked_alike : (m : Rules) (q : Asked) (P Q : ℕ → State → Type 0) (p a : ℕ) (xs : List Move) (b low : ℕ) → IsMachine m → IsWithinHour q.bound → InOrder m low xs → BeginFrom p xs → p ≤ a → AlikeAt m p P Q → AlikeAt m p (WalkedFrom m q P a xs b) (WalkedFrom m q Q a xs b)
walked_alike m q P Q p a xs b low laws short o from h (there, back) = (one_way m q P Q p a xs b low laws short o from h there, one_way m q Q P p a xs b low laws short o from h back)

-- what comes after the moves can be met from both
pub walked_to_alike : (m : Rules) (E : ℕ → State → Type 0) (p a : ℕ) (xs : List Move) (b low : ℕ) → IsMachine m → InOrder m low xs → BeginFrom p xs → p ≤ a → TellsNotApart m p E → TellsNotApart m p (WalkedTo m E a xs b)
walked_to_alike m E p a xs b low laws o from h tells j s r al (i, k, e, (u, good, walk)) =
    let (v, walk2, c) = walk_alike m nothing_asked p low a xs b k s r u laws tt o from h al walk in
    (i, k, e, (v, tells i u v c good, walk2))

keeps_alike : (m : Rules) (rule : LineRule) (p t : ℤ) (s r : State) → IsHourRule rule → p ≤ℤ t → AreAlike m p s r → KeepsRule rule t s → KeepsRule rule t r
keeps_alike m (Interval q) p t s r short h al x = spares_alike m q p t s r short h al x
keeps_alike m (Term mask) p t s r short h al x = subst (λ (c : ℕ). Has mask c) (sym al.1) x

pub asked_short : (rule : LineRule) → IsHourRule rule → IsWithinHour (asked_by rule).bound
asked_short (Interval q) short = short
asked_short (Term mask) short = tt

explained_way : (m : Rules) (rule : LineRule) (P Q E : ℕ → State → Type 0) (p a : ℕ) (xs : List Move) (at : ℕ) (ys : List Move) (b low high n : ℕ) → IsMachine m → IsHourRule rule → InOrder m low xs → InOrder m high ys → BeginFrom p xs → BeginFrom p ys → p ≤ a → p ≤ at → TellsNotApart m p E → ((j : ℕ) (s : State) → P j s → (v : State) × Q j v × AreAlike m (pos p) s v) → ExplainedFrom m (asked_by rule) P E a xs at ys b (KeepsRule rule (pos at)) n → ExplainedFrom m (asked_by rule) Q E a xs at ys b (KeepsRule rule (pos at)) n
explained_way m rule P Q E p a xs at ys b low high n laws short o order from later h le tells same (i, k, e, (v, walked, keeps, goes_on)) =
    let (w, walked2, al) = one_way m (asked_by rule) P Q p a xs (at + 1) low laws (asked_short rule short) o from h same i v walked in
    (i, k, e, (w, walked2, keeps_alike m rule (pos p) (pos at) v w short (omega (arith, ints)) al keeps, walked_to_alike m E p (at + 1) ys b high laws order later (omega arith) tells k v w al goes_on))

-- where the states before the moves can't be told apart, as many lost rows explain a line behind them
pub explained_alike : (m : Rules) (rule : LineRule) (P Q E : ℕ → State → Type 0) (p a : ℕ) (xs : List Move) (at : ℕ) (ys : List Move) (b low high n : ℕ) → IsMachine m → IsHourRule rule → InOrder m low xs → InOrder m high ys → BeginFrom p xs → BeginFrom p ys → p ≤ a → p ≤ at → TellsNotApart m p E → AlikeAt m p P Q → ExplainedFrom m (asked_by rule) P E a xs at ys b (KeepsRule rule (pos at)) n ↔ ExplainedFrom m (asked_by rule) Q E a xs at ys b (KeepsRule rule (pos at)) n
explained_alike m rule P Q E p a xs at ys b low high n laws short o order from later h le tells (there, back) = (explained_way m rule P Q E p a xs at ys b low high n laws short o order from later h le tells there, explained_way m rule Q P E p a xs at ys b low high n laws short o order from later h le tells back)

-- what can't be told apart at a point can't be told apart later
pub alike_later : (m : Rules) (p t : ℤ) (s r : State) → p ≤ℤ t → AreAlike m p s r → AreAlike m t s r
alike_later m p t s r le (few, same, k) = (few, same, elim k [ inl e ↦ inl e | inr (a, b) ↦ inr (omega (arith, ints), omega (arith, ints)) ])

-- a state whose entry has become the limit is alike
pub clamped_alike : (m : Rules) (p : ℤ) (old new : List (List Span)) → length old ≡ m.colours → AreClamped (p -ℤ pos 36001) old new → ((s : State) → Holds old s → (v : State) × Holds new v × AreAlike m p s v) × ((v : State) → Holds new v → (s : State) × Holds old s × AreAlike m p v s)
clamped_alike m p old new count (size, is) = (
  λ s h.
      let few : s.colour < m.colours = (let lt = colour_there old s h in omega arith) in
      elim (int_cases s.entry (p -ℤ pos 36001)) [
        | inl less ↦ (state s.colour (p -ℤ pos 36001), (is s.colour (p -ℤ pos 36001)).1 (inr (refl, (s.entry, h, less.1))), (few, refl, inr (let x = less.1 in omega (arith, ints), omega (arith, ints))))
        | inr ge ↦ (s, (is s.colour s.entry).1 (inl (h, ge.1)), (few, refl, inl refl))
      ],
  λ v h.
      let few : v.colour < m.colours = (let lt = colour_there new v h in omega arith) in
      elim ((is v.colour v.entry).0 h) [
        | inl (held, ge) ↦ (v, held, (few, refl, inl refl))
        | inr (at, (x, held, less)) ↦ (state v.colour x, held, (few, refl, inr (omega (arith, ints), omega (arith, ints))))
      ],
)

-- so of Pasts by how many rows were lost
none_beyond : (pasts : LostPasts) (j : ℕ) (s : State) → 4 ≤ j → HoldsLost pasts j s → ⊥
none_beyond pasts zero s ge h = absurd (omega arith)
none_beyond pasts (suc zero) s ge h = absurd (omega arith)
none_beyond pasts (suc (suc zero)) s ge h = absurd (omega arith)
none_beyond pasts (suc (suc (suc zero))) s ge h = absurd (omega arith)
none_beyond pasts (suc (suc (suc (suc j)))) s ge h = h

to_clamped : (m : Rules) (p : ℕ) (old new : LostPasts) → AllOf m.colours old → ((j : ℕ) → j ≤ 3 → AreClamped (pos p -ℤ pos 36001) (sets_with old j) (sets_with new j)) → (j : ℕ) (s : State) → HoldsLost old j s → (v : State) × HoldsLost new j v × AreAlike m (pos p) s v
to_clamped m p old new all is j s h = elim (cases_lt j 4) [
  | inl lt ↦ (clamped_alike m (pos p) (sets_with old j) (sets_with new j) (sets_count m.colours old j all (omega arith)) (is j (omega arith))).0 s h
  | inr ge ↦ absurd (none_beyond old j s ge h)
]

from_clamped : (m : Rules) (p : ℕ) (old new : LostPasts) → AllOf m.colours old → ((j : ℕ) → j ≤ 3 → AreClamped (pos p -ℤ pos 36001) (sets_with old j) (sets_with new j)) → (j : ℕ) (s : State) → HoldsLost new j s → (v : State) × HoldsLost old j v × AreAlike m (pos p) s v
from_clamped m p old new all is j s h = elim (cases_lt j 4) [
  | inl lt ↦ (clamped_alike m (pos p) (sets_with old j) (sets_with new j) (sets_count m.colours old j all (omega arith)) (is j (omega arith))).1 s h
  | inr ge ↦ absurd (none_beyond new j s ge h)
]

pub lost_clamped : (m : Rules) (p : ℕ) (old new : LostPasts) → AllOf m.colours old → ((j : ℕ) → j ≤ 3 → AreClamped (pos p -ℤ pos 36001) (sets_with old j) (sets_with new j)) → AlikeAt m p (HoldsLost old) (HoldsLost new)
lost_clamped m p old new all is = (to_clamped m p old new all is, from_clamped m p old new all is)

-- and none of them is entered later than it was
pub clamped_before : (p : ℕ) (old new : LostPasts) → ((j : ℕ) → j ≤ 3 → AreClamped (pos p -ℤ pos 36001) (sets_with old j) (sets_with new j)) → AllBefore old p → AllBefore new p
clamped_before p old new is early j few s h = elim (((is j few).1 s.colour s.entry).0 h) [
  | inl (held, ge) ↦ early j few s held
  | inr (at, x) ↦ omega (arith, ints)
]

pub clamped_all : (limit : ℤ) (old new : LostPasts) → AreClamped limit old.none new.none → AreClamped limit old.one new.one → AreClamped limit old.two new.two → AreClamped limit old.three new.three → (j : ℕ) → j ≤ 3 → AreClamped limit (sets_with old j) (sets_with new j)
clamped_all limit old new k0 k1 k2 k3 zero le = k0
clamped_all limit old new k0 k1 k2 k3 (suc zero) le = k1
clamped_all limit old new k0 k1 k2 k3 (suc (suc zero)) le = k2
clamped_all limit old new k0 k1 k2 k3 (suc (suc (suc zero))) le = k3
clamped_all limit old new k0 k1 k2 k3 (suc (suc (suc (suc j)))) le = absurd (omega arith)
