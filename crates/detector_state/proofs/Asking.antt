-- What is asked, at one tenth and through a range.
use Rattle.std.proofs.Common.{◌≡◌, ◌⊎◌, ◌↔◌, inl, inr, ℕ, ◌+◌, ◌-◌, ◌<◌, ◌≤◌, Bool, true, false, not, IsTrue, List, [], ◌∷◌, length, get_or, drop, refl, sym, subst, arith}
use Rattle.std.specs.Prelude.{min}
use Rattle.std.proofs.lemmas.Bool.{cases_Bool, cases_eq}
use Rattle.std.proofs.lemmas.List.{drop_more, drop_all}
use Rattle.sig_base.proofs.Common.{clash}
use Rattle.colour_machine.specs.Mask.{Has}
use Rattle.reach.specs.Runs.{State}
use Rattle.reach.specs.Tests.{Meets as TestMeets}
use Rattle.reach.specs.declared.seen.Test.{Test}
use Rattle.reach.specs.declared.seen.AgeBound.TheVariants.{Any}
use Rattle.gap_map.specs.Stretches.{known_at}
use Rattle.channel_path.specs.declared.moves.Move.{Move}
use Rattle.channel_tables.specs.declared.spec.Spec.{Spec}
use Rattle.board.specs.Stops.{moves_at}
use Rattle.board.specs.History.{Event, Track, events_at}
use Rattle.board.specs.Channels.{track}
use Rattle.board.specs.Logs.{HourLog, first_tenth, end_tenth, no_spec}
use Rattle.board.specs.Places.{IsLog}
use Rattle.board.specs.Verdicts.{MayPass}
use Rattle.board.proofs.Within.{hour_rows}
use Rattle.detector_state.specs.declared.state_asked.Asked.{Asked}
use Rattle.detector_state.specs.declared.state_asked.Asked.TheVariants.{Colour, NoneOf}
use Rattle.detector_state.specs.States.{AllHave, Meets, MeetsAt, IsCount}
use Rattle.detector_state.specs.Ranges.{IsQuietIn, IsCutBy, Counts, begin_of, end_of}
use Rattle.detector_state.proofs.StateCounting.{counts_all, counts_none, counts_empty, counts_join, counts_most, counts_hour}
use Rattle.detector_state.proofs.Still.{still}
use Rattle.detector_state.proofs.StateCutting.{hour_cut}

-- one colour

pub all_have : (May : State → Type 0) (test : Test) (none colour : ℕ) (some_false : Bool) → test.bound ≡ Any → ((c : ℕ) → Has none c → ⊥) → ((c : ℕ) → Has test.colours c ↔ (Has none c ⊎ (c ≡ colour))) → (IsTrue some_false ↔ ((v : State) × May v × (TestMeets test v → ⊥))) → IsTrue (not some_false) ↔ AllHave May colour
all_have May test none colour some_false any empty with sees = elim (cases_Bool some_false) [
  | inl e ↦ rw e (
    (λ h. absurd (cc)),
    λ all. let (v, may, fails) = sees.0 e in absurd (fails ((with v.colour).1 (inr (all v may)), rw any tt)),
  )
  | inr e ↦ rw e (
    (λ h v may. elim (cases_eq v.colour colour) [
      | inl same ↦ same
      | inr ne ↦ absurd (clash some_false (sees.1 (v, may, λ m. elim ((with v.colour).0 m.0) [ inl x ↦ empty v.colour x | inr x ↦ ne x ])) e)
    ]),
    λ all. refl,
  )
]

pub open_more : (P : ℕ → Type 0) (n : ℕ) (b : Bool) → (IsTrue b ↔ P n) → b ≡ false → ((c : ℕ) → c < n → P c → ⊥) → (c : ℕ) → c < n + 1 → P c → ⊥
open_more P n b here f below c lt p = elim (cases_eq c n) [
  | inl same ↦ clash b (here.1 (subst (λ (k : ℕ). P k) same p)) f
  | inr ne ↦ below c (omega arith) p
]

pub open_not : (P : ℕ → Type 0) (m n : ℕ) (b : Bool) → (IsTrue b ↔ P m) → b ≡ true → m < n → IsTrue false ↔ ((c : ℕ) → c < n → P c → ⊥)
open_not P m n b here t lt = ((λ h. absurd (cc)), λ all. absurd (all m lt (here.0 t)))

pub open_all : (P : ℕ → Type 0) (m n : ℕ) → n ≤ m → ((c : ℕ) → c < m → P c → ⊥) → IsTrue true ↔ ((c : ℕ) → c < n → P c → ⊥)
open_all P m n le below = ((λ h c lt p. below c (omega arith) p), λ all. refl)

-- through a range

meets_same : (asked : Asked) (P Q : State → Type 0) → ((v : State) → P v → Q v) → ((v : State) → Q v → P v) → Meets asked P → Meets asked Q
meets_same (Colour c) P Q to from h = λ v q. h v (from v q)
meets_same (NoneOf n) P Q to from h = λ c lt all. h c lt (λ v p. all v (to v p))

may_still : (log : HourLog) (i a b x : ℕ) → first_tenth log.hour ≤ a → b ≤ first_tenth log.hour + 36000 → IsQuietIn log i a b → a ≤ x → x < b → (v : State) → MayPass log x i v ↔ MayPass log a i v
may_still log i a b x low high q l u v = still (track (get_or log.specs i no_spec)) (known_at log.stretches) (events_at log.rows) (first_tenth log.hour) (end_tenth log.hour) (get_or log.before i []) (get_or log.after i []) a b x low (omega arith) q l u v

pub range_meets : (log : HourLog) (i : ℕ) (asked : Asked) (a b n : ℕ) → first_tenth log.hour ≤ a → b ≤ first_tenth log.hour + 36000 → IsQuietIn log i a b → Meets asked (MayPass log a i) → a + n ≡ b → Counts (MeetsAt log i asked) a b n
range_meets log i asked a b n low high q m e = counts_all (MeetsAt log i asked) a b n e (λ t l u. ((q t l u).0, meets_same asked (MayPass log a i) (MayPass log t i) (λ v. (may_still log i a b t low high q l u v).1) (λ v. (may_still log i a b t low high q l u v).0) m))

pub range_fails : (log : HourLog) (i : ℕ) (asked : Asked) (a b : ℕ) → first_tenth log.hour ≤ a → b ≤ first_tenth log.hour + 36000 → IsQuietIn log i a b → (Meets asked (MayPass log a i) → ⊥) → a ≤ b → Counts (MeetsAt log i asked) a b 0
range_fails log i asked a b low high q fails le = counts_none (MeetsAt log i asked) a b (b - a) (omega arith) (λ t l u m. fails (meets_same asked (MayPass log t i) (MayPass log a i) (λ v. (may_still log i a b t low high q l u v).0) (λ v. (may_still log i a b t low high q l u v).1) m.1))

pub range_empty : (log : HourLog) (i : ℕ) (asked : Asked) (a b : ℕ) → a ≤ b → b ≤ a → Counts (MeetsAt log i asked) a b 0
range_empty log i asked a b le ge = let same : b ≡ a = omega arith in rw same (counts_empty (MeetsAt log i asked) a)

-- move by move

cut_end : (k : Track) (known : ℕ → Bool) (given : ℕ → List Event) (a b : ℕ) (ms : List Move) → IsCutBy k known given a b ms → a ≤ b
cut_end k known given a b [] h = h.0
cut_end k known given a b (m ∷ ms) h = let l = h.0 in let u = h.1 in omega (arith, cut_end k known given (end_of m) b ms h.4)

-- the hour is counted up to tenth at, from which on these moves cut it
pub record IsCounted (log : HourLog) (i : ℕ) (asked : Asked) (from at count : ℕ) (ms : List Move) : Type 0 where
  pub low : from ≤ at
  pub cut : IsCutBy (track (get_or log.specs i no_spec)) (known_at log.stretches) (events_at log.rows) at (from + 36000) ms
  pub counts : Counts (MeetsAt log i asked) from at count

abbrev pub RangeCounts : HourLog → ℕ → Asked → ℕ → ℕ → ℕ → Type 0
RangeCounts log i asked at to r = first_tenth log.hour ≤ at → at ≤ to → to ≤ first_tenth log.hour + 36000 → IsQuietIn log i at to → Counts (MeetsAt log i asked) at to r

unknown_none : (log : HourLog) (i : ℕ) (asked : Asked) (a b : ℕ) → a ≤ b → ((t : ℕ) → a ≤ t → t < b → known_at log.stretches t ≡ false) → Counts (MeetsAt log i asked) a b 0
unknown_none log i asked a b le u = counts_none (MeetsAt log i asked) a b (b - a) (omega arith) (λ t l lt m. clash (known_at log.stretches t) m.0 (u t l lt))

turned : (log : HourLog) (i : ℕ) (asked : Asked) (from at count r : ℕ) (m : Move) (ms : List Move) → from ≡ first_tenth log.hour → RangeCounts log i asked at (begin_of m) r → IsCounted log i asked from at count (m ∷ ms) → IsCounted log i asked from (end_of m) (count + r) ms
turned log i asked from at count r m ms e range h =
    let k = track (get_or log.specs i no_spec) in
    let low = h.low in
    let (l, u, quiet, unknown, rest) = h.cut in
    let end = cut_end k (known_at log.stretches) (events_at log.rows) (end_of m) (from + 36000) ms rest in
    let here = range (omega arith) l (omega arith) quiet in
    let up_to = counts_join (MeetsAt log i asked) from at (begin_of m) count r h.counts here in
    let past = counts_join (MeetsAt log i asked) from (begin_of m) (end_of m) (count + r) 0 up_to (unknown_none log i asked (begin_of m) (end_of m) u unknown) in
    let same : (count + r) + 0 ≡ count + r = omega arith in
    record { low = omega arith; cut = rest; counts = subst (λ (z : ℕ). Counts (MeetsAt log i asked) from (end_of m) z) same past }

few_tenths : (log : HourLog) (i : ℕ) (asked : Asked) (from at count : ℕ) (ms : List Move) → IsCounted log i asked from at count ms → count ≤ 36000
few_tenths log i asked from at count ms h =
    let most = counts_most (MeetsAt log i asked) from at count h.counts in
    let end = cut_end (track (get_or log.specs i no_spec)) (known_at log.stretches) (events_at log.rows) at (from + 36000) ms h.cut in
    omega arith

pub counted_more : (log : HourLog) (i : ℕ) (asked : Asked) (from at count r beg en new : ℕ) (moves : List Move) (j : ℕ) (d : Move) → from ≡ first_tenth log.hour → j < length moves → beg ≡ begin_of (get_or moves j d) → en ≡ end_of (get_or moves j d) → RangeCounts log i asked at beg r → new ≡ min (count + r) 4294967295 → IsCounted log i asked from at count (drop j moves) → IsCounted log i asked from en new (drop (j + 1) moves)
counted_more log i asked from at count r beg en new moves j d e lt eb ee range en2 h =
    let m = get_or moves j d in
    let split = drop_more moves j d lt in
    let now = subst (λ (zs : List Move). IsCounted log i asked from at count zs) split h in
    let next = turned log i asked from at count r m (drop (j + 1) moves) e (rw eb at range) now in
    let few = few_tenths log i asked from (end_of m) (count + r) (drop (j + 1) moves) next in
    let same : new ≡ count + r = omega arith in
    rw (ee, same) next

pub counted_all : (log : HourLog) (i : ℕ) (asked : Asked) (from at to count r new : ℕ) (moves : List Move) (j : ℕ) → from ≡ first_tenth log.hour → length moves ≤ j → to ≡ from + 36000 → RangeCounts log i asked at to r → new ≡ min (count + r) 4294967295 → IsCounted log i asked from at count (drop j moves) → IsCount (MeetsAt log i asked) from 36000 new
counted_all log i asked from at to count r new moves j e le et range en h =
    let last = subst (λ (zs : List Move). IsCounted log i asked from at count zs) (drop_all j moves le) h in
    let low = last.low in
    let (up, quiet) = last.cut in
    let here = (rw et at range) (omega arith) up (omega arith) quiet in
    let all = counts_join (MeetsAt log i asked) from at (from + 36000) count r last.counts here in
    let most = counts_most (MeetsAt log i asked) from (from + 36000) (count + r) all in
    let same : new ≡ count + r = omega arith in
    subst (λ (z : ℕ). IsCount (MeetsAt log i asked) from 36000 z) (sym same) (counts_hour (MeetsAt log i asked) from 36000 (count + r) all)

pub counted_start : (log : HourLog) (i : ℕ) (asked : Asked) (from : ℕ) (moves : List Move) → IsLog log → ((d : Spec) → moves ≡ moves_at log.specs log.rows log.stretches i d) → from ≡ first_tenth log.hour → IsCounted log i asked from from 0 moves
counted_start log i asked from moves is own e =
    let rows = hour_rows log.hour log.rows log.stretches is.is_hour in
    rw (own no_spec, e) (record {
      low = omega arith;
      cut = hour_cut (track (get_or log.specs i no_spec)) log.rows log.stretches (first_tenth log.hour) (end_tenth log.hour) is.is_hour.follow rows;
      counts = counts_empty (MeetsAt log i asked) (first_tenth log.hour);
    })

pub late_hour : (log : HourLog) (from to : ℕ) → IsLog log → from ≡ first_tenth log.hour → to ≡ min (from + 36000) 4294967295 → to ≡ from + 36000
late_hour log from to is e s = let h = is.is_hour.are_rows.in_range in omega arith

pub no_meet : (P : Type 0) (b : Bool) → (IsTrue b ↔ P) → b ≡ false → P → ⊥
no_meet P b here f p = clash b (here.1 p) f
