-- Laws of windows.
use Rattle.std.proofs.Common.{◌≡◌, refl, ap, sym, ◌∙◌, subst, ◌⊎◌, inl, inr, ◌↔◌, ℕ, zero, suc, ◌+◌, ◌*◌, ◌/◌, ◌<◌, ◌≤◌, ℤ, pos, negsuc, ◌+ℤ◌, ◌-ℤ◌, ◌≤ℤ◌, true, List, [], length, get_or, replicate, arith, Option, Some, None}
use Rattle.std.specs.Prelude.{filter, is_some, option_map}
use Rattle.std.proofs.lemmas.Int.{ints}
use Rattle.std.proofs.lemmas.Bool.{cases_lt, and_parts}
use Rattle.colour_machine.specs.Rules.{IsMachine}
use Rattle.reach.specs.Runs.{State, state}
use Rattle.reach.specs.Past.{Holds}
use Rattle.reach.specs.Tests.{InBound}
use Rattle.reach.specs.declared.seen.AgeBound.{AgeBound}
use Rattle.reach.specs.declared.seen.AgeBound.TheVariants.{Any, AtLeast, AtMost}
use Rattle.std.proofs.lemmas.List.{get_or_past}
use Rattle.sig_base.specs.declared.values.Row.{Row}
use Rattle.sig_base.specs.HourRows.{Shown}
use Rattle.channel_tables.proofs.Machines.{spec_machine}
use Rattle.hour_store.specs.Store.{IsStore, Store, held_at, is_known, known_rows, nothing_held, rows_at, rows_of}
use Rattle.board.specs.History.{Agreeing, events_at}
use Rattle.board.specs.Logs.{end_tenth, first_tenth, no_row, no_spec}
use Rattle.board.specs.Hours.{Clamped, IsStart}
use Rattle.board.specs.Places.{AllEarly}
use Rattle.board.proofs.Bridge.{agreeing_none}
use Rattle.board.proofs.Cases.{start_early}
use Rattle.board.proofs.Upto.{idle}
use Rattle.signal_log.specs.Log.{IsBeforeWindow, Log, log_of, track_at, window_end}
use Rattle.signal_log.specs.States.{IsReached}
use Rattle.signal_log.specs.Laws.{AheadsStay, AlikeMeetSame, ChannelsCombine, ContradictionIsOne, ContradictionMeansNone, EndAtLast, IsWithinHour, LessAgrees, NothingContradicts, PastsStay, StartAtFirst, StatesMeanHistory, TellSame}
use Rattle.signal_log.proofs.Runs.{agreeing_known}
use Rattle.signal_log.proofs.Stored.{hour_events, known_each, known_in_window}
use Rattle.signal_log.proofs.Joined.{at_end, end_of_one, history_runs, one_end}
use Rattle.signal_log.proofs.Hour.{SameIn, held_reached, run_in}
use Rattle.signal_log.proofs.Contradicting.{fewer_rows}

-- before the first tenth nothing has happened
reached_first : (log : Log) (i : ℕ) (u : State) → IsReached log i 0 u ↔ IsBeforeWindow (track_at log i).rules u
reached_first log i u =
    let k = track_at log i in
    let none = λ (s : State). agreeing_none k log.known (events_at log.rows) 0 s u in (
      (λ (s, bw, g). subst (λ (z : State). IsBeforeWindow k.rules z) (sym ((none s).0 g)) bw),
      λ bw. (u, bw, (none u).1 refl),
    )

start_clamped : (log : Log) (i : ℕ) (s : State) → IsStart (track_at log i).rules s ↔ Clamped (pos 0 -ℤ pos 36001) (IsReached log i 0) s
start_clamped log i s =
    let k = track_at log i in (
      (λ (few, low, high). inl ((reached_first log i s).1 (few, high), omega (arith, ints))),
      λ c. elim c [
        | inl (r, le) ↦ let (few, high) = (reached_first log i s).0 r in (few, omega (arith, ints), high)
        | inr (e, (x, r, lt)) ↦ let (few, high) = (reached_first log i (state s.colour x)).0 r in (few, omega (arith, ints), omega (arith, ints))
      ],
    )

pub starts : StartAtFirst
starts log pasts shape are =
    let first : 0 ≡ first_tenth 0 = omega arith in
    record {
      shape = shape;
      early = subst (λ (t : ℕ). AllEarly t pasts) first (start_early log.specs pasts shape are);
      states = λ i lt u. subst (λ (t : ℕ). Holds (get_or pasts i []) u ↔ Clamped (pos t -ℤ pos 36001) (IsReached log i t) u) first (
        (λ h. (start_clamped log i u).0 ((are i lt u).0 h)),
        λ c. (are i lt u).1 ((start_clamped log i u).1 c),
      );
    }

pub ends : EndAtLast
ends log aheads shape are = record {
  shape = shape;
  states = λ i lt s.
      let k = track_at log i in
      let none = agreeing_none k log.known (events_at log.rows) (window_end log) s s in (
        (λ a. let (few, early) = (are i lt s).0 a in (few, early, (s, none.1 refl))),
        λ (few, early, _). (are i lt s).1 (few, early),
      );
}

pub some_history : StatesMeanHistory
some_history log pasts are at = (history_runs log are).1 (λ i lt.
    let k = track_at log i in
    let laws : IsMachine k.rules = spec_machine (get_or log.specs i no_spec) (are.fit i no_spec lt) in
    let (s, h) = (at.shape.1 i no_spec lt).1 in
    let (r, g, _) = held_reached k laws log.known (events_at log.rows) (window_end log) (get_or pasts i []) (at.states i lt) s h in
    (r, g))

pub no_history : ContradictionMeansNone
no_history specs s row are is contradiction has = contradiction.none (fewer_rows (log_of specs s) (contradiction.place + 1) are (known_in_window s is) (known_each s) has)

pub one_row : ContradictionIsOne
one_row log a b p q = elim (cases_lt p.place q.place) [
  | inl lt ↦ absurd (p.none (q.least (p.place + 1) (omega arith)))
  | inr ge ↦ elim (cases_lt q.place p.place) [
    | inl lt ↦ absurd (q.none (p.least (q.place + 1) (omega arith)))
    | inr le ↦ let same : p.place ≡ q.place = omega arith in p.is_row ∙ (ap (λ n. get_or log.rows n no_row) same ∙ sym q.is_row)
  ]
]

-- nothing is held
no_rows : (hours : ℕ) → rows_of (replicate hours None) ≡ []
no_rows zero = refl
no_rows (suc n) = no_rows n

nothing_known : (hours : ℕ) → known_rows (nothing_held hours) ≡ []
nothing_known hours = ap (λ (rs : List Row). filter (λ r. is_known (nothing_held hours) r.at) rs) (no_rows hours)

pub nothing : NothingContradicts
nothing specs hours are =
    let s = nothing_held hours in
    let log = log_of specs s in
    (history_runs log are).1 (λ i lt.
    let k = track_at log i in
    let laws : IsMachine k.rules = spec_machine (get_or specs i no_spec) (are.fit i no_spec lt) in
    let some = laws.some_colour in
    let u = state 0 (negsuc 0) in
    (u, (u, (omega arith, omega (arith, ints)), idle k (is_known s) (events_at (known_rows s)) (window_end log) 0 (window_end log) u (omega arith) (λ y l1 l2. ap (λ (rs : List Row). events_at rs y) (nothing_known hours)))))

-- a known tenth is of a held hour of the window
known_held : (s : Store) (x : ℕ) → is_known s x ≡ true → (rows : List Row) × (rows_at s (x / 36000) ≡ Some rows)
known_held s x is = of (held_at s (x / 36000)) (and_parts (is_some (held_at s (x / 36000))) _ is).0 where
  of : (o : Option Shown) → is_some o ≡ true → (rows : List Row) × (option_map (λ h. h.rows) o ≡ Some rows)
  of None e = absurd (cc)
  of (Some h) e = (h.rows, refl)

held_within : (s : Store) (hour : ℕ) (rows : List Row) → rows_at s hour ≡ Some rows → hour < length s.hours
held_within s hour rows e = elim (cases_lt hour (length s.hours)) [
  | inl lt ↦ lt
  | inr ge ↦ let none : held_at s hour ≡ None = get_or_past s.hours hour None ge in let bad : None ≡ Some rows = rw none at e in absurd (cc)
]

pub fewer : LessAgrees
fewer specs more less are im il len known same has = (history_runs (log_of specs less) are).1 (λ i lt.
    let k = track_at (log_of specs less) i in
    let T = 36000 * length more.hours in
    let ends_same : T ≡ 36000 * length less.hours = ap (λ n. 36000 * n) (sym len) in
    let (u, (s, bw, g)) = (history_runs (log_of specs more) are).0 has i lt in
    let g2 = agreeing_known k (is_known more) (is_known less) (events_at (known_rows more)) (events_at (known_rows less)) 0 T s u (λ x l1 l2 is.
    let hour = x / 36000 in
    let (rows, held) = known_held less x is in
    let low : first_tenth hour ≤ x = omega arith in
    let high : x < end_tenth hour = omega arith in
    let inside : hour < length more.hours = omega arith in
    let is2 = known x is in
    (is2, hour_events more hour x (Some rows) im inside (same hour rows held) low high is2 ∙ sym (hour_events less hour x (Some rows) il (omega arith) held low high is))) g in
    (u, (s, bw, subst (λ (t : ℕ). Agreeing k (is_known less) (events_at (known_rows less)) 0 t s u) ends_same g2)))

-- what stores tell of the same hours is the same
pub told_same : (a b : Store) (low high : ℕ) → IsStore a → IsStore b → TellSame a b low high → SameIn (is_known a) (events_at (known_rows a)) (is_known b) (events_at (known_rows b)) (first_tenth low) (first_tenth high)
told_same a b low high ia ib same x l1 l2 = (
  same.known x l1 l2,
  λ is.
      let hour = x / 36000 in
      let (rows, held) = known_held b x is in
      let here = same.rows hour (omega arith) (omega arith) ∙ held in
      let first : first_tenth hour ≤ x = omega arith in
      let last : x < end_tenth hour = omega arith in
      hour_events a hour x (Some rows) ia (held_within a hour rows here) here first last (same.known x l1 l2 ∙ is) ∙ sym (hour_events b hour x (Some rows) ib (held_within b hour rows held) held first last is),
)

clamp_same : (limit : ℤ) (P Q : State → Type 0) → ((u : State) → P u → Q u) → (u : State) → Clamped limit P u → Clamped limit Q u
clamp_same limit P Q to u c = elim c [ inl (h, le) ↦ inl (to u h, le) | inr (e, (x, h, lt)) ↦ inr (e, (x, to (state u.colour x) h, lt)) ]

pub pasts_stay : PastsStay
pasts_stay specs a b k pasts ia ib same at = record {
  shape = at.shape;
  early = at.early;
  states = λ i lt u.
      let track = track_at (log_of specs a) i in
      let t = first_tenth k in
      let first : first_tenth 0 ≡ 0 = omega arith in
      let told : SameIn (is_known a) (events_at (known_rows a)) (is_known b) (events_at (known_rows b)) 0 t = subst (λ (f : ℕ). SameIn (is_known a) (events_at (known_rows a)) (is_known b) (events_at (known_rows b)) f t) first (told_same a b 0 k ia ib same) in
      let one = λ (s v : State). run_in track (is_known a) (events_at (known_rows a)) (is_known b) (events_at (known_rows b)) 0 t 0 t s v told (omega arith) (omega arith) in
      let limit = pos t -ℤ pos 36001 in (
        (λ h. clamp_same limit (IsReached (log_of specs a) i t) (IsReached (log_of specs b) i t) (λ v (s, bw, g). (s, bw, (one s v).0 g)) u ((at.states i lt u).0 h)),
        λ c. (at.states i lt u).1 (clamp_same limit (IsReached (log_of specs b) i t) (IsReached (log_of specs a) i t) (λ v (s, bw, g). (s, bw, (one s v).1 g)) u c),
      );
}

pub aheads_stay : AheadsStay
aheads_stay specs a b k aheads ia ib len same at = record {
  shape = at.shape;
  states = λ i lt s.
      let track = track_at (log_of specs a) i in
      let f = first_tenth k in
      let T = first_tenth (length a.hours) in
      let last : T ≡ 36000 * length b.hours = ap (λ n. 36000 * n) len in
      let told = told_same a b k (length a.hours) ia ib same in
      let one = λ (u : State). run_in track (is_known a) (events_at (known_rows a)) (is_known b) (events_at (known_rows b)) f T f T s u told (omega arith) (omega arith) in
      let two = λ (u : State). subst (λ (t : ℕ). Agreeing track (is_known a) (events_at (known_rows a)) f T s u ↔ Agreeing track (is_known b) (events_at (known_rows b)) f t s u) last (one u) in (
        (λ h. let (few, early, (u, g)) = (at.states i lt s).0 h in (few, early, (u, (two u).0 g))),
        λ (few, early, (u, g)). (at.states i lt s).1 (few, early, (u, (two u).1 g)),
      );
}

pub combine : ChannelsCombine
combine log x v are has lt = (
  (λ m i small. let (r, c) = (at_end log x v are lt).0 m i small in end_of_one log i x (v i) are has small lt r c),
  λ all. (at_end log x v are lt).1 (λ i small. one_end log i x (v i) small lt (all i small)),
)

least_far : (p at e : ℤ) (n : ℕ) → (e +ℤ pos 36001) ≤ℤ p → p ≤ℤ at → n ≤ 36000 → (e +ℤ pos n) ≤ℤ at
least_far p at e n h le few = omega (arith, ints)

pub most_far : (p at e : ℤ) (n : ℕ) → (e +ℤ pos 36001) ≤ℤ p → p ≤ℤ at → n ≤ 36000 → at ≤ℤ (e +ℤ pos n) → ⊥
most_far p at e n h le few most = omega (arith, ints)

ages : (p at e x : ℤ) (bound : AgeBound) → (e ≡ x) ⊎ (((x +ℤ pos 36001) ≤ℤ p) × ((e +ℤ pos 36001) ≤ℤ p)) → p ≤ℤ at → IsWithinHour bound → InBound bound at x → InBound bound at e
ages p at e x Any k le few h = tt
ages p at e x (AtLeast n) k le few h = elim k [ inl same ↦ rw same h | inr (a, b) ↦ least_far p at e n b le few ]
ages p at e x (AtMost n) k le few h = elim k [ inl same ↦ rw same h | inr (a, b) ↦ absurd (most_far p at x n a le few h) ]

pub meet_same : AlikeMeetSame
meet_same m p at v w bound (few, same, k) le within =
    let there : (w.entry ≡ v.entry) ⊎ (((v.entry +ℤ pos 36001) ≤ℤ p) × ((w.entry +ℤ pos 36001) ≤ℤ p)) = elim k [ inl e ↦ inl (ap (λ (z : State). z.entry) e) | inr far ↦ inr far ] in
    let back : (v.entry ≡ w.entry) ⊎ (((w.entry +ℤ pos 36001) ≤ℤ p) × ((v.entry +ℤ pos 36001) ≤ℤ p)) = elim k [ inl e ↦ inl (sym (ap (λ (z : State). z.entry) e)) | inr (a, b) ↦ inr (b, a) ] in
    (sym same, (ages p at w.entry v.entry bound there le within, ages p at v.entry w.entry bound back le within))
