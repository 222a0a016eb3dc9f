-- Of an edit some answer can't be missing: a history or a row that contradicts, the hours that move, and the store after it.
use Rattle.std.proofs.Common.{◌≡◌, ◌∙◌, ◌⊎◌, inl, inr, ℕ, zero, suc, ℤ, pos, negsuc, ◌+◌, ◌*◌, ◌/◌, ◌<◌, ◌≤◌, ◌<ℤ◌, ◌≤ℤ◌, ◌-ℤ◌, Bool, true, false, if◌then◌else◌, nat_le, nat_lt, int_lt, List, [], length, take, take_all, get_or, Some, None, is_some, Result, Ok, Err, refl, sym, subst, arith, length-set}
use Rattle.std.proofs.lemmas.Int.{ints}
use Rattle.std.proofs.lemmas.List.{length-replicate}
use Rattle.std.proofs.lemmas.Bool.Decides.{nat_tests}
use Rattle.sig_base.specs.HourRows.{AreRowsOf, Shown}
use Rattle.sig_base.specs.declared.values.Applied.{Applied}
use Rattle.sig_base.specs.declared.values.EditError.{EditError}
use Rattle.sig_base.specs.declared.values.EditError.TheVariants as edit
use Rattle.sig_base.specs.declared.values.Row.{Row}
use Rattle.colour_machine.specs.Rules.{IsMachine}
use Rattle.reach.specs.Runs.{state}
use Rattle.channel_tables.proofs.Machines.{spec_machine}
use Rattle.hour_store.specs.Store.{IsStore, LieWithin, Store, held_at, nothing_held, rows_held, with_hour, with_blanks}
use Rattle.hour_store.proofs.StoreLaws.{nothing_is_store, put_is_store, take_is_store}
use Rattle.board.specs.History.{events_at}
use Rattle.board.specs.Channels.{AreSpecs}
use Rattle.board.specs.Logs.{no_row, no_spec}
use Rattle.board.proofs.Upto.{idle}
use Rattle.ring_config.specs.Settings.{Settings}
use Rattle.ring_config.specs.Sound.{IsSound}
use Rattle.signal_log.specs.Log.{HasHistory, IsContradiction, Log, first_rows, log_of, track_at, window_end}
use Rattle.signal_log.proofs.Joined.{history_runs}
use Rattle.signal_log.proofs.Lawful.{nothing}
use Rattle.rule_audit.proofs.Tracked.{channels_are}
use Rattle.hour_work.specs.Moved.{IsSameCarry, IsSameFuture}
use Rattle.session.specs.Edits.{Change, load, replace, withdraw, blank, unblank, reaches_out, step_of, unless_many_blanks, unless_many_rows}
use Rattle.session.specs.Ranges.{blanked_with, blanked_without, ranges_of}
use Rattle.session.specs.Moved.{AreMoved, IsIn, Moves, Touches}
use Rattle.session.proofs.EditLaws.{inside}
use Rattle.session.proofs.MaskLaws.{hours_in_order, hours_within}
use Rattle.session.proofs.RangeLaws.{ranges_members}
use Rattle.transcript_laws.specs.Exists.{NotNone}
use Rattle.transcript_laws.proofs.ConfigRead.{IsReadable}
use Rattle.transcript_laws.proofs.FileRows.{IsShownOf}
use Rattle.transcript_laws.proofs.Chance.{decided, each_below, greatest, least, some, then, with}

-- ---- a history, or the row of a contradiction

-- a log without rows has a history: nothing ever happens
no_rows_history : (log : Log) → AreSpecs log.specs → HasHistory (first_rows 0 log)
no_rows_history log are = (history_runs (first_rows 0 log) are).1 (λ i lt.
    let k = track_at log i in
    let laws : IsMachine k.rules = spec_machine (get_or log.specs i no_spec) (are.fit i no_spec lt) in
    let some = laws.some_colour in
    let u = state 0 (negsuc 0) in
    (u, (u, (omega arith, omega (arith, ints)), idle k log.known (events_at []) (window_end log) 0 (window_end log) u (omega arith) (λ y l1 l2. refl))))

-- a row with which, the later ones left out, no history agrees any more
first_contradiction : (log : Log) (k : ℕ) → AreSpecs log.specs → k ≤ length log.rows → (HasHistory (first_rows k log) → ⊥) → ((j : ℕ) → j < k → HasHistory (first_rows j log)) → (row : Row) × IsContradiction log row
first_contradiction log zero are le none earlier = absurd (none (no_rows_history log are))
first_contradiction log (suc k) are le none earlier =
    let next : suc k ≡ k + 1 = omega arith in (
      get_or log.rows k no_row,
      record {
        place = k;
        within = omega arith;
        is_row = refl;
        none = subst (λ (n : ℕ). HasHistory (first_rows n log) → ⊥) next none;
        least = λ n lt. earlier n (omega arith);
      },
    )

contradiction_or : (log : Log) → AreSpecs log.specs → NotNone (HasHistory log ⊎ ((row : Row) × IsContradiction log row × (HasHistory log → ⊥)))
contradiction_or log are = (then) (decided (HasHistory log)) (λ d. elim d [
  | inl has ↦ some (inl has)
  | inr none ↦
      let n = length log.rows in
      let all : take n log.rows ≡ log.rows = take_all n log.rows (omega arith) in
      let none_of_all : HasHistory (first_rows n log) → ⊥ = λ h. none (subst (λ (rs : List Row). HasHistory (record log { rows = rs })) all h) in
      (then) (least (λ m. HasHistory (first_rows m log) → ⊥) n none_of_all) (λ (k, le, here, before).
      with (each_below (λ j. HasHistory (first_rows j log)) k before) (λ earlier.
      let (row, is) = first_contradiction log k are le here earlier in
      inr (row, is, none)))
])

-- some history agrees with a store, or it contradicts itself at a row
pub history_or_row : (c : Settings) (t : Store) → IsSound c → IsStore t → length t.hours ≡ c.window.hours → NotNone (HasHistory (log_of c.specs t) ⊎ ((row : Row) × IsContradiction (log_of c.specs t) row × (HasHistory (log_of c.specs t) → ⊥)))
history_or_row c t sound is hours = contradiction_or (log_of c.specs t) (channels_are c sound)

-- ---- the hours that move

-- hours that move between two stores, about those that are touched
pub are_moved_exist : (c : Settings) (s t : Store) (first last : ℕ) → last < length s.hours → NotNone ((moved : Applied) × AreMoved c s t first last moved)
are_moved_exist c s t first last lt =
    let n = length s.hours in
    (then) (greatest (λ k. (k ≡ 0) ⊎ IsSameFuture c s t k) first 0 (omega arith) (inl refl)) (λ (from, low, at_from, none_after).
    with (least (λ k. (last < k) × ((k ≡ n) ⊎ IsSameCarry c s t k)) n (lt, inl refl)) (λ (to, high, at_to, none_before). (
      record { from = from; to = to },
      record {
        from_low = low;
        from_same = at_from;
        from_greatest = λ k above le same. none_after k above le (inr same);
        to_low = at_to.0;
        to_high = high;
        to_same = at_to.1;
        to_least = λ k above below same. none_before k below (above, inr same);
      },
    )))

-- hours that move by an edit
pub moves_exist : (c : Settings) (s t : Store) (change : Change) (first last : ℕ) → Touches change first last → first ≤ last → last < length s.hours → NotNone ((moved : Applied) × Moves c s t change moved)
moves_exist c s t change first last touched order lt = with (are_moved_exist c s t first last lt) (λ (moved, are). (moved, (first, last, touched, are)))

-- ---- what an edit touches, and the store after it

-- an edit that a test refuses, or that it lets through
not_refused : (b : Bool) (e : EditError) (x : Result Store EditError) (t : Store) → (if b then Err e else x) ≡ Ok t → (b ≡ false) × (x ≡ Ok t)
not_refused true e x t h = absurd (cc)
not_refused false e x t h = (refl, h)

let_through : (b : Bool) (e : EditError) (x : Result Store EditError) (t : Store) → (if b then x else Err e) ≡ Ok t → (b ≡ true) × (x ≡ Ok t)
let_through true e x t h = (refl, h)
let_through false e x t h = absurd (cc)

abbrev made : Store → Result Store EditError
made s = Ok s

one_store : (s t : Store) → made s ≡ Ok t → t ≡ s
one_store s t h = cc

few_rows_left : (s t : Store) → unless_many_rows s ≡ Ok t → t ≡ s
few_rows_left s t h = one_store s t (not_refused (nat_lt 20000000 (rows_held s)) edit.TooManyRows (Ok s) t h).1

few_blanks_left : (s t : Store) → unless_many_blanks s ≡ Ok t → t ≡ s
few_blanks_left s t h = one_store s t (not_refused (nat_lt 10000 (length s.blanks)) edit.TooManyBlanks (Ok s) t h).1

within_window : (n hour : ℕ) → nat_le n hour ≡ false → hour < n
within_window n hour h = grind (arith, nat_tests)

load_made : (s t : Store) (r : Shown) → step_of s (load r) ≡ Ok t → (r.hour < length s.hours) × (t ≡ with_hour s r.hour (Some r))
unfolding step_of
load_made s t r h =
    let a = not_refused (nat_le (length s.hours) r.hour) edit.OutOfWindow _ t h in
    let b = not_refused (is_some (held_at s r.hour)) edit.AlreadyHeld _ t a.1 in
    (within_window (length s.hours) r.hour a.0, few_rows_left (with_hour s r.hour (Some r)) t b.1)

replace_made : (s t : Store) (r : Shown) → step_of s (replace r) ≡ Ok t → (r.hour < length s.hours) × (t ≡ with_hour s r.hour (Some r))
unfolding step_of
replace_made s t r h =
    let a = not_refused (nat_le (length s.hours) r.hour) edit.OutOfWindow _ t h in
    let b = let_through (is_some (held_at s r.hour)) edit.NotHeld _ t a.1 in
    (within_window (length s.hours) r.hour a.0, few_rows_left (with_hour s r.hour (Some r)) t b.1)

withdraw_made : (s t : Store) (hour : ℕ) → step_of s (withdraw hour) ≡ Ok t → (hour < length s.hours) × (t ≡ with_hour s hour None)
unfolding step_of
withdraw_made s t hour h =
    let a = not_refused (nat_le (length s.hours) hour) edit.OutOfWindow _ t h in
    let b = let_through (is_some (held_at s hour)) edit.NotHeld _ t a.1 in
    (within_window (length s.hours) hour a.0, one_store (with_hour s hour None) t b.1)

-- a range of the window, not empty
record IsRange (s : Store) (from to : ℤ) : Type 0 where
  pub low : pos 0 ≤ℤ from
  pub some : from <ℤ to
  pub high : to ≤ℤ pos (36000 * length s.hours)

is_range : (s : Store) (from to : ℤ) → reaches_out (length s.hours) from to ≡ false → int_lt from to ≡ true → IsRange s from to
is_range s from to out some =
    let p = inside (length s.hours) from to out in
    record { low = p.0; some = grind (arith, ints); high = p.1 }

blank_made : (s t : Store) (from to : ℤ) → step_of s (blank from to) ≡ Ok t → IsRange s from to × (t ≡ with_blanks s (ranges_of (length s.hours) (blanked_with s from to)))
unfolding step_of
blank_made s t from to h =
    let a = not_refused (reaches_out (length s.hours) from to) edit.OutOfWindow _ t h in
    let b = let_through (int_lt from to) edit.EmptyRange _ t a.1 in
    (is_range s from to a.0 b.0, few_blanks_left (with_blanks s (ranges_of (length s.hours) (blanked_with s from to))) t b.1)

unblank_made : (s t : Store) (from to : ℤ) → step_of s (unblank from to) ≡ Ok t → IsRange s from to × (t ≡ with_blanks s (ranges_of (length s.hours) (blanked_without s from to)))
unfolding step_of
unblank_made s t from to h =
    let a = not_refused (reaches_out (length s.hours) from to) edit.OutOfWindow _ t h in
    let b = let_through (int_lt from to) edit.EmptyRange _ t a.1 in
    (is_range s from to a.0 b.0, few_blanks_left (with_blanks s (ranges_of (length s.hours) (blanked_without s from to))) t b.1)

-- the hours of a range
its_hour : (x : ℤ) → pos 0 ≤ℤ x → (hour : ℕ) × IsIn x hour
its_hour (pos n) low = (n / 36000, (omega (arith, ints), omega (arith, ints)))
its_hour (negsuc n) low = absurd (omega (arith, ints))

range_touches : (s : Store) (from to : ℤ) → IsRange s from to → (first : ℕ) × (last : ℕ) × (IsIn from first × IsIn (to -ℤ pos 1) last) × (first ≤ last) × (last < length s.hours)
range_touches s from to r =
    let a = r.low in
    let b = r.some in
    let (first, begin) = its_hour from a in
    let (last, end) = its_hour (to -ℤ pos 1) (omega (arith, ints)) in
    (first, last, (begin, end), hours_in_order from to first last b begin end, hours_within to last (length s.hours) r.high end)

-- an edit that is made touches hours of the window
pub step_touches : (s t : Store) (change : Change) → step_of s change ≡ Ok t → (first : ℕ) × (last : ℕ) × Touches change first last × (first ≤ last) × (last < length s.hours)
step_touches s t (load r) h = (r.hour, r.hour, (refl, refl), omega arith, (load_made s t r h).0)
step_touches s t (replace r) h = (r.hour, r.hour, (refl, refl), omega arith, (replace_made s t r h).0)
step_touches s t (withdraw hour) h = (hour, hour, (refl, refl), omega arith, (withdraw_made s t hour h).0)
step_touches s t (blank from to) h = range_touches s from to (blank_made s t from to h).0
step_touches s t (unblank from to) h = range_touches s from to (unblank_made s t from to h).0

-- the hours that move by an edit that is made
pub step_moves : (c : Settings) (s t : Store) (change : Change) → step_of s change ≡ Ok t → NotNone ((moved : Applied) × Moves c s t change moved)
step_moves c s t change h =
    let (first, last, touched, order, lt) = step_touches s t change h in
    moves_exist c s t change first last touched order lt

-- an edit that is made is accepted, with the hours that move, or some row contradicts
pub edit_exists : (c : Settings) (s t : Store) (change : Change) → IsSound c → IsStore t → length t.hours ≡ c.window.hours → step_of s change ≡ Ok t
    → NotNone ((HasHistory (log_of c.specs t) × ((moved : Applied) × Moves c s t change moved)) ⊎ ((row : Row) × IsContradiction (log_of c.specs t) row × (HasHistory (log_of c.specs t) → ⊥)))
edit_exists c s t change sound is hours h = (then) (history_or_row c t sound is hours) (λ d. elim d [
  | inl has ↦ with (step_moves c s t change h) (λ moves. inl (has, moves))
  | inr stop ↦ some (inr stop)
])

-- the rows of a load or a replacement are rows of its hour
abbrev pub BringsRows : Change → Type 0
BringsRows (load r) = AreRowsOf r.hour r.rows
BringsRows (replace r) = AreRowsOf r.hour r.rows
BringsRows (withdraw hour) = Unit {0}
BringsRows (blank from to) = Unit {0}
BringsRows (unblank from to) = Unit {0}

-- what a file gives are such rows
pub brings_load : (hour : ℕ) (shown : Shown) → IsShownOf hour shown → BringsRows (load shown)
brings_load hour shown (same, rows) = subst (λ (k : ℕ). AreRowsOf k shown.rows) (sym same) rows

pub brings_replace : (hour : ℕ) (shown : Shown) → IsShownOf hour shown → BringsRows (replace shown)
brings_replace hour shown (same, rows) = subst (λ (k : ℕ). AreRowsOf k shown.rows) (sym same) rows

-- the ranges of a window's tenths lie in the window
ranges_within : (hours : ℕ) (test : ℕ → Bool) → hours ≤ 744 → LieWithin hours (ranges_of hours test)
ranges_within hours test few e m =
    let p = (ranges_members test 0 (36000 * hours) (omega arith) e).0 m in
    let is = p.is_it in
    let high = p.before_end in
    (omega (arith, ints), omega (arith, ints))

put_like : (s t : Store) (r : Shown) → IsStore s → AreRowsOf r.hour r.rows → (r.hour < length s.hours) × (t ≡ with_hour s r.hour (Some r)) → IsStore t × (length t.hours ≡ length s.hours)
put_like s t r is rows (lt, e) = rw e (put_is_store s r.hour r is lt (record { hour_is = refl; rows_are = rows }), length-set s.hours r.hour (Some r))

blanks_like : (s t : Store) (test : ℕ → Bool) → IsStore s → t ≡ with_blanks s (ranges_of (length s.hours) test) → IsStore t × (length t.hours ≡ length s.hours)
blanks_like s t test is e =
    let blanked = ranges_within (length s.hours) test is.few in
    rw e (record { some = is.some; few = is.few; in_place = is.in_place; blanked = blanked }, refl)

-- an edit that is made makes a store of as many hours
pub step_keeps : (c : Settings) (s t : Store) (change : Change) → IsStore s → length s.hours ≡ c.window.hours → step_of s change ≡ Ok t → BringsRows change → IsStore t × (length t.hours ≡ length s.hours)
step_keeps c s t (load r) is hours h rows = put_like s t r is rows (load_made s t r h)
step_keeps c s t (replace r) is hours h rows = put_like s t r is rows (replace_made s t r h)
step_keeps c s t (withdraw hour) is hours h rows =
    let (lt, e) = withdraw_made s t hour h in
    rw e (take_is_store s hour is lt, length-set s.hours hour None)
step_keeps c s t (blank from to) is hours h rows = blanks_like s t (blanked_with s from to) is (blank_made s t from to h).1
step_keeps c s t (unblank from to) is hours h rows = blanks_like s t (blanked_without s from to) is (unblank_made s t from to h).1

-- ---- a store along a script

-- a store of the window, with which some history agrees
pub record IsGoing (c : Settings) (s : Store) : Type 0 where
  pub is_store : IsStore s
  pub hours : length s.hours ≡ c.window.hours
  pub history : HasHistory (log_of c.specs s)

-- where nothing is held
pub nothing_going : (c : Settings) → IsReadable c → IsGoing c (nothing_held c.window.hours)
nothing_going c is = record {
  is_store = nothing_is_store c.window.hours is.some is.few;
  hours = length-replicate c.window.hours None;
  history = nothing c.specs c.window.hours (channels_are c is.sound);
}

-- what an edit of such a store makes of it, and what is answered; it is accepted as such a store, or refused
pub edit_goes : (c : Settings) (s t : Store) (change : Change) → IsSound c → IsGoing c s → step_of s change ≡ Ok t → BringsRows change
    → NotNone ((IsGoing c t × ((moved : Applied) × Moves c s t change moved)) ⊎ ((row : Row) × IsContradiction (log_of c.specs t) row × (HasHistory (log_of c.specs t) → ⊥)))
edit_goes c s t change sound going h rows =
    let (is, same) = step_keeps c s t change going.is_store going.hours h rows in
    let hours : length t.hours ≡ c.window.hours = same ∙ going.hours in
    with (edit_exists c s t change sound is hours h) (λ d. elim d [
      | inl (has, moves) ↦ inl (record { is_store = is; hours = hours; history = has }, moves)
      | inr stop ↦ inr stop
    ])
