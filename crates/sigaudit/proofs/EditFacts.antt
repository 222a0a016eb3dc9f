-- Edits: those that are refused, and those that are made.
use Rattle.std.proofs.Common.{◌≡◌, ◌<◌, ◌*◌, ◌∙◌, ℕ, Bool, true, false, Option, Some, None, Result, Ok, Err, refl, ap, inl, inr, nat_le, nat_lt, List, length}
use Rattle.std.specs.Prelude.{is_some, int_lt, slice_index_or}
use Rattle.std.proofs.lemmas.Bool.{cases_Bool}
use Rattle.std.proofs.lemmas.List.{length-set}
use Rattle.std.proofs.lemmas.List.Elements.{All-get_or, filter_passes}
use Rattle.outside.specs.Sink.{Stops, Taken, Writes}
use Rattle.sig_base.specs.HourRows.{Shown}
use Rattle.sig_base.specs.declared.values.Row.{Row}
use Rattle.sig_base.specs.declared.values.Applied.{Applied}
use Rattle.sig_base.specs.declared.values.EditError.{EditError}
use Rattle.sig_base.specs.declared.values.EditError.TheVariants.{OutOfWindow, AlreadyHeld, NotHeld, EmptyRange, TooManyRows, TooManyBlanks, Contradiction, Memory}
use Rattle.sig_base.specs.Window.{Span}
use Rattle.hour_store.specs.Store.{Store, held_at, is_known, known_rows, rows_held, rows_of as all_rows_of, with_hour, with_blanks}
use Rattle.board.specs.Logs.{no_row}
use Rattle.channel_tables.specs.declared.spec.Spec.{Spec}
use Rattle.ring_config.specs.Settings.{Settings}
use Rattle.signal_log.specs.Log.{HasHistory, IsContradiction, log_of}
use Rattle.decisive.proofs.Concluded.{known_within}
use Rattle.report_text.specs.declared.refusal.Refusal.TheVariants.{Edit}
use Rattle.report_text.specs.Refusals.{NamesRowIn}
use Rattle.report_text.specs.Applied.{applied_text}
use Rattle.session.specs.Edits.{Change, load, replace, withdraw, blank, unblank, step_of, reaches_out, unless_many_rows, unless_many_blanks}
use Rattle.session.specs.Ranges.{ranges_of, blanked_with, blanked_without}
use Rattle.session.specs.Sessions.{Steps}
use Rattle.sigaudit.specs.declared.hour_file.Unread.{Unread}
use Rattle.sigaudit.specs.HourFile.{hour_said}
use Rattle.sigaudit.specs.Turns.{refuses, refuses_file}
use Rattle.session.specs.Moved.{Moves}
use Rattle.sigaudit.specs.Script.{accepts, is_edit_memory, wanted_for, IsMade, IsRead}
use Rattle.sigaudit.specs.Run.{TakesBy, TakesPut}
use Rattle.sigaudit.specs.declared.status.Stopped.{Stopped}
use Rattle.sigaudit.specs.declared.status.Stopped.TheVariants as stopped
use Rattle.sigaudit.proofs.TakeFacts.{by_put, by_refusal}

-- ---- an edit changes no window

many_rows_hours : (s t : Store) → unless_many_rows s ≡ Ok t → length t.hours ≡ length s.hours
many_rows_hours s t e = elim (cases_Bool (nat_lt 20000000 (rows_held s))) [ inl y ↦ let k = rw y at e in absurd (cc) | inr n ↦ let k = rw n at e in let same : t ≡ s = cc in rw same refl ]

many_blanks_hours : (s t : Store) → unless_many_blanks s ≡ Ok t → length t.hours ≡ length s.hours
many_blanks_hours s t e = elim (cases_Bool (nat_lt 10000 (length s.blanks))) [ inl y ↦ let k = rw y at e in absurd (cc) | inr n ↦ let k = rw n at e in let same : t ≡ s = cc in rw same refl ]

hour_hours : (s : Store) (hour : ℕ) (x : Option Shown) → length (with_hour s hour x).hours ≡ length s.hours
hour_hours s hour x = length-set s.hours hour x

pub step_hours : (s : Store) (ch : Change) (t : Store) → step_of s ch ≡ Ok t → length t.hours ≡ length s.hours
unfolding step_of
step_hours s (load r) t e = elim (cases_Bool (nat_le (length s.hours) r.hour)) [
  | inl y ↦ let k = rw y at e in absurd (cc)
  | inr f ↦ elim (cases_Bool (is_some (held_at s r.hour))) [ inl y ↦ let k = rw (f, y) at e in absurd (cc) | inr g ↦ many_rows_hours (with_hour s r.hour (Some r)) t (rw (f, g) at e) ∙ hour_hours s r.hour (Some r) ]
]
step_hours s (replace r) t e = elim (cases_Bool (nat_le (length s.hours) r.hour)) [
  | inl y ↦ let k = rw y at e in absurd (cc)
  | inr f ↦ elim (cases_Bool (is_some (held_at s r.hour))) [ inl y ↦ many_rows_hours (with_hour s r.hour (Some r)) t (rw (f, y) at e) ∙ hour_hours s r.hour (Some r) | inr g ↦ let k = rw (f, g) at e in absurd (cc) ]
]
step_hours s (withdraw hour) t e = elim (cases_Bool (nat_le (length s.hours) hour)) [
  | inl y ↦ let k = rw y at e in absurd (cc)
  | inr f ↦ elim (cases_Bool (is_some (held_at s hour))) [ inl y ↦ let k = rw (f, y) at e in let same : t ≡ with_hour s hour None = cc in rw same (hour_hours s hour None) | inr g ↦ let k = rw (f, g) at e in absurd (cc) ]
]
step_hours s (blank from to) t e = elim (cases_Bool (reaches_out (length s.hours) from to)) [
  | inl y ↦ let k = rw y at e in absurd (cc)
  | inr f ↦ elim (cases_Bool (int_lt from to)) [ inl y ↦ many_blanks_hours (with_blanks s (ranges_of (length s.hours) (blanked_with s from to))) t (rw (f, y) at e) | inr g ↦ let k = rw (f, g) at e in absurd (cc) ]
]
step_hours s (unblank from to) t e = elim (cases_Bool (reaches_out (length s.hours) from to)) [
  | inl y ↦ let k = rw y at e in absurd (cc)
  | inr f ↦ elim (cases_Bool (int_lt from to)) [ inl y ↦ many_blanks_hours (with_blanks s (ranges_of (length s.hours) (blanked_without s from to))) t (rw (f, y) at e) | inr g ↦ let k = rw (f, g) at e in absurd (cc) ]
]

-- ---- the row of a contradiction is in the window

pub row_within : (specs : List Spec) (s : Store) (row : Row) → IsContradiction (log_of specs s) row → row.at < 36000 * length s.hours
row_within specs s row h =
    let all = filter_passes (λ r. is_known s r.at) (all_rows_of s.hours) in
    let known : is_known s (slice_index_or (known_rows s) h.place no_row).at ≡ true = All-get_or (λ r. is_known s r.at ≡ true) (known_rows s) h.place no_row h.within all in
    rw h.is_row (known_within s (slice_index_or (known_rows s) h.place no_row).at known)

-- the refusal of an edit names no row outside the window
pub names_row : (c : Settings) (w : Span) (s new : Store) (ch : Change) (e : EditError) → w ≡ c.window → length new.hours ≡ c.window.hours → Steps c (step_of s ch) s new (Err e) → NamesRowIn w e
names_row c w s new ch OutOfWindow ew el h = tt
names_row c w s new ch AlreadyHeld ew el h = tt
names_row c w s new ch NotHeld ew el h = tt
names_row c w s new ch EmptyRange ew el h = tt
names_row c w s new ch TooManyRows ew el h = tt
names_row c w s new ch TooManyBlanks ew el h = tt
names_row c w s new ch (Contradiction row) ew el h =
    let same = step_hours s ch h.1.0 h.1.1 ∙ (rw h.0 at el) in
    let within = row_within c.specs h.1.0 row h.1.2 in
    rw (ew, ← same) within
names_row c w s new ch Memory ew el h = tt

-- ---- what an edit tells

-- a refusal other than out of memory is a turn of the line
refused_turn : (c : Settings) (n : ℕ) (loaded : Option (ℕ × ℕ)) (s new : Store) (ch : Change) (to : Result Store EditError) (e : EditError) → is_edit_memory e ≡ false → Steps c to s new (Err e)
    → (new ≡ s) × IsMade c n loaded s ch to (refuses c n (Edit e) s)
refused_turn c n loaded s new ch to OutOfWindow ne h = (h.0, rw h.1 refl)
refused_turn c n loaded s new ch to AlreadyHeld ne h = (h.0, rw h.1 refl)
refused_turn c n loaded s new ch to NotHeld ne h = (h.0, rw h.1 refl)
refused_turn c n loaded s new ch to EmptyRange ne h = (h.0, rw h.1 refl)
refused_turn c n loaded s new ch to TooManyRows ne h = (h.0, rw h.1 refl)
refused_turn c n loaded s new ch to TooManyBlanks ne h = (h.0, rw h.1 refl)
refused_turn c n loaded s new ch to (Contradiction row) ne h = (h.0, rw h.1.1 (inr (row, h.1.2, h.1.3, refl)))
refused_turn c n loaded s new ch to Memory ne h = absurd (cc)

pub edit_refused : (c c' : Settings) (n : ℕ) (loaded : Option (ℕ × ℕ)) (s new : Store) (ch : Change) (to : Result Store EditError) (e : EditError) (w w' : Taken) (r : Result Bool Stopped)
    → is_edit_memory e ≡ false → c' ≡ c → Steps c to s new (Err e) → ((x : Store) → TakesPut (refuses c' n (Edit e) x) w w' x r)
    → TakesBy (IsMade c n loaded s ch to) w w' new r
edit_refused c c' n loaded s new ch to e w w' r ne ec h p =
    let k = refused_turn c n loaded s new ch to e ne h in
    rw (k.0) (by_refusal (IsMade c n loaded s ch to) c c' n (Edit e) s w w' r ec k.1 p)

-- an edit that was made is a turn of the line
made_turn : (c : Settings) (n : ℕ) (loaded : Option (ℕ × ℕ)) (s new : Store) (ch : Change) (to : Result Store EditError) (a : Applied) → to ≡ Ok new → HasHistory (log_of c.specs new) → Moves c s new ch a → IsMade c n loaded s ch to (accepts n loaded a new)
made_turn c n loaded s new ch to a e h m = rw e (inl (h, a, m, refl))

pub edit_made : (c : Settings) (n : ℕ) (loaded : Option (ℕ × ℕ)) (s new : Store) (ch : Change) (to : Result Store EditError) (a : Applied) (w w' : Taken)
    → Steps c to s new (Ok a) → Moves c s new ch a → Writes w w' (applied_text n loaded a) → TakesBy (IsMade c n loaded s ch to) w w' new (Ok false)
edit_made c n loaded s new ch to a w w' h m p = (accepts n loaded a new, made_turn c n loaded s new ch to a h.0 h.1 m, p, refl, refl)

pub edit_cut : (c : Settings) (n : ℕ) (loaded : Option (ℕ × ℕ)) (s new : Store) (ch : Change) (to : Result Store EditError) (a : Applied) (w w' : Taken)
    → Steps c to s new (Ok a) → Moves c s new ch a → Stops w w' (applied_text n loaded a) → TakesBy (IsMade c n loaded s ch to) w w' new (Err stopped.Fault)
edit_cut c n loaded s new ch to a w w' h m p = (accepts n loaded a new, made_turn c n loaded s new ch to a h.0 h.1 m, p)

-- ---- rows of a file

-- a refused file
pub bytes_refused : (c c' : Settings) (n hour : ℕ) (make : Shown → Change) (s : Store) (signal : List ℕ) (window : Span) (bytes : List ℕ) (e : Unread) (w w' : Taken) (r : Result Bool Stopped)
    → c' ≡ c → signal ≡ c'.signal → window ≡ c'.window → hour_said (record { signal = signal; hour = hour; window = window }) bytes ≡ Err e
    → ((x : Store) → TakesPut (refuses_file c' n e x) w w' x r) → TakesBy (IsRead c n make s (hour_said (wanted_for c hour) bytes)) w w' s r
bytes_refused c c' n hour make s signal window bytes e w w' r ec es ew h p =
    let sig : signal ≡ c.signal = es ∙ ap (λ (k : Settings). k.signal) ec in
    let win : window ≡ c.window = ew ∙ ap (λ (k : Settings). k.window) ec in
    let h' : hour_said (wanted_for c hour) bytes ≡ Err e = rw (sig, win) at h in
    let p' = rw ec at (p s) in
    let is : IsRead c n make s (hour_said (wanted_for c hour) bytes) (refuses_file c n e s) = rw h' refl in
    by_put (IsRead c n make s (hour_said (wanted_for c hour) bytes)) (refuses_file c n e s) w w' s r is p'
