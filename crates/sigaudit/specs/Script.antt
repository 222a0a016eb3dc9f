-- The transcript of a script.
use Rattle.std.specs.Prelude.{◌≡◌, ◌⊎◌, ℕ, ◌+◌, ◌||◌, ◌*◌, ◌^◌, nat_lt, List, [], ◌∷◌, ◌++◌, length, if◌then◌else◌, Option, Some, None, Result, Ok, Err, Bool, true, false}
use Rattle.outside.specs.Shelf.{Files}
use Rattle.sig_base.specs.HourRows.{Shown}
use Rattle.sig_base.specs.Numbers.{has_phase}
use Rattle.sig_base.specs.declared.values.Applied.{Applied}
use Rattle.sig_base.specs.declared.values.EditError.{EditError}
use Rattle.sig_base.specs.declared.values.Row.{Row}
use Rattle.sig_base.specs.declared.values.EditError.TheVariants.{OutOfWindow, Contradiction}
use Rattle.sig_base.specs.declared.values.EditError.TheVariants as edits
use Rattle.row_reader.specs.Rows.{Wanted}
use Rattle.ring_config.specs.Settings.{Settings}
use Rattle.hour_store.specs.Store.{Store}
use Rattle.hour_work.specs.Numbers.{Numbers}
use Rattle.measure_laws.specs.Plain.{IsHourOf, IsWindowOf}
use Rattle.signal_log.specs.Log.{HasHistory, IsContradiction, log_of}
use Rattle.session.specs.Edits.{Change, hour_change, step_of}
use Rattle.session.specs.Edits as change
use Rattle.session.specs.Moved.{Moves}
use Rattle.script_lines.specs.Words.{Said, said}
use Rattle.script_lines.specs.Words as line
use Rattle.report_text.specs.declared.refusal.Refusal.{Refusal}
use Rattle.report_text.specs.declared.refusal.Refusal.TheVariants.{BadLine, MissingFile, FileTooLong, Edit}
use Rattle.report_text.specs.Applied.{applied_text}
use Rattle.report_text.specs.Measures.{hour_measures, window_measures}
use Rattle.sigaudit.specs.declared.hour_file.Unread.{Unread}
use Rattle.sigaudit.specs.declared.script.LoadLine.{LoadLine}
use Rattle.sigaudit.specs.HourFile.{hour_said, unread_text}
use Rattle.sigaudit.specs.Turns.{Turn, passes, refuses, writes}
use Rattle.sigaudit.specs.Audit.{AreVerdicts, IsAudited}
use Rattle.sigaudit.specs.Points.{points_turn}
use Rattle.sigaudit.specs.Offsets.{advance_of, offsets_turn}

-- the turn of an edit that makes this of the store, or is refused before it is made: it is accepted and answered by the hours that move where some history agrees with the new store, and refused where none does, by the row at which the new store contradicts itself
abbrev pub IsMade : Settings → ℕ → Option (ℕ × ℕ) → Store → Change → Result Store EditError → Turn → Type 0
IsMade c n loaded s ch (Err e) t = t ≡ refuses c n (Edit e) s
IsMade c n loaded s ch (Ok new) t =
    (HasHistory (log_of c.specs new) × (moved : Applied) × Moves c s new ch moved × (t ≡ writes (applied_text n loaded moved) new))
    ⊎ ((row : Row) × IsContradiction (log_of c.specs new) row × (HasHistory (log_of c.specs new) → ⊥) × (t ≡ refuses c n (Edit (Contradiction row)) s))

-- the turn of a line that makes this change of the store
abbrev pub IsEdited : Settings → ℕ → Option (ℕ × ℕ) → Store → Change → Turn → Type 0
IsEdited c n loaded s ch t = IsMade c n loaded s ch (step_of s ch) t

-- the turn of a load or a replacement of what the file says
abbrev pub IsRead : Settings → ℕ → (Shown → Change) → Store → Result Shown Unread → Turn → Type 0
IsRead c n make s (Ok shown) t = IsEdited c n (Some (length shown.rows, shown.repeats)) s (make shown) t
IsRead c n make s (Err e) t = t ≡ record { text = unread_text c.window (Some n) e; store = s; refused = true }

-- the rows that a line wants for an hour
abbrev pub wanted_for : Settings → ℕ → Wanted
wanted_for c hour = record { signal = c.signal; hour = hour; window = c.window }

-- what is at the name of an hour file, which has a limit of 32 MiB, or why there is nothing to read
abbrev pub hour_file : Option (List ℕ) → Result (List ℕ) Refusal
hour_file None = Err MissingFile
hour_file (Some bytes) = if nat_lt (32 * 2 ^ 20) (length bytes) then Err FileTooLong else Ok bytes

-- the bytes at the name of an hour's file, or why nothing is read: the hour isn't one of the window, or what `hour_file` says
abbrev pub hour_bytes : Files → Settings → ℕ → List ℕ → Result (List ℕ) Refusal
hour_bytes files c hour name = if nat_lt hour c.window.hours then hour_file (files name) else Err (Edit OutOfWindow)

-- the turn of a load or a replacement of the hour by these bytes
abbrev pub IsFetched : Settings → ℕ → ℕ → (Shown → Change) → Store → Result (List ℕ) Refusal → Turn → Type 0
IsFetched c n hour make s (Ok bytes) t = IsRead c n make s (hour_said (wanted_for c hour) bytes) t
IsFetched c n hour make s (Err refusal) t = t ≡ refuses c n refusal s

-- the turn of a line that asks for the measures of one hour; an hour past the window is refused
abbrev pub IsMeasuredOf : Settings → ℕ → ℕ → Store → Bool → Turn → Type 0
IsMeasuredOf c n hour s true t = (numbers : Numbers) × HasHistory (log_of c.specs s) × IsHourOf c s hour numbers × (t ≡ writes (hour_measures n hour c numbers) s)
IsMeasuredOf c n hour s false t = t ≡ refuses c n (Edit OutOfWindow) s

-- what the line of this number writes and does to a store, by what it says
unfoldable pub IsTurn : Files → Settings → ℕ → Said → Store → Turn → Type 0
IsTurn files c n line.skip s t = t ≡ passes s
IsTurn files c n line.bad s t = t ≡ refuses c n BadLine s
IsTurn files c n (line.load hour name) s t = IsFetched c n hour change.load s (hour_bytes files c hour name) t
IsTurn files c n (line.replace hour name) s t = IsFetched c n hour change.replace s (hour_bytes files c hour name) t
IsTurn files c n (line.withdraw hour) s t = IsEdited c n None s (change.withdraw hour) t
IsTurn files c n (line.blank from to) s t = IsEdited c n None s (change.blank from to) t
IsTurn files c n (line.unblank from to) s t = IsEdited c n None s (change.unblank from to) t
IsTurn files c n line.audit s t = IsAudited c n s t
IsTurn files c n (line.verdicts hour) s t = AreVerdicts c n hour s (nat_lt hour c.window.hours) t
IsTurn files c n line.measures s t = (total : Numbers) × HasHistory (log_of c.specs s) × IsWindowOf c s total × (t ≡ writes (window_measures n c total) s)
IsTurn files c n (line.measures_of hour) s t = IsMeasuredOf c n hour s (nat_lt hour c.window.hours) t
IsTurn files c n (line.points p) s t = t ≡ points_turn c n p s (has_phase c.phases p)
IsTurn files c n (line.offsets name) s t = t ≡ offsets_turn c n name s (advance_of c name)

-- what these lines write and do in their order, numbered from n: their texts one after the other, the store after the last of them, and whether one of them is refused
unfoldable pub IsTold : Files → Settings → ℕ → List (List ℕ) → Store → Turn → Type 0
IsTold files c n [] s told = told ≡ passes s
IsTold files c n (l ∷ ls) s told =
    (t : Turn) × (rest : Turn) × IsTurn files c n (said c.window l) s t × IsTold files c (n + 1) ls t.store rest
    × (told ≡ record { text = t.text ++ rest.text; store = rest.store; refused = t.refused || rest.refused })

-- ---- For contracts alone

-- this is out of memory, which no definition gives
abbrev pub is_edit_memory : EditError → Bool
is_edit_memory edits.Memory = true
is_edit_memory _ = false

-- what a line that loads or replaces an hour does where these are the bytes of its file
abbrev pub ReadsLoad : Settings → LoadLine → Store → List ℕ → Turn → Type 0
ReadsLoad c load s bytes t = IsRead c load.number (hour_change load.replaces) s (hour_said (wanted_for c load.hour) bytes) t

-- where there is this at its name, or a reason why there is nothing to read
abbrev pub TakesLoad : Settings → LoadLine → Store → Result (List ℕ) Refusal → Turn → Type 0
TakesLoad c load s want t = IsFetched c load.number load.hour (hour_change load.replaces) s want t

-- what there is at its name, where the window has its hour
abbrev pub load_bytes : Files → Settings → LoadLine → Result (List ℕ) Refusal
load_bytes files c load = hour_bytes files c load.hour load.name.now

-- the turn of an edit that is accepted: it is answered by the hours that move
abbrev pub accepts : ℕ → Option (ℕ × ℕ) → Applied → Store → Turn
accepts n loaded moved new = record { text = applied_text n loaded moved; store = new; refused = false }

-- the turn of a line that asks for the measures of the window
abbrev pub IsMeasured : Settings → ℕ → Store → Turn → Type 0
IsMeasured c n s t = (total : Numbers) × HasHistory (log_of c.specs s) × IsWindowOf c s total × (t ≡ writes (window_measures n c total) s)

-- the edit of a line that needs no file
abbrev pub edit_said : Said → Option Change
edit_said (line.withdraw hour) = Some (change.withdraw hour)
edit_said (line.blank from to) = Some (change.blank from to)
edit_said (line.unblank from to) = Some (change.unblank from to)
edit_said _ = None

-- what some lines write and do: their text, the store after them, and whether one of them is refused
abbrev pub Told : Type 0
Told = Turn

-- what no line writes and does
abbrev pub nothing_told : Store → Told
nothing_told s = passes s

-- what a line writes and does, and then the rest
abbrev pub followed : Turn → Told → Told
followed t rest = record { text = t.text ++ rest.text; store = rest.store; refused = t.refused || rest.refused }
