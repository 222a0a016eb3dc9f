-- How often a script opens each hour.
use Rattle.std.specs.Prelude.{◌≡◌, ◌⊎◌, ◌<◌, ◌+◌, ◌*◌, ◌/◌, ◌^◌, ℕ, nat_lt, if◌then◌else◌, Bool, List, [], ◌∷◌, length, slice_index, Option, Some, None, Result, Ok, Err, false, All, ⊤}
use Rattle.outside.specs.Shelf.{Files}
use Rattle.sig_base.specs.HourRows.{Shown}
use Rattle.sig_base.specs.Numbers.{has_phase}
use Rattle.sig_base.specs.declared.values.Applied.{Applied}
use Rattle.sig_base.specs.declared.values.EditError.{EditError}
use Rattle.sig_base.specs.declared.values.Row.{Row}
use Rattle.hour_store.specs.Store.{Store, nothing_held}
use Rattle.ring_config.specs.Reading.{Read}
use Rattle.ring_config.specs.Settings.{Settings, config_of}
use Rattle.signal_log.specs.Log.{HasHistory, IsContradiction, log_of}
use Rattle.session.specs.Edits.{Change, hour_change, step_of}
use Rattle.session.specs.Edits as change
use Rattle.session.specs.Moved.{Moves, Touches}
use Rattle.session.specs.Opens.{IsOpened, IsOpenedFor, still}
use Rattle.command_line.specs.Words.{Asked, for_run}
use Rattle.script_lines.specs.Lines.{lines_of}
use Rattle.script_lines.specs.Words.{Said, said}
use Rattle.script_lines.specs.Words as line
use Rattle.report_text.specs.declared.refusal.Refusal.{Refusal}
use Rattle.sigaudit.specs.declared.hour_file.Unread.{Unread}
use Rattle.sigaudit.specs.declared.script.LoadLine.{LoadLine}
use Rattle.sigaudit.specs.declared.status.Status.{Status}
use Rattle.sigaudit.specs.declared.status.Status.TheVariants.{Done, SomeRefused}
use Rattle.sigaudit.specs.Aims.{Aim, for_lines, for_rule}
use Rattle.sigaudit.specs.HourFile.{hour_said}
use Rattle.sigaudit.specs.Offsets.{advance_of}
use Rattle.sigaudit.specs.Script.{hour_bytes, wanted_for, IsTurn}
use Rattle.sigaudit.specs.Transcript.{limited}
use Rattle.sigaudit.specs.Turns.{Turn}

-- 1 for an hour from `from` up to `to`, 0 for any other
abbrev pub within : ℕ → ℕ → ℕ → ℕ
within from to h = if nat_lt h from then 0 else (if nat_lt h to then 1 else 0)

-- how often an hour moves, and how often it lies between the first hour that an edit touches and the row at which it contradicts the log, both with it: by an edit that makes this of the store, and is accepted where some history agrees with the new store, and refused where none does
abbrev pub MadeTally : Settings → Store → Change → Result Store EditError → ℕ → ℕ → ℕ → Type 0
MadeTally c s ch (Err e) h m k = (m ≡ 0) × (k ≡ 0)
MadeTally c s ch (Ok new) h m k =
    (HasHistory (log_of c.specs new) × (moved : Applied) × Moves c s new ch moved × (m ≡ within moved.from moved.to h) × (k ≡ 0))
    ⊎ ((row : Row) × (first : ℕ) × (last : ℕ) × IsContradiction (log_of c.specs new) row × (HasHistory (log_of c.specs new) → ⊥) × Touches ch first last
    × (m ≡ 0) × (k ≡ within first (row.at / 36000 + 1) h))

-- how often an hour moves, and how often it lies on the way to a contradiction, by an edit
abbrev pub EditTally : Settings → Store → Change → ℕ → ℕ → ℕ → Type 0
EditTally c s ch h m k = MadeTally c s ch (step_of s ch) h m k

-- how often an hour moves and lies so by a load or a replacement of what a file says
abbrev pub ReadTally : Settings → (Shown → Change) → Store → Result Shown Unread → ℕ → ℕ → ℕ → Type 0
ReadTally c make s (Ok shown) h m k = EditTally c s (make shown) h m k
ReadTally c make s (Err e) h m k = (m ≡ 0) × (k ≡ 0)

-- how often an hour moves and lies so by a load or a replacement of an hour by these bytes
abbrev pub FetchTally : Settings → ℕ → (Shown → Change) → Store → Result (List ℕ) Refusal → ℕ → ℕ → ℕ → Type 0
FetchTally c hour make s (Ok bytes) h m k = ReadTally c make s (hour_said (wanted_for c hour) bytes) h m k
FetchTally c hour make s (Err refusal) h m k = (m ≡ 0) × (k ≡ 0)

-- the line can be counted: it is an edit, asks for measures, is bad or is skipped; one that asks for the diagrams of a phase is bad where the phase isn't configured, and one that asks for the shifts of an approach where no approach of this name has an advance detector
abbrev pub IsPlain : Settings → Said → Type 0
IsPlain c line.audit = ⊥
IsPlain c (line.verdicts hour) = ⊥
IsPlain c (line.points p) = has_phase c.phases p ≡ false
IsPlain c (line.offsets name) = advance_of c name ≡ None
IsPlain c _ = ⊤

-- how often an hour moves and lies so by one line of a script
unfoldable pub LineTally : Files → Settings → Said → Store → ℕ → ℕ → ℕ → Type 0
LineTally files c (line.load hour name) s h m k = FetchTally c hour change.load s (hour_bytes files c hour name) h m k
LineTally files c (line.replace hour name) s h m k = FetchTally c hour change.replace s (hour_bytes files c hour name) h m k
LineTally files c (line.withdraw hour) s h m k = EditTally c s (change.withdraw hour) h m k
LineTally files c (line.blank from to) s h m k = EditTally c s (change.blank from to) h m k
LineTally files c (line.unblank from to) s h m k = EditTally c s (change.unblank from to) h m k
LineTally files c _ s h m k = (m ≡ 0) × (k ≡ 0)

-- how often an hour moves and lies so by lines in their order, numbered from n, which make the last store of the first one
unfoldable pub AreTallied : Files → Settings → ℕ → List (List ℕ) → Store → Store → ℕ → ℕ → ℕ → Type 0
AreTallied files c n [] s last h m k = (last ≡ s) × (m ≡ 0) × (k ≡ 0)
AreTallied files c n (l ∷ ls) s last h m k =
    (t : Turn) × IsTurn files c n (said c.window l) s t
    × ((m1 : ℕ) × (k1 : ℕ) × (m2 : ℕ) × (k2 : ℕ) × LineTally files c (said c.window l) s h m1 k1 × AreTallied files c (n + 1) ls t.store last h m2 k2 × (m ≡ m1 + m2) × (k ≡ k1 + k2))

-- each hour that has a count was opened at least as often as it moves by accepted edits, and at most three times as often as it moves or lies on the way to a contradiction
abbrev pub AreCounted : (ℕ → ℕ → ℕ → Type 0) → List ℕ → List ℕ → Type 0
AreCounted Tally old new =
    (length new ≡ length old) × ((h : ℕ) → h < length old → (m : ℕ) × (k : ℕ) × Tally h m k × IsOpened m (3 * (m + k)) (slice_index old h) (slice_index new h))

-- where the words ask for a script over a configuration, both files are there and within their limits, the configuration is accepted, and each line of the script can be counted: each hour is opened as often as `AreCounted` says; of demonstrations, of fillings and of scripts with audits nothing is said
abbrev pub OpensAnswer : Files → List ℕ → List ℕ → Option Asked → Type 0
OpensAnswer files old new asked =
    (config script bytes text : List ℕ) (c : Settings) → asked ≡ Some (for_run config script) → limited (2 ^ 20) (files config) ≡ Some bytes → config_of bytes ≡ Ok c
    → limited (4 * 2 ^ 20) (files script) ≡ Some text → All (λ l. IsPlain c (said c.window l)) (lines_of text)
    → AreCounted (λ h m k. (last : Store) × AreTallied files c 1 (lines_of text) (nothing_held c.window.hours) last h m k) old new

-- P holds where the run ended with all lines of its script taken
abbrev pub WhereTaken : Status → Type 0 → Type 0
WhereTaken Done P = P
WhereTaken SomeRefused P = P
WhereTaken _ P = ⊤

-- ---- For contracts alone

-- `AreCounted` where the numbers of some hours may wait, before and after: each hour is counted with the opening that its numbers still cost, but for one where they waited before
abbrev pub AreCountedFor : List Bool → List Bool → (ℕ → ℕ → ℕ → Type 0) → List ℕ → List ℕ → Type 0
AreCountedFor waiting marked Tally old new =
    (length new ≡ length old)
    × ((h : ℕ) → h < length old → (m : ℕ) × (k : ℕ) × Tally h m k × IsOpenedFor m (3 * (m + k)) (still waiting h) (still marked h) (slice_index old h) (slice_index new h))

-- each of the lines can be counted
abbrev pub ArePlain : Settings → List (List ℕ) → Type 0
ArePlain c lines = All (λ l. IsPlain c (said c.window l)) lines

-- by the line of a load or a replacement, where these are the bytes of its file
abbrev pub BytesTally : Settings → LoadLine → Store → List ℕ → ℕ → ℕ → ℕ → Type 0
BytesTally c load s bytes h m k = ReadTally c (hour_change load.replaces) s (hour_said (wanted_for c load.hour) bytes) h m k

-- by the line of a load or a replacement, where this is at its name
abbrev pub LoadTally : Settings → LoadLine → Store → Result (List ℕ) Refusal → ℕ → ℕ → ℕ → Type 0
LoadTally c load s want h m k = FetchTally c load.hour (hour_change load.replaces) s want h m k

-- how often an hour moves and lies so by the lines of a script over a store
abbrev pub ScriptTally : Files → Settings → List (List ℕ) → Store → ℕ → ℕ → ℕ → Type 0
ScriptTally files c lines s h m k = (last : Store) × AreTallied files c 1 lines s last h m k

-- where each line of a script can be counted, and it is carried out for their texts, each hour is opened as often as said; nothing is said where there is no script
abbrev pub OpensText : Files → Settings → Aim → List ℕ → List ℕ → Option (List ℕ) → Type 0
OpensText files c for_lines old new None = ⊤
OpensText files c for_lines old new (Some script) = ArePlain c (lines_of script) → AreCounted (ScriptTally files c (lines_of script) (nothing_held c.window.hours)) old new
OpensText files c (for_rule rule at) old new script = ⊤

-- under a configuration that is read, each hour is opened as often as said by the lines of the script's file; nothing is said where it is refused
abbrev pub OpensConfig : Files → Aim → List ℕ → List ℕ → List ℕ → Read Settings → Type 0
OpensConfig files aim script old new (Err e) = ⊤
OpensConfig files aim script old new (Ok c) = OpensText files c aim old new (limited (4 * 2 ^ 20) (files script))

-- by the bytes of a configuration's file, each hour is opened as often as said; nothing is said where there is no such file
abbrev pub OpensFile : Files → Aim → List ℕ → List ℕ → List ℕ → Option (List ℕ) → Type 0
OpensFile files aim script old new None = ⊤
OpensFile files aim script old new (Some bytes) = OpensConfig files aim script old new (config_of bytes)

-- by what the words ask for, each hour is opened as often as said; nothing is said of words that ask for something else than a script over a configuration
abbrev pub OpensAsked : Files → List ℕ → List ℕ → Option Asked → Type 0
OpensAsked files old new (Some (for_run config script)) = OpensFile files for_lines script old new (limited (2 ^ 20) (files config))
OpensAsked files old new _ = ⊤
