-- What a run writes and how it ends, of the words and the files alone.
use Rattle.std.specs.Prelude.{◌≡◌, ◌++◌, ◌*◌, ◌^◌, nat_le, if◌then◌else◌, ℕ, ℤ, List, [], length, take, Option, Some, None, Result, Ok, Err, Bool, true, false}
use Rattle.outside.specs.Shelf.{Files}
use Rattle.sig_base.specs.HourRows.{Shown}
use Rattle.sig_base.specs.Window.{Span}
use Rattle.row_reader.specs.declared.row_error.RowError.{RowError}
use Rattle.row_reader.specs.Rows.{Wanted, rows_of}
use Rattle.row_reader.specs.Stamp.{stamp_in}
use Rattle.report_text.specs.declared.refusal.Refusal.TheVariants.{File}
use Rattle.report_text.specs.ConfigRefusal.{config_text}
use Rattle.report_text.specs.Counts.{count_text}
use Rattle.report_text.specs.Refusals.{refusal_text}
use Rattle.report_text.specs.Usage.{usage_text}
use Rattle.hour_pack.specs.Grammar.{packed}
use Rattle.ring_config.specs.Reading.{Read}
use Rattle.ring_config.specs.Settings.{Settings, config_of}
use Rattle.hour_store.specs.Store.{nothing_held}
use Rattle.command_line.specs.Words.{Asked, for_run, for_pairs, for_count, for_pack, for_demo}
use Rattle.demonstration.specs.Files.{config_name, demo_files, script_name}
use Rattle.script_lines.specs.Lines.{lines_of}
use Rattle.sigaudit.specs.Aims.{Aim, for_lines, for_rule}
use Rattle.sigaudit.specs.Asked.{asked_of}
use Rattle.sigaudit.specs.declared.file.Task.{Task}
use Rattle.sigaudit.specs.declared.file.Task.TheVariants.{Count, Pack}
use Rattle.sigaudit.specs.declared.hour_file.Unread.{Unread}
use Rattle.sigaudit.specs.HourFile.{hour_said, unread_text}
use Rattle.sigaudit.specs.Pairs.{AreFound, place_of}
use Rattle.sigaudit.specs.Script.{IsTold}
use Rattle.sigaudit.specs.Turns.{Turn}
use Rattle.sigaudit.specs.declared.status.Ended.{Ended}
use Rattle.sigaudit.specs.declared.status.Ended.TheVariants as ended

-- the bytes that are written, and how the run ends
pub record Outcome : Type 0 where
  pub bytes : List ℕ
  pub ended : Ended

-- an outcome by its two parts
abbrev pub outcome : List ℕ → Ended → Outcome
outcome bytes ended = record { bytes = bytes; ended = ended }

-- the rows that are wanted of one file: those of this signal and this hour of a day
abbrev pub wanted_by : List ℕ → ℤ → ℕ → Wanted
wanted_by signal day hour = record { signal = signal; hour = 0; window = record { day = day; hour = hour; hours = 1 } }

-- the outcome of a count: the file's rows by their codes, or its first refusal
abbrev pub count_outcome : Wanted → Result Shown RowError → Outcome
count_outcome w (Ok shown) = outcome (count_text shown.rows shown.repeats) ended.Done
count_outcome w (Err e) = outcome (refusal_text w.window None (File e)) ended.SomeRefused

-- the outcome of packing: the packed hour of the file's rows, or its first refusal
abbrev pub pack_outcome : Wanted → Result Shown Unread → Outcome
pack_outcome w (Ok shown) = outcome (packed w.signal w.window 0 shown.rows) ended.Done
pack_outcome w (Err e) = outcome (unread_text w.window None e) ended.SomeRefused

-- the outcome for one file's bytes, if it is there and within its limit, by what is asked of it
abbrev pub file_outcome : Task → Wanted → Option (List ℕ) → Outcome
file_outcome task w None = outcome [] ended.NoFile
file_outcome Count w (Some bytes) = count_outcome w (rows_of w bytes)
file_outcome Pack w (Some bytes) = pack_outcome w (hour_said w bytes)

-- the bytes of a file that is there and within a limit
abbrev pub limited : ℕ → Option (List ℕ) → Option (List ℕ)
limited most None = None
limited most (Some bytes) = if nat_le (length bytes) most then Some bytes else None

-- how a script's lines end a run: with one refused, or with none
abbrev pub ended_by : Bool → Ended
ended_by true = ended.SomeRefused
ended_by false = ended.Done

-- the outcome of a script over a store that holds and blanks nothing, by what it is carried out for: the texts of the lines that are taken of it, and whether one was refused; or, where lines write nothing, what a rule leaves undecided at a stamp in the store that all of its lines leave
abbrev pub IsAimOutcome : Files → Settings → Aim → Option (List ℕ) → (List ℕ → List (List ℕ)) → Outcome → Type 0
IsAimOutcome files c for_lines (Some script) lines o =
    (told : Turn) × IsTold files c 1 (lines script) (nothing_held c.window.hours) told × (o ≡ outcome told.text (ended_by told.refused))
IsAimOutcome files c (for_rule rule at) (Some script) lines o =
    (told : Turn) × IsTold files c 1 (lines_of script) (nothing_held c.window.hours) told
    × ((text : List ℕ) × AreFound c told.store (place_of c rule (stamp_in c.window at)) text × (o ≡ outcome text (ended_by told.refused)))
IsAimOutcome files c _ None lines o = o ≡ outcome [] ended.NoFile

-- the outcome under what the configuration says; a refused one ends the run, and the script has a limit of 4 MiB
abbrev pub IsConfigOutcome : Files → Aim → List ℕ → Read Settings → (List ℕ → List (List ℕ)) → Outcome → Type 0
IsConfigOutcome files aim script (Err e) lines o = o ≡ outcome (config_text e) ended.BadConfig
IsConfigOutcome files aim script (Ok c) lines o = IsAimOutcome files c aim (limited (4 * 2 ^ 20) (files script)) lines o

-- the outcome for what is at the configuration's name, within its limit
abbrev pub IsFileOutcome : Files → Aim → List ℕ → Option (List ℕ) → (List ℕ → List (List ℕ)) → Outcome → Type 0
IsFileOutcome files aim script None lines o = o ≡ outcome [] ended.NoFile
IsFileOutcome files aim script (Some bytes) lines o = IsConfigOutcome files aim script (config_of bytes) lines o

-- the outcome of what the words ask for, where these lines are taken of a script: a configuration has a limit of 1 MiB and one file of 32 MiB, and a demonstration is its script over its configuration, both among its own files
unfoldable pub IsAnswer : Option Asked → Files → (List ℕ → List (List ℕ)) → Outcome → Type 0
IsAnswer None files lines o = o ≡ outcome usage_text ended.Usage
IsAnswer (Some (for_run config script)) files lines o = IsFileOutcome files for_lines script (limited (2 ^ 20) (files config)) lines o
IsAnswer (Some (for_pairs config script rule at)) files lines o = IsFileOutcome files (for_rule rule at) script (limited (2 ^ 20) (files config)) lines o
IsAnswer (Some (for_count file signal day hour)) files lines o = o ≡ file_outcome Count (wanted_by signal day hour) (limited (32 * 2 ^ 20) (files file))
IsAnswer (Some (for_pack file signal day hour)) files lines o = o ≡ file_outcome Pack (wanted_by signal day hour) (limited (32 * 2 ^ 20) (files file))
IsAnswer (Some (for_demo hours)) files lines o = IsFileOutcome (demo_files hours) for_lines script_name (limited (2 ^ 20) (demo_files hours config_name)) lines o

-- these bytes and this end are the transcript of the words and the files
abbrev pub IsTranscript : List (List ℕ) → Files → List ℕ → Ended → Type 0
IsTranscript words files bytes ended = IsAnswer (asked_of words) files lines_of (outcome bytes ended)

-- these bytes are what the transcript begins with: they are the transcript where a script ends after its first k lines
abbrev pub IsBeginning : ℕ → List (List ℕ) → Files → List ℕ → Type 0
IsBeginning k words files bytes = (ended : Ended) × IsAnswer (asked_of words) files (λ script. take k (lines_of script)) (outcome bytes ended)

-- the words ask for what a rule leaves undecided, of which the pairs that are printed aren't fixed
abbrev pub asks_pairs : Option Asked → Bool
asks_pairs (Some (for_pairs config script rule at)) = true
asks_pairs _ = false

-- ---- For contracts alone

-- the first k lines of a script
abbrev pub first_lines : ℕ → List ℕ → List (List ℕ)
first_lines k script = take k (lines_of script)

-- the window of the hour whose rows are wanted
abbrev pub window_of : Wanted → Span
window_of w = w.window

-- the outcome for the bytes of a file, by what is asked of it
abbrev pub outcome_of : Task → Wanted → List ℕ → Outcome
outcome_of task w bytes = file_outcome task w (Some bytes)

-- the outcome of a script's lines: their texts, and whether one was refused
abbrev pub told_outcome : Turn → Outcome
told_outcome told = outcome told.text (ended_by told.refused)

-- the outcome of a script, of which these lines are taken over a store that holds and blanks nothing
abbrev pub IsScriptOutcome : Files → Settings → Option (List ℕ) → (List ℕ → List (List ℕ)) → Outcome → Type 0
IsScriptOutcome files c script lines o = IsAimOutcome files c for_lines script lines o

-- the outcome of a demonstration of so many hours: that of its script over its configuration, both among its own files
abbrev pub IsDemoOutcome : ℕ → (List ℕ → List (List ℕ)) → Outcome → Type 0
IsDemoOutcome hours lines o =
    IsFileOutcome (demo_files hours) for_lines script_name (limited (2 ^ 20) (demo_files hours config_name)) lines o

-- the words, unless they ask for pairs, and the files have one transcript
abbrev pub HaveOneTranscript : Type 0
HaveOneTranscript =
    (words : List (List ℕ)) (files : Files) (bytes bytes' : List ℕ) (ended ended' : Ended) → asks_pairs (asked_of words) ≡ false
    → IsTranscript words files bytes ended → IsTranscript words files bytes' ended' → (bytes ≡ bytes') × (ended ≡ ended')

-- and it begins with what is written for a script's first lines
abbrev pub BeginsWithFirstLines : Type 0
BeginsWithFirstLines =
    (words : List (List ℕ)) (files : Files) (bytes front : List ℕ) (ended : Ended) (k : ℕ) → asks_pairs (asked_of words) ≡ false
    → IsTranscript words files bytes ended → IsBeginning k words files front → (rest : List ℕ) × (bytes ≡ front ++ rest)
