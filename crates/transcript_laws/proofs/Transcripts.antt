-- It can't be that there is no transcript.
use Rattle.std.proofs.Common.{◌≡◌, inl, inr, ℕ, zero, suc, ◌+◌, ◌<◌, ◌≤◌, Bool, true, false, if◌then◌else◌, nat_lt, nat_eq, List, [], ◌∷◌, ◌++◌, length, get_or, Option, Some, None, Result, Ok, Err, refl, subst, arith}
use Rattle.std.specs.List.{starts_with}
use Rattle.std.proofs.lemmas.Bool.Decides.{nat_tests}
use Rattle.outside.specs.Shelf.{Files}
use Rattle.sig_base.specs.HourRows.{AreRowsOf, Shown}
use Rattle.sig_base.specs.declared.values.EditError.{EditError}
use Rattle.sig_base.specs.declared.values.EditError.TheVariants.{Contradiction, OutOfWindow}
use Rattle.sig_base.specs.declared.values.Row.{Row}
use Rattle.sig_base.specs.Numbers.{has_phase}
use Rattle.row_reader.specs.declared.row_error.RowError.{RowError}
use Rattle.row_reader.specs.Rows.{Wanted, rows_of}
use Rattle.hour_pack.specs.declared.pack_error.PackError.{PackError}
use Rattle.hour_pack.specs.Grammar.{mark}
use Rattle.hour_pack.specs.Reading.{reading}
use Rattle.hour_store.specs.Store.{Store, nothing_held}
use Rattle.ring_config.specs.Reading.{Read}
use Rattle.ring_config.specs.Settings.{Settings, config_of}
use Rattle.ring_config.specs.Sound.{IsSound}
use Rattle.rule_audit.specs.declared.lines.AuditLine.{AuditLine}
use Rattle.rule_audit.specs.Rules.{rules_for}
use Rattle.hour_work.specs.Numbers.{Numbers, total_of}
use Rattle.hour_work.specs.Reports.{IsReport}
use Rattle.measure_laws.specs.Plain.{IsHourOf, IsWindowOf}
use Rattle.measure_laws.proofs.Plain.{sums_plain}
use Rattle.session.specs.Edits.{Change, hour_change, step_of}
use Rattle.session.specs.Edits as change
use Rattle.report_text.specs.declared.refusal.Refusal.{Refusal}
use Rattle.report_text.specs.declared.refusal.Refusal.TheVariants.{BadLine, Edit}
use Rattle.report_text.specs.Audit.{audit_start, lines_text}
use Rattle.report_text.specs.Heads.{verdicts_head}
use Rattle.report_text.specs.Measures.{hour_measures, window_measures}
use Rattle.report_text.specs.ConfigRefusal.{config_text}
use Rattle.report_text.specs.Usage.{usage_text}
use Rattle.command_line.specs.Words.{Asked, for_count, for_demo, for_pack, for_pairs, for_run}
use Rattle.demonstration.specs.Files.{config_name, demo_files, script_name}
use Rattle.script_lines.specs.Lines.{lines_of}
use Rattle.script_lines.specs.Words.{Said, said}
use Rattle.script_lines.specs.Words as line
use Rattle.sigaudit.specs.Aims.{for_lines}
use Rattle.sigaudit.specs.Asked.{asked_of}
use Rattle.sigaudit.specs.Audit.{AreFailing, AreVerdicts, IsAudited, failing_of}
use Rattle.sigaudit.specs.declared.file.Task.TheVariants.{Count, Pack}
use Rattle.sigaudit.specs.declared.hour_file.Unread.{Unread}
use Rattle.sigaudit.specs.declared.status.Ended.TheVariants as ended
use Rattle.sigaudit.specs.HourFile.{hour_said, of_packed, of_records}
use Rattle.sigaudit.specs.Offsets.{advance_of, offsets_turn}
use Rattle.sigaudit.specs.Points.{points_turn}
use Rattle.sigaudit.specs.Script.{IsEdited, IsFetched, IsMade, IsMeasured, IsMeasuredOf, IsRead, IsTold, IsTurn, Told, accepts, followed, hour_bytes, hour_file, nothing_told, wanted_for}
use Rattle.sigaudit.specs.Transcript.{BeginsWithFirstLines, IsAnswer, IsConfigOutcome, IsFileOutcome, IsScriptOutcome, Outcome, asks_pairs, file_outcome, limited, outcome, told_outcome, wanted_by}
use Rattle.sigaudit.specs.Turns.{Turn, passes, refuses, refuses_file, writes}
use Rattle.transcript_laws.specs.Exists.{PrefixesAreOfTranscripts, NotNone, TranscriptsExist}
use Rattle.transcript_laws.proofs.Chance.{some, then as after, with}
use Rattle.transcript_laws.proofs.AuditExists.{audit_exists, hour_lines_exist}
use Rattle.transcript_laws.proofs.ConfigRead.{IsReadable, config_readable}
use Rattle.transcript_laws.proofs.EditsExist.{BringsRows, IsGoing, brings_load, brings_replace, edit_goes, nothing_going}
use Rattle.transcript_laws.proofs.FileRows.{IsShownOf, log_rows_are, packed_rows_are}
use Rattle.transcript_laws.proofs.MeasuresExist.{report_exists}

-- ---- a line has a turn

-- it can't be that there is no turn of a kind after which the store is one of the window, with which some history agrees
abbrev ATurn : Settings → (Turn → Type 0) → Type 0
ATurn c Is = NotNone ((t : Turn) × Is t × IsGoing c t.store)

-- a turn that is said outright
turn_is : (c : Settings) (x : Turn) → IsGoing c x.store → ATurn c (λ t. t ≡ x)
turn_is c x going = some (x, refl, going)

made_exists : (c : Settings) (n : ℕ) (loaded : Option (ℕ × ℕ)) (s : Store) (ch : Change) (to : Result Store EditError) → IsSound c → IsGoing c s → BringsRows ch → step_of s ch ≡ to → ATurn c (IsMade c n loaded s ch to)
made_exists c n loaded s ch (Err e) sound going rows h = turn_is c (refuses c n (Edit e) s) going
made_exists c n loaded s ch (Ok new) sound going rows h =
    with (edit_goes c s new ch sound going h rows) (λ d. elim d [
      | inl (next, (moved, moves)) ↦ (accepts n loaded moved new, inl (next.history, moved, moves, refl), next)
      | inr (row, stop, none) ↦ (refuses c n (Edit (Contradiction row)) s, inr (row, stop, none, refl), going)
    ])

edited_exists : (c : Settings) (n : ℕ) (loaded : Option (ℕ × ℕ)) (s : Store) (ch : Change) → IsSound c → IsGoing c s → BringsRows ch → ATurn c (IsEdited c n loaded s ch)
edited_exists c n loaded s ch sound going rows = made_exists c n loaded s ch (step_of s ch) sound going rows refl

-- what the bytes of an hour's file give are rows of the hour
packed_said : (hour : ℕ) (r : Result (List Row) PackError) (shown : Shown) → ((rows : List Row) → r ≡ Ok rows → AreRowsOf hour rows) → of_packed hour r ≡ Ok shown → IsShownOf hour shown
packed_said hour (Ok rows) shown are e =
    let same : record { hour = hour; rows = rows; repeats = 0 } ≡ shown = cc in
    subst (λ (x : Shown). IsShownOf hour x) same (refl, are rows refl)
packed_said hour (Err e) shown are h = absurd (cc)

records_said : (hour : ℕ) (r : Result Shown RowError) (shown : Shown) → ((x : Shown) → r ≡ Ok x → IsShownOf hour x) → of_records r ≡ Ok shown → IsShownOf hour shown
records_said hour (Ok x) shown are e = let same : x ≡ shown = cc in subst (λ (y : Shown). IsShownOf hour y) same (are x refl)
records_said hour (Err e) shown are h = absurd (cc)

kind_said : (w : Wanted) (bytes : List ℕ) (b : Bool) (shown : Shown) → w.hour < 744 → (if b then of_packed w.hour (reading w.signal w.window w.hour bytes) else of_records (rows_of w bytes)) ≡ Ok shown → IsShownOf w.hour shown
kind_said w bytes true shown lt e = packed_said w.hour (reading w.signal w.window w.hour bytes) shown (λ rows h. packed_rows_are w.signal w.window w.hour bytes rows lt h) e
kind_said w bytes false shown lt e = records_said w.hour (rows_of w bytes) shown (λ x h. log_rows_are w bytes x lt h) e

-- what any file of an hour gives are rows of the hour
pub said_rows : (w : Wanted) (bytes : List ℕ) (shown : Shown) → w.hour < 744 → hour_said w bytes ≡ Ok shown → IsShownOf w.hour shown
unfolding hour_said
said_rows w bytes shown lt e = kind_said w bytes (starts_with nat_eq bytes mark) shown lt e

brings : (replaces : Bool) (hour : ℕ) (shown : Shown) → IsShownOf hour shown → BringsRows (hour_change replaces shown)
brings true hour shown are = brings_replace hour shown are
brings false hour shown are = brings_load hour shown are

read_exists : (c : Settings) (n hour : ℕ) (replaces : Bool) (s : Store) (says : Result Shown Unread) → IsSound c → IsGoing c s → ((shown : Shown) → says ≡ Ok shown → IsShownOf hour shown) → ATurn c (IsRead c n (hour_change replaces) s says)
read_exists c n hour replaces s (Ok shown) sound going rows = edited_exists c n (Some (length shown.rows, shown.repeats)) s (hour_change replaces shown) sound going (brings replaces hour shown (rows shown refl))
read_exists c n hour replaces s (Err e) sound going rows = turn_is c (refuses_file c n e s) going

fetched_exists : (c : Settings) (n hour : ℕ) (replaces : Bool) (s : Store) (want : Result (List ℕ) Refusal) → IsSound c → IsGoing c s → hour < 744 → ATurn c (IsFetched c n hour (hour_change replaces) s want)
fetched_exists c n hour replaces s (Ok bytes) sound going lt = read_exists c n hour replaces s (hour_said (wanted_for c hour) bytes) sound going (λ shown e. said_rows (wanted_for c hour) bytes shown lt e)
fetched_exists c n hour replaces s (Err refusal) sound going lt = turn_is c (refuses c n refusal s) going

-- an hour of the window is one of the store
in_window : (c : Settings) (s : Store) (hour : ℕ) → IsGoing c s → nat_lt hour c.window.hours ≡ true → hour < length s.hours
in_window c s hour going e = let hours = going.hours in grind (arith, nat_tests)

few_hours : (c : Settings) (s : Store) (hour : ℕ) → IsGoing c s → nat_lt hour c.window.hours ≡ true → hour < 744
few_hours c s hour going e = let lt = in_window c s hour going e in let few = going.is_store.few in omega arith

file_exists : (c : Settings) (n hour : ℕ) (replaces : Bool) (s : Store) (o : Option (List ℕ)) (b : Bool) → IsSound c → IsGoing c s → nat_lt hour c.window.hours ≡ b → ATurn c (IsFetched c n hour (hour_change replaces) s (if b then hour_file o else Err (Edit OutOfWindow)))
file_exists c n hour replaces s o true sound going e = fetched_exists c n hour replaces s (hour_file o) sound going (few_hours c s hour going e)
file_exists c n hour replaces s o false sound going e = turn_is c (refuses c n (Edit OutOfWindow) s) going

-- a line that brings an hour's file has a turn
load_exists : (files : Files) (c : Settings) (n hour : ℕ) (replaces : Bool) (name : List ℕ) (s : Store) → IsSound c → IsGoing c s → ATurn c (IsFetched c n hour (hour_change replaces) s (hour_bytes files c hour name))
load_exists files c n hour replaces name s sound going = file_exists c n hour replaces s (files name) (nat_lt hour c.window.hours) sound going refl

-- it can't be that such a store has no report
report_of_exists : (c : Settings) (s : Store) → IsSound c → IsGoing c s → NotNone ((all : List Numbers) × IsReport c s all)
report_of_exists c s sound going = report_exists c s sound going.is_store going.hours going.history (λ hour lt. audit_exists c s hour sound going.is_store going.history lt)

-- nor that its window has no numbers, or an hour of it
window_exists : (c : Settings) (s : Store) → IsSound c → IsGoing c s → NotNone ((total : Numbers) × IsWindowOf c s total)
window_exists c s sound going =
    with (report_of_exists c s sound going) (λ (all, report). (total_of all, (sums_plain c s all going.is_store going.hours report).1))

hour_exists : (c : Settings) (s : Store) (hour : ℕ) → IsSound c → IsGoing c s → hour < length s.hours → NotNone ((numbers : Numbers) × IsHourOf c s hour numbers)
hour_exists c s hour sound going lt =
    with (report_of_exists c s sound going) (λ (all, report). (get_or all hour (total_of all), (sums_plain c s all going.is_store going.hours report).0 hour (total_of all) lt))

failing_exist : (c : Settings) (s : Store) (hour n : ℕ) → IsSound c → IsGoing c s → hour + n ≤ length s.hours → NotNone ((failing : List AuditLine) × AreFailing c s hour n failing)
unfolding AreFailing
failing_exist c s hour zero sound going le = some ([], refl)
failing_exist c s hour (suc n) sound going le =
    after (hour_lines_exist c s hour true sound going.is_store going.history (omega arith)) (λ (lines, are).
    with (failing_exist c s (hour + 1) n sound going (omega arith)) (λ (rest, more). (failing_of lines ++ rest, (lines, rest, are, more, refl))))

audited_exists : (c : Settings) (n : ℕ) (s : Store) → IsSound c → IsGoing c s → ATurn c (IsAudited c n s)
audited_exists c n s sound going =
    let hours = going.hours in
    after (window_exists c s sound going) (λ (total, is).
    with (failing_exist c s 0 c.window.hours sound going (omega arith)) (λ (lines, are).
    (writes (audit_start n c.specs (rules_for c) total.rules ++ lines_text c.window lines) s, (total, lines, going.history, is, are, refl), going)))

verdicts_exist : (c : Settings) (n hour : ℕ) (s : Store) (b : Bool) → IsSound c → IsGoing c s → nat_lt hour c.window.hours ≡ b → ATurn c (AreVerdicts c n hour s b)
verdicts_exist c n hour s true sound going e =
    with (hour_lines_exist c s hour true sound going.is_store going.history (in_window c s hour going e)) (λ (lines, are).
    (writes (verdicts_head n hour ++ lines_text c.window lines) s, (lines, going.history, are, refl), going))
verdicts_exist c n hour s false sound going e = turn_is c (refuses c n (Edit OutOfWindow) s) going

measured_exists : (c : Settings) (n : ℕ) (s : Store) → IsSound c → IsGoing c s → ATurn c (IsMeasured c n s)
measured_exists c n s sound going = with (window_exists c s sound going) (λ (total, is). (writes (window_measures n c total) s, (total, going.history, is, refl), going))

measured_of_exists : (c : Settings) (n hour : ℕ) (s : Store) (b : Bool) → IsSound c → IsGoing c s → nat_lt hour c.window.hours ≡ b → ATurn c (IsMeasuredOf c n hour s b)
measured_of_exists c n hour s true sound going e =
    with (hour_exists c s hour sound going (in_window c s hour going e)) (λ (numbers, is). (writes (hour_measures n hour c numbers) s, (numbers, going.history, is, refl), going))
measured_of_exists c n hour s false sound going e = turn_is c (refuses c n (Edit OutOfWindow) s) going

points_going : (c : Settings) (n p : ℕ) (s : Store) (b : Bool) → IsGoing c s → IsGoing c (points_turn c n p s b).store
points_going c n p s true going = going
points_going c n p s false going = going

offsets_going : (c : Settings) (n : ℕ) (name : List ℕ) (s : Store) (o : Option (ℕ × ℕ)) → IsGoing c s → IsGoing c (offsets_turn c n name s o).store
offsets_going c n name s None going = going
offsets_going c n name s (Some at) going = going

-- it can't be that a line has no turn after which the store is such a store again
pub turn_exists : (files : Files) (c : Settings) (n : ℕ) (x : Said) (s : Store) → IsSound c → IsGoing c s → NotNone ((t : Turn) × IsTurn files c n x s t × IsGoing c t.store)
unfolding IsTurn
turn_exists files c n line.skip s sound going = turn_is c (passes s) going
turn_exists files c n line.bad s sound going = turn_is c (refuses c n BadLine s) going
turn_exists files c n (line.load hour name) s sound going = load_exists files c n hour false name s sound going
turn_exists files c n (line.replace hour name) s sound going = load_exists files c n hour true name s sound going
turn_exists files c n (line.withdraw hour) s sound going = edited_exists c n None s (change.withdraw hour) sound going tt
turn_exists files c n (line.blank from to) s sound going = edited_exists c n None s (change.blank from to) sound going tt
turn_exists files c n (line.unblank from to) s sound going = edited_exists c n None s (change.unblank from to) sound going tt
turn_exists files c n line.audit s sound going = audited_exists c n s sound going
turn_exists files c n (line.verdicts hour) s sound going = verdicts_exist c n hour s (nat_lt hour c.window.hours) sound going refl
turn_exists files c n line.measures s sound going = measured_exists c n s sound going
turn_exists files c n (line.measures_of hour) s sound going = measured_of_exists c n hour s (nat_lt hour c.window.hours) sound going refl
turn_exists files c n (line.points p) s sound going = turn_is c (points_turn c n p s (has_phase c.phases p)) (points_going c n p s (has_phase c.phases p) going)
turn_exists files c n (line.offsets name) s sound going = turn_is c (offsets_turn c n name s (advance_of c name)) (offsets_going c n name s (advance_of c name) going)

-- ---- lines tell a text

-- it can't be that lines tell no text
pub told_exists : (files : Files) (c : Settings) (n : ℕ) (ls : List (List ℕ)) (s : Store) → IsSound c → IsGoing c s → NotNone ((told : Told) × IsTold files c n ls s told)
unfolding IsTold
told_exists files c n [] s sound going = some (nothing_told s, refl)
told_exists files c n (l ∷ ls) s sound going =
    after (turn_exists files c n (said c.window l) s sound going) (λ (t, turn, next).
    with (told_exists files c (n + 1) ls t.store sound next) (λ (rest, more). (followed t rest, (t, rest, turn, more, refl))))

-- ---- a transcript

script_exists : (files : Files) (c : Settings) (script : Option (List ℕ)) (lines : List ℕ → List (List ℕ)) → IsReadable c → NotNone ((o : Outcome) × IsScriptOutcome files c script lines o)
script_exists files c None lines is = some (outcome [] ended.NoFile, refl)
script_exists files c (Some script) lines is = with (told_exists files c 1 (lines script) (nothing_held c.window.hours) is.sound (nothing_going c is)) (λ (told, are). (told_outcome told, (told, are, refl)))

config_exists : (files : Files) (script : List ℕ) (says : Read Settings) (lines : List ℕ → List (List ℕ)) → ((c : Settings) → says ≡ Ok c → IsReadable c) → NotNone ((o : Outcome) × IsConfigOutcome files for_lines script says lines o)
config_exists files script (Err e) lines are = some (outcome (config_text e) ended.BadConfig, refl)
config_exists files script (Ok c) lines are = script_exists files c (limited 4194304 (files script)) lines (are c refl)

config_file_exists : (files : Files) (script : List ℕ) (bytes : Option (List ℕ)) (lines : List ℕ → List (List ℕ)) → NotNone ((o : Outcome) × IsFileOutcome files for_lines script bytes lines o)
config_file_exists files script None lines = some (outcome [] ended.NoFile, refl)
config_file_exists files script (Some bytes) lines = config_exists files script (config_of bytes) lines (λ c e. config_readable bytes c e)

-- it can't be that what the words ask for has no answer, unless they ask for pairs
pub answer_exists : (asked : Option Asked) (files : Files) (lines : List ℕ → List (List ℕ)) → asks_pairs asked ≡ false → NotNone ((o : Outcome) × IsAnswer asked files lines o)
unfolding IsAnswer
answer_exists None files lines e = some (outcome usage_text ended.Usage, refl)
answer_exists (Some (for_run config script)) files lines e = config_file_exists files script (limited 1048576 (files config)) lines
answer_exists (Some (for_pairs config script rule at)) files lines e = absurd (cc)
answer_exists (Some (for_count file signal day hour)) files lines e = some (file_outcome Count (wanted_by signal day hour) (limited 33554432 (files file)), refl)
answer_exists (Some (for_pack file signal day hour)) files lines e = some (file_outcome Pack (wanted_by signal day hour) (limited 33554432 (files file)), refl)
answer_exists (Some (for_demo hours)) files lines e = config_file_exists (demo_files hours) script_name (limited 1048576 (demo_files hours config_name)) lines

-- it can't be that there is no transcript
pub transcripts_exist : TranscriptsExist
transcripts_exist words files e = with (answer_exists (asked_of words) files lines_of e) (λ (o, is). (o.bytes, o.ended, is))

-- nor that none begins with what is written for a script's first lines
pub fronts_are : BeginsWithFirstLines → PrefixesAreOfTranscripts
fronts_are begins words files k front e is = with (transcripts_exist words files e) (λ (bytes, ended, whole).
    let (rest, same) = begins words files bytes front ended k e whole is in
    (bytes, ended, rest, whole, same))
