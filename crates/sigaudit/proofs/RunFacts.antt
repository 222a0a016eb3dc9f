-- How a run goes on from its parts.
use Rattle.std.proofs.Common.{◌≡◌, ◌≤◌, ◌++◌, ◌^◌, ◌*◌, ℕ, List, [], length, Option, Some, None, Result, Ok, Err, refl, sym, ap, subst, ◌∙◌, inl, inr, arith, IfSome, Bool, true, false}
use Rattle.std.specs.Prelude.{nat_le}
use Rattle.std.proofs.lemmas.Bool.Decides.{nat_tests}
use Rattle.std.specs.Io.KnownBytes.{Appends}
use Rattle.outside.specs.Sink.{Taken}
use Rattle.outside.specs.Shelf.{Counts, Files}
use Rattle.outside.proofs.PutsFacts.{appends-nothing}
use Rattle.std.proofs.Common.{Bor, map, codes, ◌∷◌, ℤ, pos, negsuc, to_z, of_z, w64}
use Rattle.jiff_core.proofs.SignedLemmas.{signed_arith, back_small}
use Rattle.sig_base.specs.Window.{IsDay}
use Rattle.script_lines.specs.Lines.{lines_of}
use Rattle.hour_store.specs.Store.{Store, nothing_held}
use Rattle.ring_config.specs.Reading.{Fails, Read}
use Rattle.ring_config.specs.Settings.{Settings, config_of}
use Rattle.ring_config.specs.declared.error.ConfigError.{ConfigError}
use Rattle.ring_config.specs.declared.error.ConfigError.TheVariants.{NotToml, Missing, BadValue, Unknown, Repeated, TooMany, Memory}
use Rattle.session.specs.Sessions.{Drafted}
use Rattle.command_line.specs.Words.{Asked, for_run, for_pairs, for_count, for_pack, for_demo, request_of}
use Rattle.demonstration.specs.Files.{config_name, demo_files, script_name}
use Rattle.sigaudit.specs.declared.file.Task.{Task}
use Rattle.sigaudit.specs.declared.file.Task.TheVariants.{Count, Pack}
use Rattle.row_reader.specs.Rows.{Wanted}
use Rattle.sigaudit.specs.Asked.{asked_of}
use Rattle.sigaudit.specs.Status.{status_of_run}
use Rattle.report_text.specs.ConfigRefusal.{config_text, is_config_memory}
use Rattle.report_text.specs.Usage.{usage_text}
use Rattle.sigaudit.specs.Aims.{Aim, for_lines, for_rule}
use Rattle.sigaudit.specs.Transcript.{Outcome, outcome, file_outcome, outcome_of, wanted_by, first_lines, told_outcome, ended_by, limited, asks_pairs, IsAimOutcome, IsAnswer, IsConfigOutcome, IsFileOutcome, IsScriptOutcome}
use Rattle.sigaudit.specs.Run.{World, world, RunsAs, CountsText, IsPairsRun, IsRun, HasCause, NeedsWords, IsCaused, TellsAll, ScriptCause, PutsOutcome, WritesBeginning, WritesPrefix, IsCutOff}
use Rattle.sigaudit.specs.Script.{nothing_told}
use Rattle.sigaudit.proofs.ScriptFacts.{told_nothing}
use Rattle.sigaudit.specs.declared.status.Status.{Status}
use Rattle.sigaudit.specs.declared.status.Status.TheVariants as outer
use Rattle.sigaudit.specs.declared.one_run.Got.TheVariants.{Nothing, Stop}
use Rattle.sigaudit.specs.declared.status.Ended.{Ended}
use Rattle.sigaudit.specs.declared.status.Ended.TheVariants as ended
use Rattle.sigaudit.specs.declared.status.Stopped.{Stopped}
use Rattle.sigaudit.specs.declared.status.Stopped.TheVariants as stopped

pub still : (w w' : Taken) → w' ≡ w → Appends w.written w'.written []
still w w' e = rw e (appends-nothing w.written)

-- a call that wrote an outcome that a script's lines don't matter to, in a run that did nothing else
pub run-of_put : (Is : (List ℕ → List (List ℕ)) → Outcome → Type 0) (o : Outcome) (k k' : Counts) (w w' : Taken) (r : Result Ended Stopped)
    → k' ≡ k → ((lines : List ℕ → List (List ℕ)) → Is lines o) → PutsOutcome o w w' r → RunsAs Is (world k w) (world k' w') (status_of_run r)
run-of_put Is o k k' w w' (Ok ended.Done) e is h = (o.bytes, subst (λ (x : Ended). Is lines_of (outcome o.bytes x)) h.0 (is lines_of), (h.1.wrote, (ap (λ (c : Counts). c.failed) e, h.1.same)))
run-of_put Is o k k' w w' (Ok ended.SomeRefused) e is h = (o.bytes, subst (λ (x : Ended). Is lines_of (outcome o.bytes x)) h.0 (is lines_of), (h.1.wrote, (ap (λ (c : Counts). c.failed) e, h.1.same)))
run-of_put Is o k k' w w' (Ok ended.Usage) e is h = (o.bytes, subst (λ (x : Ended). Is lines_of (outcome o.bytes x)) h.0 (is lines_of), (h.1.wrote, (ap (λ (c : Counts). c.failed) e, h.1.same)))
run-of_put Is o k k' w w' (Ok ended.BadConfig) e is h = (o.bytes, subst (λ (x : Ended). Is lines_of (outcome o.bytes x)) h.0 (is lines_of), (h.1.wrote, (ap (λ (c : Counts). c.failed) e, h.1.same)))
run-of_put Is o k k' w w' (Ok ended.NoFile) e is h = (o.bytes, subst (λ (x : Ended). Is lines_of (outcome o.bytes x)) h.0 (is lines_of), (h.1.wrote, (ap (λ (c : Counts). c.failed) e, h.1.same)))
run-of_put Is o k k' w w' (Err stopped.Fault) e is h = (inr h.rose, inr (0, o, is (first_lines 0), h.front))
run-of_put Is o k k' w w' (Err stopped.Memory) e is h = inl (still w w' h)

-- a file that is there and not too long
file-there : (task : Task) (a : Wanted) (file : Option (List ℕ)) (there bytes : List ℕ)
    → file ≡ Some there → length there ≤ 33554432 → bytes ≡ [] ++ there → file_outcome task a (limited 33554432 file) ≡ outcome_of task a bytes
file-there task a file there bytes e short b =
    let test : nat_le (length there) 33554432 ≡ true = grind (arith, nat_tests) in
    rw (e, test, b) refl

pub if_some-weaker : {A : Type 0} (o : Option A) (P Q : A → Type 0) → ((x : A) → P x → Q x) → IfSome o P → IfSome o Q
if_some-weaker None P Q h p = tt
if_some-weaker (Some x) P Q h p = h x p

-- the file of a run
pub run-of_file : (task : Task) (a : Wanted) (file : Option (List ℕ)) (bytes old new : List ℕ) (k k' : Counts) (w w' : Taken) (r : Result Ended Stopped)
    → k' ≡ k → PutsOutcome (outcome_of task a bytes) w w' r
    → bytes ≡ new → old ≡ [] → (there : List ℕ) × (file ≡ Some there) × (length there ≤ 33554432) × (new ≡ old ++ there)
    → RunsAs (λ lines o. o ≡ file_outcome task a (limited 33554432 file)) (world k w) (world k' w') (status_of_run r)
run-of_file task a file bytes old new k k' w w' r e put b o h =
    let q : bytes ≡ [] ++ h.0 = b ∙ (rw o at h.3) in
    run-of_put (λ lines o. o ≡ file_outcome task a (limited 33554432 file)) (outcome_of task a bytes) k k' w w' r e (λ lines. sym (file-there task a file h.0 bytes h.1 h.2 q)) put

-- ---- a script

-- the lines of a script were told
pub run-of_told : (files : Files) (c : Settings) (script : List ℕ) (last : Store) (old new : World) (refused : Bool) → TellsAll files c (lines_of script) (nothing_held c.window.hours) last old new (Ok refused)
    → RunsAs (IsScriptOutcome files c (Some script)) old new (status_of_run (Ok (ended_by refused)))
run-of_told files c script last old new true h = (h.0.text, (h.0, h.1, ap (λ (b : Bool). outcome h.0.text (ended_by b)) h.4), (h.2, h.3))
run-of_told files c script last old new false h = (h.0.text, (h.0, h.1, ap (λ (b : Bool). outcome h.0.text (ended_by b)) h.4), (h.2, h.3))

pub run-of_cut : (files : Files) (c : Settings) (script : List ℕ) (last : Store) (old new : World) (s : Stopped) → TellsAll files c (lines_of script) (nothing_held c.window.hours) last old new (Err s)
    → RunsAs (IsScriptOutcome files c (Some script)) old new (status_of_run (Err s))
run-of_cut files c script last old new stopped.Fault h = (h.0, inr (h.1.0, told_outcome h.1.1, (h.1.1, h.1.2, refl), h.1.3))
run-of_cut files c script last old new stopped.Memory h = inr (h.0, told_outcome h.1, (h.1, h.2, refl), h.3)

pub cause-of_told : (old new : World) (refused : Bool) → IsCaused {T = Bool} old new (Ok refused) → ScriptCause old new (status_of_run (Ok (ended_by refused)))
cause-of_told old new true h = h
cause-of_told old new false h = h

pub cause-of_cut : (old new : World) (s : Stopped) → IsCaused {T = Bool} old new (Err s) → ScriptCause old new (status_of_run (Err s))
cause-of_cut old new stopped.Fault h = h
cause-of_cut old new stopped.Memory h = tt

-- ---- what may have been begun before anything was written

script_begun : (files : Files) (c : Settings) (script : Option (List ℕ)) → (o : Outcome) × IsScriptOutcome files c script (first_lines 0) o
script_begun files c None = (outcome [] ended.NoFile, refl)
script_begun files c (Some script) = (told_outcome (nothing_told (nothing_held c.window.hours)), (nothing_told (nothing_held c.window.hours), told_nothing files c 1 (nothing_held c.window.hours), refl))

config_begun : (files : Files) (script : List ℕ) (said : Read Settings) → (o : Outcome) × IsConfigOutcome files for_lines script said (first_lines 0) o
config_begun files script (Err e) = (outcome (config_text e) ended.BadConfig, refl)
config_begun files script (Ok c) = script_begun files c (limited (4 * 2 ^ 20) (files script))

file_begun : (files : Files) (script : List ℕ) (bytes : Option (List ℕ)) → (o : Outcome) × IsFileOutcome files for_lines script bytes (first_lines 0) o
file_begun files script None = (outcome [] ended.NoFile, refl)
file_begun files script (Some bytes) = config_begun files script (config_of bytes)

answer_begun : (asked : Option Asked) (files : Files) → asks_pairs asked ≡ false → (o : Outcome) × IsAnswer asked files (first_lines 0) o
unfolding IsAnswer
answer_begun None files e = (outcome usage_text ended.Usage, refl)
answer_begun (Some (for_run config script)) files e = file_begun files script (limited (2 ^ 20) (files config))
answer_begun (Some (for_pairs config script rule at)) files e = absurd (cc)
answer_begun (Some (for_count file signal day hour)) files e = (file_outcome Count (wanted_by signal day hour) (limited 33554432 (files file)), refl)
answer_begun (Some (for_pack file signal day hour)) files e = (file_outcome Pack (wanted_by signal day hour) (limited 33554432 (files file)), refl)
answer_begun (Some (for_demo hours)) files e = file_begun (demo_files hours) script_name (limited (2 ^ 20) (demo_files hours config_name))

-- a run that stopped before it wrote anything
pub run-of_nothing : (Is : (List ℕ → List (List ℕ)) → Outcome → Type 0) (k : Counts) (w : Taken) → RunsAs Is (world k w) (world k w) (status_of_run (Err stopped.Memory))
run-of_nothing Is k w = inl (appends-nothing w.written)

-- a fetch that cut the run off before it wrote anything
pub stop_told : (Is : (List ℕ → List (List ℕ)) → Outcome → Type 0) (k k' : Counts) (w : Taken) (s : Stopped) → CountsText k k' (Stop s)
    → RunsAs Is (world k w) (world k' w) (status_of_run (Err s))
stop_told Is k k' w stopped.Fault counts = (inl counts.3, inl (appends-nothing w.written))
stop_told Is k k' w stopped.Memory counts = inl (appends-nothing w.written)

-- a text that isn't there, before anything was written
pub nothing_there : (Is : Option (List ℕ) → (List ℕ → List (List ℕ)) → Outcome → Type 0) (want : Option (List ℕ)) (k k' : Counts) (w : Taken) → want ≡ None → Is None lines_of (outcome [] ended.NoFile) → CountsText k k' Nothing
    → RunsAs (Is want) (world k w) (world k' w) (status_of_run (Ok ended.NoFile))
nothing_there Is want k k' w e is counts = ([], rw e is, (appends-nothing w.written, (counts.1, refl)))

-- a script that isn't there
pub nothing_aim : (files : Files) (c : Settings) (aim : Aim) → IsAimOutcome files c aim None lines_of (outcome [] ended.NoFile)
nothing_aim files c for_lines = refl
nothing_aim files c (for_rule rule at) = refl

-- a text that is there
pub text_there : (Is : Option (List ℕ) → (List ℕ → List (List ℕ)) → Outcome → Type 0) (want : Option (List ℕ)) (bytes bytes' : List ℕ) (k k' : Counts) (w : Taken) (new : World) (st : Status)
    → want ≡ Some bytes → bytes' ≡ bytes → k' ≡ k → RunsAs (Is (Some bytes')) (world k' w) new st → RunsAs (Is want) (world k w) new st
text_there Is want bytes bytes' k k' w new st e eb ek h =
    let h' = rw (eb, ek) at h in
    rw e h'

-- the refusal of a configuration is the one that its definition has
pub config_fails : (said : Read Settings) (e : ConfigError) → is_config_memory e ≡ false → Fails e said → said ≡ Err e
config_fails said NotToml ne h = h
config_fails said (Missing at) ne h = h
config_fails said (BadValue at) ne h = h
config_fails said (Unknown at) ne h = h
config_fails said (Repeated at) ne h = h
config_fails said (TooMany at) ne h = h
config_fails said Memory ne h = absurd (cc)

-- a configuration that is refused has its line, whatever lines a script has
pub config_refused : (files : Files) (aim : Aim) (script : List ℕ) (said : Read Settings) (e : ConfigError) (k : Counts) (w w' : Taken) (r : Result Ended Stopped) → is_config_memory e ≡ false → Fails e said
    → PutsOutcome (outcome (config_text e) ended.BadConfig) w w' r → RunsAs (IsConfigOutcome files aim script said) (world k w) (world k w') (status_of_run r)
config_refused files aim script said e k w w' r ne h put =
    rw (config_fails said e ne h) (run-of_put (IsConfigOutcome files aim script (Err e)) (outcome (config_text e) ended.BadConfig) k k w w' r refl (λ lines. refl) put)

-- a draft that holds nothing yet
pub lines_told : (files : Files) (c : Settings) (script : List ℕ) (first last : Store) (old new : World) (refused : Bool) → first ≡ nothing_held c.window.hours
    → TellsAll files c (lines_of script) first last old new (Ok refused) → RunsAs (IsScriptOutcome files c (Some script)) old new (status_of_run (Ok (ended_by refused)))
lines_told files c script first last old new refused e h =
    run-of_told files c script last old new refused (subst (λ (s : Store). TellsAll files c (lines_of script) s last old new (Ok refused)) e h)

pub lines_cut : (files : Files) (c : Settings) (script : List ℕ) (first last : Store) (old new : World) (s : Stopped) → first ≡ nothing_held c.window.hours
    → TellsAll files c (lines_of script) first last old new (Err s) → RunsAs (IsScriptOutcome files c (Some script)) old new (status_of_run (Err s))
lines_cut files c script first last old new s e h =
    run-of_cut files c script last old new s (subst (λ (k : Store). TellsAll files c (lines_of script) k last old new (Err s)) e h)

pub holds_nothing : (c : Settings) (k : Drafted) → k.config ≡ c → k.store ≡ nothing_held c.window.hours → k.store ≡ nothing_held k.config.window.hours
holds_nothing c k ec es = es ∙ sym (ap (λ (x : Settings). nothing_held x.window.hours) ec)

pub told_in : (files : Files) (c c' : Settings) (script : List ℕ) (old new : World) (s : Status) → c' ≡ c → RunsAs (IsScriptOutcome files c' (Some script)) old new s → RunsAs (IsScriptOutcome files c (Some script)) old new s
told_in files c c' script old new s e h = subst (λ (x : Settings). RunsAs (IsScriptOutcome files x (Some script)) old new s) e h

-- ---- what the words ask for

cut_as : (Is Is' : (List ℕ → List (List ℕ)) → Outcome → Type 0) (old new : World) → ((lines : List ℕ → List (List ℕ)) (o : Outcome) → Is lines o → Is' lines o) → IsCutOff Is old new → IsCutOff Is' old new
cut_as Is Is' old new k (inl h) = inl h
cut_as Is Is' old new k (inr h) = inr (h.0, h.1, k (first_lines h.0) h.1 h.2, h.3)

-- the same by other words
pub run_as : (Is Is' : (List ℕ → List (List ℕ)) → Outcome → Type 0) (old new : World) (s : Status) → ((lines : List ℕ → List (List ℕ)) (o : Outcome) → Is lines o → Is' lines o) → RunsAs Is old new s → RunsAs Is' old new s
run_as Is Is' old new outer.Done k h = (h.0, k lines_of (outcome h.0 ended.Done) h.1, h.2)
run_as Is Is' old new outer.SomeRefused k h = (h.0, k lines_of (outcome h.0 ended.SomeRefused) h.1, h.2)
run_as Is Is' old new outer.Usage k h = (h.0, k lines_of (outcome h.0 ended.Usage) h.1, h.2)
run_as Is Is' old new outer.BadConfig k h = (h.0, k lines_of (outcome h.0 ended.BadConfig) h.1, h.2)
run_as Is Is' old new outer.NoFile k h = (h.0, k lines_of (outcome h.0 ended.NoFile) h.1, h.2)
run_as Is Is' old new outer.Fault k h = (h.0, cut_as Is Is' old new k h.1)
run_as Is Is' old new outer.Memory k h = cut_as Is Is' old new k h

answer_run : (config script : List ℕ) (files : Files) (lines : List ℕ → List (List ℕ)) (o : Outcome) → IsFileOutcome files for_lines script (limited 1048576 (files config)) lines o → IsAnswer (Some (for_run config script)) files lines o
unfolding IsAnswer
answer_run config script files lines o h = h

answer_pairs : (config script : List ℕ) (rule : ℕ) (at : List ℕ) (files : Files) (lines : List ℕ → List (List ℕ)) (o : Outcome) → IsFileOutcome files (for_rule rule at) script (limited 1048576 (files config)) lines o
    → IsAnswer (Some (for_pairs config script rule at)) files lines o
unfolding IsAnswer
answer_pairs config script rule at files lines o h = h

answer_count : (file signal : List ℕ) (day : ℤ) (hour : ℕ) (files : Files) (lines : List ℕ → List (List ℕ)) (o : Outcome) → o ≡ file_outcome Count (wanted_by signal day hour) (limited 33554432 (files file))
    → IsAnswer (Some (for_count file signal day hour)) files lines o
unfolding IsAnswer
answer_count file signal day hour files lines o h = h

answer_pack : (file signal : List ℕ) (day : ℤ) (hour : ℕ) (files : Files) (lines : List ℕ → List (List ℕ)) (o : Outcome) → o ≡ file_outcome Pack (wanted_by signal day hour) (limited 33554432 (files file))
    → IsAnswer (Some (for_pack file signal day hour)) files lines o
unfolding IsAnswer
answer_pack file signal day hour files lines o h = h

answer_none : (files : Files) (lines : List ℕ → List (List ℕ)) → IsAnswer None files lines (outcome usage_text ended.Usage)
unfolding IsAnswer
answer_none files lines = refl

pub request_run : (files : Files) (x : Asked) (config script : List ℕ) (old new : World) (st : Status) → x ≡ for_run config script
    → RunsAs (IsFileOutcome files for_lines script (limited 1048576 (files config))) old new st → RunsAs (IsAnswer (Some x) files) old new st
request_run files x config script old new st e h =
    rw e (run_as (IsFileOutcome files for_lines script (limited 1048576 (files config))) (IsAnswer (Some (for_run config script)) files) old new st (answer_run config script files) h)

pub request_pairs : (files : Files) (x : Asked) (config script : List ℕ) (rule : ℕ) (at : List ℕ) (old new : World) (st : Status) → x ≡ for_pairs config script rule at
    → RunsAs (IsFileOutcome files (for_rule rule at) script (limited 1048576 (files config))) old new st → RunsAs (IsAnswer (Some x) files) old new st
request_pairs files x config script rule at old new st e h =
    rw e (run_as (IsFileOutcome files (for_rule rule at) script (limited 1048576 (files config))) (IsAnswer (Some (for_pairs config script rule at)) files) old new st (answer_pairs config script rule at files) h)

pub request_count : (files : Files) (x : Asked) (file signal : List ℕ) (day : ℤ) (hour : ℕ) (old new : World) (st : Status) → x ≡ for_count file signal day hour
    → RunsAs (λ lines o. o ≡ file_outcome Count (wanted_by signal day hour) (limited 33554432 (files file))) old new st → RunsAs (IsAnswer (Some x) files) old new st
request_count files x file signal day hour old new st e h =
    rw e (run_as (λ lines o. o ≡ file_outcome Count (wanted_by signal day hour) (limited 33554432 (files file))) (IsAnswer (Some (for_count file signal day hour)) files) old new st (answer_count file signal day hour files) h)

pub request_pack : (files : Files) (x : Asked) (file signal : List ℕ) (day : ℤ) (hour : ℕ) (old new : World) (st : Status) → x ≡ for_pack file signal day hour
    → RunsAs (λ lines o. o ≡ file_outcome Pack (wanted_by signal day hour) (limited 33554432 (files file))) old new st → RunsAs (IsAnswer (Some x) files) old new st
request_pack files x file signal day hour old new st e h =
    rw e (run_as (λ lines o. o ≡ file_outcome Pack (wanted_by signal day hour) (limited 33554432 (files file))) (IsAnswer (Some (for_pack file signal day hour)) files) old new st (answer_pack file signal day hour files) h)

-- a day of the years 0000 to 9999 as an i64 keeps it
pub day_back : (day : ℤ) → IsDay day → to_z w64 (of_z w64 day) ≡ day
day_back (pos n) h = back_small w64 (pos n) (omega (arith, signed_arith))
day_back (negsuc n) h = back_small w64 (negsuc n) (omega (arith, signed_arith))

pub asked_is : (words : List (List ℕ)) (items items' : List (Bor (List ℕ))) (o : Option Asked) → items' ≡ items → map (λ w. w.now) items ≡ codes "sigaudit" ∷ words → request_of (map (λ w. w.now) items') ≡ o → asked_of words ≡ o
unfolding asked_of
asked_is words items items' o e m h = ap request_of (sym (ap (map (λ (w : Bor (List ℕ)). w.now)) e ∙ m)) ∙ h

pub answer_as : (words : List (List ℕ)) (files : Files) (o : Option Asked) (old new : World) (st : Status) → asked_of words ≡ o → RunsAs (IsAnswer o files) old new st → RunsAs (IsAnswer (asked_of words) files) old new st
answer_as words files o old new st e h = rw e h

pub cause_as : (words : List (List ℕ)) (o : Option Asked) (old new : World) (st : Status) → asked_of words ≡ o → HasCause o old new st → HasCause (asked_of words) old new st
cause_as words o old new st e h = rw e h

needs_some : (x : Asked) (old new : World) (st : Status) → NeedsWords (Some x) old new st
needs_some x old new outer.Done = tt
needs_some x old new outer.SomeRefused = tt
needs_some x old new outer.Usage = tt
needs_some x old new outer.BadConfig = tt
needs_some x old new outer.Fault = tt
needs_some x old new outer.Memory = tt
needs_some x old new outer.NoFile = tt

pub needs_as : (words : List (List ℕ)) (x : Asked) (old new : World) (st : Status) → asked_of words ≡ Some x → NeedsWords (asked_of words) old new st
needs_as words x old new st e = rw e (needs_some x old new st)

-- the usage line was written
pub usage_told : (words : List (List ℕ)) (files : Files) (k : Counts) (w w' : Taken) (r : Result Ended Stopped) → asked_of words ≡ None
    → PutsOutcome (outcome usage_text ended.Usage) w w' r → RunsAs (IsAnswer (asked_of words) files) (world k w) (world k w') (status_of_run r)
usage_told words files k w w' r e h = rw e (run-of_put (IsAnswer None files) (outcome usage_text ended.Usage) k k w w' r refl (answer_none files) h)

pub usage_cause : (words : List (List ℕ)) (k : Counts) (w w' : Taken) (r : Result Ended Stopped) → asked_of words ≡ None
    → PutsOutcome (outcome usage_text ended.Usage) w w' r → HasCause (asked_of words) (world k w) (world k w') (status_of_run r)
usage_cause words k w w' (Ok ended.Usage) e h = (e, refl, (refl, h.1.same))
usage_cause words k w w' (Ok ended.Done) e h = absurd (let k = h.0 in cc)
usage_cause words k w w' (Ok ended.SomeRefused) e h = absurd (let k = h.0 in cc)
usage_cause words k w w' (Ok ended.BadConfig) e h = absurd (let k = h.0 in cc)
usage_cause words k w w' (Ok ended.NoFile) e h = absurd (let k = h.0 in cc)
usage_cause words k w w' (Err stopped.Fault) e h = inr h.rose
usage_cause words k w w' (Err stopped.Memory) e h = tt

pub if_some-from : {A : Type 0} (o : Option A) (P : A → Type 0) → ((x : A) → o ≡ Some x → P x) → IfSome o P
if_some-from None P h = tt
if_some-from (Some x) P h = h x refl

-- where the words have one transcript, what was written begins it
begins : (words : List (List ℕ)) (files : Files) (old new : World) → asks_pairs (asked_of words) ≡ false → IsCutOff (IsAnswer (asked_of words) files) old new → WritesBeginning words files old new
begins words files old new one (inl h) =
    let o = answer_begun (asked_of words) files one in
    (0, o.0.bytes, (o.0.ended, o.1), ([], o.0.bytes, refl, h))
begins words files old new one (inr h) = (h.0, h.1.bytes, (h.1.ended, h.2), h.3)

-- the headline: a run of what the words ask for is a run of the transcript
headline : (words : List (List ℕ)) (files : Files) (old new : World) (s : Status) → asks_pairs (asked_of words) ≡ false → RunsAs (IsAnswer (asked_of words) files) old new s → IsRun words files old new s
headline words files old new outer.Done one h = h
headline words files old new outer.SomeRefused one h = h
headline words files old new outer.Usage one h = h
headline words files old new outer.BadConfig one h = h
headline words files old new outer.NoFile one h = h
headline words files old new outer.Fault one h = (h.0, begins words files old new one h.1)
headline words files old new outer.Memory one h = begins words files old new one h

pub run-of_answer : (words : List (List ℕ)) (told : Option Files) (old new : World) (s t : Status)
    → s ≡ t → IfSome told (λ files. RunsAs (IsAnswer (asked_of words) files) old new t) → IfSome told (λ files. asks_pairs (asked_of words) ≡ false → IsRun words files old new s)
run-of_answer words told old new s t e h =
    if_some-weaker told (λ files. RunsAs (IsAnswer (asked_of words) files) old new t) (λ files. asks_pairs (asked_of words) ≡ false → IsRun words files old new s)
    (λ files r one. rw e (headline words files old new t one r)) h

-- ---- words that ask for what a rule leaves undecided

-- which of a script's lines are taken doesn't matter to them
rule_aim : (files : Files) (c : Settings) (rule : ℕ) (at : List ℕ) (script : Option (List ℕ)) (lines lines' : List ℕ → List (List ℕ)) (o : Outcome) → IsAimOutcome files c (for_rule rule at) script lines o → IsAimOutcome files c (for_rule rule at) script lines' o
rule_aim files c rule at None lines lines' o h = h
rule_aim files c rule at (Some text) lines lines' o h = h

rule_config : (files : Files) (rule : ℕ) (at script : List ℕ) (said : Read Settings) (lines lines' : List ℕ → List (List ℕ)) (o : Outcome) → IsConfigOutcome files (for_rule rule at) script said lines o → IsConfigOutcome files (for_rule rule at) script said lines' o
rule_config files rule at script (Err e) lines lines' o h = h
rule_config files rule at script (Ok c) lines lines' o h = rule_aim files c rule at (limited 4194304 (files script)) lines lines' o h

rule_file : (files : Files) (rule : ℕ) (at script : List ℕ) (bytes : Option (List ℕ)) (lines lines' : List ℕ → List (List ℕ)) (o : Outcome) → IsFileOutcome files (for_rule rule at) script bytes lines o → IsFileOutcome files (for_rule rule at) script bytes lines' o
rule_file files rule at script None lines lines' o h = h
rule_file files rule at script (Some bytes) lines lines' o h = rule_config files rule at script (config_of bytes) lines lines' o h

whole_answer : (asked : Option Asked) (files : Files) (lines : List ℕ → List (List ℕ)) (o : Outcome) → asks_pairs asked ≡ true → IsAnswer asked files lines o → IsAnswer asked files lines_of o
unfolding IsAnswer
whole_answer None files lines o e h = absurd (cc)
whole_answer (Some (for_run config script)) files lines o e h = absurd (cc)
whole_answer (Some (for_pairs config script rule at)) files lines o e h = rule_file files rule at script (limited 1048576 (files config)) lines lines_of o h
whole_answer (Some (for_count file signal day hour)) files lines o e h = absurd (cc)
whole_answer (Some (for_pack file signal day hour)) files lines o e h = absurd (cc)
whole_answer (Some (for_demo hours)) files lines o e h = absurd (cc)

front_of : (words : List (List ℕ)) (files : Files) (old new : World) → asks_pairs (asked_of words) ≡ true → IsCutOff (IsAnswer (asked_of words) files) old new → WritesPrefix words files old new
front_of words files old new some (inl h) = inl h
front_of words files old new some (inr h) = inr (h.1.bytes, h.1.ended, whole_answer (asked_of words) files (first_lines h.0) h.1 some h.2, h.3)

pairs_line : (words : List (List ℕ)) (files : Files) (old new : World) (s : Status) → asks_pairs (asked_of words) ≡ true → HasCause (asked_of words) old new s → RunsAs (IsAnswer (asked_of words) files) old new s → IsPairsRun words files old new s
pairs_line words files old new outer.Done some cause h = h
pairs_line words files old new outer.SomeRefused some cause h = h
pairs_line words files old new outer.Usage some cause h = absurd (let none = rw cause.0 at some in cc)
pairs_line words files old new outer.BadConfig some cause h = h
pairs_line words files old new outer.NoFile some cause h = h
pairs_line words files old new outer.Fault some cause h = (h.0, front_of words files old new some h.1)
pairs_line words files old new outer.Memory some cause h = front_of words files old new some h

pub pairs-of_answer : (words : List (List ℕ)) (told : Option Files) (old new : World) (s t : Status)
    → s ≡ t → HasCause (asked_of words) old new t → IfSome told (λ files. RunsAs (IsAnswer (asked_of words) files) old new t) → IfSome told (λ files. asks_pairs (asked_of words) ≡ true → IsPairsRun words files old new s)
pairs-of_answer words told old new s t e cause h =
    if_some-weaker told (λ files. RunsAs (IsAnswer (asked_of words) files) old new t) (λ files. asks_pairs (asked_of words) ≡ true → IsPairsRun words files old new s)
    (λ files r some. rw e (pairs_line words files old new t some cause r)) h
