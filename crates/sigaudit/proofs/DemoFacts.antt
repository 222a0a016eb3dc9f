-- A demonstration is a run over a shelf of its own, on which nothing is missing.
use Rattle.std.proofs.Common.{◌≡◌, ◌≤◌, ℕ, List, length, Option, Some, None, Ok, Err, refl, ap, subst, inl, inr, arith, Bool, true, false}
use Rattle.std.proofs.lemmas.Bool.Decides.{nat_tests}
use Rattle.outside.specs.Sink.{Taken}
use Rattle.outside.specs.Counted.{Rose}
use Rattle.outside.specs.Shelf.{Counts, Files}
use Rattle.ring_config.specs.Reading.{Read}
use Rattle.ring_config.specs.Settings.{Settings, config_of}
use Rattle.command_line.specs.Words.{Asked, for_demo}
use Rattle.demonstration.specs.Texts.{config_text, script_text}
use Rattle.demonstration.specs.Files.{config_name, demo_files, script_name}
use Rattle.demonstration.proofs.SizeFacts.{config-short, script-short}
use Rattle.script_lines.specs.Lines.{lines_of}
use Rattle.sigaudit.specs.Aims.{for_lines}
use Rattle.sigaudit.specs.Asked.{asked_of}
use Rattle.sigaudit.specs.DemoShelf.{demo_counts}
use Rattle.sigaudit.specs.Transcript.{Outcome, outcome, ended_by, limited, IsAnswer, IsConfigOutcome, IsDemoOutcome, IsFileOutcome, IsScriptOutcome}
use Rattle.sigaudit.specs.Run.{World, world, DemoCause, HasFault, LeavesShelf, RunsAs, ScriptCause}
use Rattle.sigaudit.specs.declared.status.Status.{Status}
use Rattle.sigaudit.specs.declared.status.Status.TheVariants as outer
use Rattle.sigaudit.specs.declared.status.Ended.TheVariants as ended
use Rattle.sigaudit.proofs.RunFacts.{run_as}

-- a fault of a run over the shelf of a demonstration is the sink's
sink_fault : (m l m' l' : ℕ) (w w' : Taken) → HasFault (world (demo_counts m l) w) (world (demo_counts m' l') w') → Rose w.faults w'.faults
sink_fault m l m' l' w w' (inl h) = absurd (omega (arith, h))
sink_fault m l m' l' w w' (inr h) = h

-- a run over the shelf of a demonstration is one whatever the counts of another shelf are
pub demo_told : (Is : (List ℕ → List (List ℕ)) → Outcome → Type 0) (m l m' l' : ℕ) (k : Counts) (w w' : Taken) (st : Status)
    → RunsAs Is (world (demo_counts m l) w) (world (demo_counts m' l') w') st → RunsAs Is (world k w) (world k w') st
demo_told Is m l m' l' k w w' outer.Done h = (h.0, h.1, (h.2.0, (refl, h.2.1.1)))
demo_told Is m l m' l' k w w' outer.SomeRefused h = (h.0, h.1, (h.2.0, (refl, h.2.1.1)))
demo_told Is m l m' l' k w w' outer.Usage h = (h.0, h.1, (h.2.0, (refl, h.2.1.1)))
demo_told Is m l m' l' k w w' outer.BadConfig h = (h.0, h.1, (h.2.0, (refl, h.2.1.1)))
demo_told Is m l m' l' k w w' outer.NoFile h = (h.0, h.1, (h.2.0, (refl, h.2.1.1)))
demo_told Is m l m' l' k w w' outer.Fault h = (inr (sink_fault m l m' l' w w' h.0), h.1)
demo_told Is m l m' l' k w w' outer.Memory h = h

pub same_hours : (n hours : ℕ) (old new : World) (st : Status) → n ≡ hours → RunsAs (IsDemoOutcome n) old new st → RunsAs (IsDemoOutcome hours) old new st
same_hours n hours old new st e h = subst (λ (k : ℕ). RunsAs (IsDemoOutcome k) old new st) e h

-- ---- the configuration and the script are there

within : (most : ℕ) (bytes : List ℕ) → length bytes ≤ most → limited most (Some bytes) ≡ Some bytes
within most bytes h = grind (arith, nat_tests)

config_there : (hours : ℕ) → hours ≤ 168 → limited 1048576 (demo_files hours config_name) ≡ Some (config_text hours)
unfolding demo_files
config_there hours h = within 1048576 (config_text hours) (config-short hours h)

script_there : (hours : ℕ) → hours ≤ 168 → limited 4194304 (demo_files hours script_name) ≡ Some (script_text hours)
unfolding demo_files
script_there hours h = within 4194304 (script_text hours) (script-short hours h)

-- a script that is there doesn't end as one that isn't
not_ended : (told : Bool) → ended.NoFile ≡ ended_by told → ⊥
not_ended true e = cc
not_ended false e = cc

script_found : (files : Files) (c : Settings) (script : Option (List ℕ)) (bytes there : List ℕ) → script ≡ Some there → IsScriptOutcome files c script lines_of (outcome bytes ended.NoFile) → ⊥
script_found files c None bytes there e h = cc
script_found files c (Some s) bytes there e h = not_ended h.0.refused (ap (λ (o : Outcome). o.ended) h.2)

config_found : (files : Files) (script : List ℕ) (said : Read Settings) (bytes there : List ℕ) → limited 4194304 (files script) ≡ Some there → IsConfigOutcome files for_lines script said lines_of (outcome bytes ended.NoFile) → ⊥
config_found files script (Err e) bytes there s h = let k : ended.NoFile ≡ ended.BadConfig = ap (λ (o : Outcome). o.ended) h in cc
config_found files script (Ok c) bytes there s h = script_found files c (limited 4194304 (files script)) bytes there s h

file_found : (files : Files) (script : List ℕ) (config : Option (List ℕ)) (bytes first second : List ℕ) → config ≡ Some first → limited 4194304 (files script) ≡ Some second
    → IsFileOutcome files for_lines script config lines_of (outcome bytes ended.NoFile) → ⊥
file_found files script None bytes first second e s h = cc
file_found files script (Some c) bytes first second e s h = config_found files script (config_of c) bytes second s h

demo_found : (hours : ℕ) (bytes : List ℕ) → hours ≤ 168 → IsDemoOutcome hours lines_of (outcome bytes ended.NoFile) → ⊥
demo_found hours bytes h o =
    file_found (demo_files hours) script_name (limited 1048576 (demo_files hours config_name)) bytes (config_text hours) (script_text hours) (config_there hours h) (script_there hours h) o

-- why a demonstration ended so
pub demo_cause : (hours m l m' l' : ℕ) (w w' : Taken) (st : Status) → hours ≤ 168
    → RunsAs (IsDemoOutcome hours) (world (demo_counts m l) w) (world (demo_counts m' l') w') st
    → ScriptCause (world (demo_counts m l) w) (world (demo_counts m' l') w') st → DemoCause w.faults w'.faults st
demo_cause hours m l m' l' w w' outer.Done few told h = h.1
demo_cause hours m l m' l' w w' outer.SomeRefused few told h = h.1
demo_cause hours m l m' l' w w' outer.Usage few told h = h
demo_cause hours m l m' l' w w' outer.BadConfig few told h = h.1.1
demo_cause hours m l m' l' w w' outer.NoFile few told h = demo_found hours told.0 few told.1
demo_cause hours m l m' l' w w' outer.Fault few told h = sink_fault m l m' l' w w' h
demo_cause hours m l m' l' w w' outer.Memory few told h = tt

-- ---- what the words ask for

answer_demo : (hours : ℕ) (files : Files) (lines : List ℕ → List (List ℕ)) (o : Outcome) → IsDemoOutcome hours lines o → IsAnswer (Some (for_demo hours)) files lines o
unfolding IsAnswer
answer_demo hours files lines o h = h

pub request_demo : (files : Files) (x : Asked) (hours : ℕ) (old new : World) (st : Status) → x ≡ for_demo hours → RunsAs (IsDemoOutcome hours) old new st → RunsAs (IsAnswer (Some x) files) old new st
request_demo files x hours old new st e h =
    rw e (run_as (IsDemoOutcome hours) (IsAnswer (Some (for_demo hours)) files) old new st (answer_demo hours files) h)

pub alone_as : (words : List (List ℕ)) (o : Option Asked) (old new : World) (st : Status) → asked_of words ≡ o → LeavesShelf o old new st → LeavesShelf (asked_of words) old new st
alone_as words o old new st e h = rw e h
