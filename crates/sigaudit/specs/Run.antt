-- What a run does to the shelf and the sink.
use Rattle.std.specs.Prelude.{◌≡◌, ◌≤◌, ◌⊎◌, ℕ, List, [], length, take, Option, Some, None, IsSome, Result, Ok, Err, Bool, ⊤}
use Rattle.std.specs.Io.KnownBytes.{Appends}
use Rattle.outside.specs.Counted.{Rose}
use Rattle.outside.specs.Shelf.{Counts, Files}
use Rattle.outside.specs.Sink.{AppendsPrefix, Stops, Taken, Writes}
use Rattle.hour_store.specs.Store.{Store, nothing_held}
use Rattle.sig_base.specs.Window.{Span}
use Rattle.report_text.specs.declared.refusal.Refusal.{Refusal}
use Rattle.report_text.specs.Refusals.{IsOfWindow}
use Rattle.command_line.specs.Words.{Asked, for_run, for_pairs, for_demo}
use Rattle.ring_config.specs.Settings.{Settings}
use Rattle.session.specs.Sessions.{Drafted}
use Rattle.script_lines.specs.Lines.{lines_of}
use Rattle.sigaudit.specs.Turns.{Turn}
use Rattle.sigaudit.specs.Script.{Told, IsTold}
use Rattle.sigaudit.specs.Transcript.{Outcome, outcome, first_lines, IsBeginning, IsTranscript}
use Rattle.sigaudit.specs.declared.status.Status.{Status}
use Rattle.sigaudit.specs.declared.status.Status.TheVariants.{Done, SomeRefused, Usage, BadConfig, Fault, Memory, NoFile}
use Rattle.sigaudit.specs.declared.status.Ended.{Ended}
use Rattle.sigaudit.specs.declared.status.Ended.TheVariants as ended
use Rattle.sigaudit.specs.declared.status.Stopped.{Stopped}
use Rattle.sigaudit.specs.declared.status.Stopped.TheVariants as stopped
use Rattle.sigaudit.specs.declared.script.Fetched.{Fetched}
use Rattle.sigaudit.specs.declared.script.Fetched.TheVariants.{There, Missed, Cut}
use Rattle.sigaudit.specs.declared.one_run.Got.{Got}
use Rattle.sigaudit.specs.declared.one_run.Got.TheVariants.{Have, Nothing, Stop}

-- what a run sees of the outside: the shelf's counts, and what the sink took and counted
pub record World : Type 0 where
  pub counts : Counts
  pub written : Option (List ℕ)
  pub faults : ℕ

-- what a run sees of the outside, by the shelf's counts and what the sink took
abbrev pub world : Counts → Taken → World
world counts taken = record { counts = counts; written = taken.written; faults = taken.faults }

-- no fetch failed and the sink had no fault
abbrev pub NoFault : World → World → Type 0
NoFault old new = (new.counts.failed ≡ old.counts.failed) × (new.faults ≡ old.faults)

-- a count of faults rose
abbrev pub HasFault : World → World → Type 0
HasFault old new = Rose old.counts.failed new.counts.failed ⊎ Rose old.faults new.faults

-- the words ask for a script over a configuration: their own, for its texts or for what a rule leaves undecided, or that of a demonstration
abbrev pub AsksRun : Option Asked → Type 0
AsksRun (Some (for_run config script)) = ⊤
AsksRun (Some (for_pairs config script rule at)) = ⊤
AsksRun (Some (for_demo hours)) = ⊤
AsksRun _ = ⊥

-- some bytes are the transcript of the words and the files with this end, and exactly these were written, without a fault
abbrev pub WritesTranscript : List (List ℕ) → Files → Ended → World → World → Type 0
WritesTranscript words files e old new = (bytes : List ℕ) × IsTranscript words files bytes e × (Appends old.written new.written bytes × NoFault old new)

-- a prefix was written of what the transcript begins with, up to some line of a script
abbrev pub WritesBeginning : List (List ℕ) → Files → World → World → Type 0
WritesBeginning words files old new = (k : ℕ) × (bytes : List ℕ) × IsBeginning k words files bytes × AppendsPrefix old.written new.written bytes

-- the run ended as a transcript of the words and the files does and wrote exactly its bytes; or it was cut off, by a counted fault or out of memory, and IsShort holds
abbrev pub EndsOr : Type 0 → List (List ℕ) → Files → World → World → Status → Type 0
EndsOr IsShort words files old new Done = WritesTranscript words files ended.Done old new
EndsOr IsShort words files old new SomeRefused = WritesTranscript words files ended.SomeRefused old new
EndsOr IsShort words files old new Usage = WritesTranscript words files ended.Usage old new
EndsOr IsShort words files old new BadConfig = WritesTranscript words files ended.BadConfig old new
EndsOr IsShort words files old new NoFile = WritesTranscript words files ended.NoFile old new
EndsOr IsShort words files old new Fault = HasFault old new × IsShort
EndsOr IsShort words files old new Memory = IsShort

-- the headline: the run ended as the transcript of the words and the files does and wrote exactly its bytes; or it was cut off, by a counted fault or out of memory, after a prefix of what the transcript begins with
abbrev pub IsRun : List (List ℕ) → Files → World → World → Status → Type 0
IsRun words files old new status = EndsOr (WritesBeginning words files old new) words files old new status

-- nothing was written, or a prefix of some bytes that are a transcript of the words and the files
abbrev pub WritesPrefix : List (List ℕ) → Files → World → World → Type 0
WritesPrefix words files old new =
    Appends old.written new.written [] ⊎ ((bytes : List ℕ) × (e : Ended) × IsTranscript words files bytes e × AppendsPrefix old.written new.written bytes)

-- the headline where the words ask for what a rule leaves undecided, so that more than one transcript is right: the run ended as one of them does and wrote exactly its bytes; or it was cut off, by a counted fault or out of memory, after a prefix of one, maybe before anything was written
abbrev pub IsPairsRun : List (List ℕ) → Files → World → World → Status → Type 0
IsPairsRun words files old new Usage = ⊥
IsPairsRun words files old new status = EndsOr (WritesPrefix words files old new) words files old new status

-- what holds where a run that was asked for this ended so, whether or not the files and the bytes are revealed; of `Memory` nothing is said
abbrev pub HasCause : Option Asked → World → World → Status → Type 0
HasCause asked old new Usage = (asked ≡ None) × (new.counts ≡ old.counts) × NoFault old new
HasCause asked old new BadConfig = AsksRun asked × (new.counts ≡ old.counts) × NoFault old new
HasCause asked old new NoFile =
    IsSome asked × (Rose old.counts.missing new.counts.missing ⊎ Rose old.counts.long new.counts.long) × Appends old.written new.written [] × NoFault old new
HasCause asked old new Fault = HasFault old new
HasCause asked old new Memory = ⊤
HasCause asked old new _ = IsSome asked × NoFault old new

-- where the words ask for nothing that can be done, a fault is one of the sink
abbrev pub NeedsWords : Option Asked → World → World → Status → Type 0
NeedsWords None old new Fault = Rose old.faults new.faults
NeedsWords _ old new status = ⊤

-- no count has fallen
pub record NeverFall (old new : World) : Type 0 where
  pub missing : old.counts.missing ≤ new.counts.missing
  pub failed : old.counts.failed ≤ new.counts.failed
  pub long : old.counts.long ≤ new.counts.long
  pub faults : old.faults ≤ new.faults

-- why a demonstration ended so, by the sink's counts of faults
abbrev pub DemoCause : ℕ → ℕ → Status → Type 0
DemoCause before now Usage = ⊥
DemoCause before now NoFile = ⊥
DemoCause before now Fault = Rose before now
DemoCause before now Memory = ⊤
DemoCause before now _ = now ≡ before

-- a demonstration leaves the shelf alone, misses no file of its own, and stops at a fault of the sink alone
abbrev pub LeavesShelf : Option Asked → World → World → Status → Type 0
LeavesShelf (Some (for_demo hours)) old new status = (new.counts ≡ old.counts) × DemoCause old.faults new.faults status
LeavesShelf _ old new status = ⊤

-- ---- For contracts alone

-- all the bytes were written and no fault came
abbrev pub WritesAll : List ℕ → World → World → Type 0
WritesAll bytes old new = Appends old.written new.written bytes × NoFault old new

-- the run wrote all of what the words and the files give where the run ends so, and no fault came
abbrev pub Ends : ((List ℕ → List (List ℕ)) → Outcome → Type 0) → Ended → World → World → Type 0
Ends Is e old new = (bytes : List ℕ) × Is lines_of (outcome bytes e) × WritesAll bytes old new

-- nothing was written, or a prefix of the text where the script ends after its first lines, for some number of them
abbrev pub IsCutOff : ((List ℕ → List (List ℕ)) → Outcome → Type 0) → World → World → Type 0
IsCutOff Is old new =
    Appends old.written new.written [] ⊎ ((k : ℕ) × (o : Outcome) × Is (first_lines k) o × AppendsPrefix old.written new.written o.bytes)

-- a run ended as the outcome says and wrote all of it, or was cut off by a counted fault or out of memory
abbrev pub RunsAs : ((List ℕ → List (List ℕ)) → Outcome → Type 0) → World → World → Status → Type 0
RunsAs Is old new Done = Ends Is ended.Done old new
RunsAs Is old new SomeRefused = Ends Is ended.SomeRefused old new
RunsAs Is old new Usage = Ends Is ended.Usage old new
RunsAs Is old new BadConfig = Ends Is ended.BadConfig old new
RunsAs Is old new NoFile = Ends Is ended.NoFile old new
RunsAs Is old new Fault = HasFault old new × IsCutOff Is old new
RunsAs Is old new Memory = IsCutOff Is old new

-- a call that writes an outcome ends as it says, or stops in it by a counted fault, or runs out of memory before it writes anything
abbrev pub PutsOutcome : Outcome → Taken → Taken → Result Ended Stopped → Type 0
PutsOutcome o old new (Ok e) = (o.ended ≡ e) × Writes old new o.bytes
PutsOutcome o old new (Err stopped.Fault) = Stops old new o.bytes
PutsOutcome o old new (Err stopped.Memory) = new ≡ old

-- why a part of a run ended so
abbrev pub IsCaused : {T : Type 0} → World → World → Result T Stopped → Type 0
IsCaused old new (Ok _) = NoFault old new
IsCaused old new (Err stopped.Fault) = HasFault old new
IsCaused old new (Err stopped.Memory) = ⊤

-- nothing was written of a line, or a prefix of the text of a turn that it may have
abbrev pub BeginsTurn : (Turn → Type 0) → Option (List ℕ) → Option (List ℕ) → Type 0
BeginsTurn Is old new = Appends old new [] ⊎ ((t : Turn) × Is t × AppendsPrefix old new t.text)

-- a line of a script was taken with a turn that it has: all that it writes was written, the store is the one after it, and the answer says whether it was refused; or the run was cut off in it
abbrev pub Takes : (Turn → Type 0) → World → World → Store → Result Bool Stopped → Type 0
Takes Is old new store (Ok refused) = (t : Turn) × Is t × Appends old.written new.written t.text × NoFault old new × (store ≡ t.store) × (refused ≡ t.refused)
Takes Is old new store (Err stopped.Fault) = HasFault old new × BeginsTurn Is old.written new.written
Takes Is old new store (Err stopped.Memory) = BeginsTurn Is old.written new.written

-- the same of a call that uses no shelf
abbrev pub TakesBy : (Turn → Type 0) → Taken → Taken → Store → Result Bool Stopped → Type 0
TakesBy Is old new store (Ok refused) = (t : Turn) × Is t × Writes old new t.text × (store ≡ t.store) × (refused ≡ t.refused)
TakesBy Is old new store (Err stopped.Fault) = (t : Turn) × Is t × Stops old new t.text
TakesBy Is old new store (Err stopped.Memory) = (new.faults ≡ old.faults) × BeginsTurn Is old.written new.written

-- the same where the line has this turn
abbrev pub TakesPut : Turn → Taken → Taken → Store → Result Bool Stopped → Type 0
TakesPut t old new store (Ok refused) = Writes old new t.text × (store ≡ t.store) × (refused ≡ t.refused)
TakesPut t old new store (Err stopped.Fault) = Stops old new t.text
TakesPut t old new store (Err stopped.Memory) = new ≡ old

-- a prefix of the text of the first k lines was written, for some k
abbrev pub TellsFirst : Files → Settings → List (List ℕ) → Store → World → World → Type 0
TellsFirst files c lines s old new = (k : ℕ) × (told : Told) × IsTold files c 1 (take k lines) s told × AppendsPrefix old.written new.written told.text

-- all lines of a script were taken, which left the second store of the first one, or a prefix of the text of the first of them was written
abbrev pub TellsAll : Files → Settings → List (List ℕ) → Store → Store → World → World → Result Bool Stopped → Type 0
TellsAll files c lines s last old new (Ok refused) = (told : Told) × IsTold files c 1 lines s told × Appends old.written new.written told.text × NoFault old new × (refused ≡ told.refused) × (last ≡ told.store)
TellsAll files c lines s last old new (Err stopped.Fault) = HasFault old new × TellsFirst files c lines s old new
TellsAll files c lines s last old new (Err stopped.Memory) = TellsFirst files c lines s old new

-- a script was carried out whose lines write nothing: the configuration and the store that it leaves are the draft's, and the answer says whether a line was refused
abbrev pub IsCarriedOut : Files → Settings → List (List ℕ) → Result (Drafted × Bool) Stopped → Type 0
IsCarriedOut files c lines (Ok r) = (told : Told) × IsTold files c 1 lines (nothing_held c.window.hours) told × (r.0.config ≡ c) × (r.0.store ≡ told.store) × (r.1 ≡ told.refused)
IsCarriedOut files c lines (Err s) = ⊤

-- why that was cut off, by the shelf's counts
abbrev pub CountsCarried : {T : Type 0} → Counts → Counts → Result T Stopped → Type 0
CountsCarried old new (Ok _) = new.failed ≡ old.failed
CountsCarried old new (Err stopped.Fault) = Rose old.failed new.failed
CountsCarried old new (Err stopped.Memory) = ⊤

-- none of them has fallen
pub record CountsGrow (old new : Counts) : Type 0 where
  pub missing : old.missing ≤ new.missing
  pub failed : old.failed ≤ new.failed
  pub long : old.long ≤ new.long

-- a call that writes a text that there may be wrote all of it, or stopped in it by a counted fault, or ran out of memory before it wrote anything
abbrev pub PutsOne : {T : Type 0} → (List ℕ → Type 0) → Taken → Taken → Result T Stopped → Type 0
PutsOne Is old new (Ok _) = (text : List ℕ) × Is text × Writes old new text
PutsOne Is old new (Err stopped.Fault) = (text : List ℕ) × Is text × Stops old new text
PutsOne Is old new (Err stopped.Memory) = new ≡ old

-- an hour file was fetched, or there is a reason why not; of an empty buffer
abbrev pub FetchesHour : Result (List ℕ) Refusal → List ℕ → Fetched → Type 0
FetchesHour want bytes There = want ≡ Ok bytes
FetchesHour want bytes (Missed refusal) = want ≡ Err refusal
FetchesHour want bytes (Cut s) = ⊤

-- the reason names no row
abbrev pub NamesNoRow : Fetched → Type 0
NamesNoRow There = ⊤
NamesNoRow (Missed refusal) = (w : Span) → IsOfWindow w refusal
NamesNoRow (Cut s) = ⊤

-- what a fetch does to the counts, by what came of it
abbrev pub CountsFetch : Counts → Counts → Fetched → Type 0
CountsFetch old new There = (old.missing ≤ new.missing) × (new.failed ≡ old.failed) × (old.long ≤ new.long)
CountsFetch old new (Missed r) = (old.missing ≤ new.missing) × (new.failed ≡ old.failed) × (old.long ≤ new.long)
CountsFetch old new (Cut stopped.Fault) = (old.missing ≤ new.missing) × (old.failed ≤ new.failed) × (old.long ≤ new.long) × Rose old.failed new.failed
CountsFetch old new (Cut stopped.Memory) = (old.missing ≤ new.missing) × (old.failed ≤ new.failed) × (old.long ≤ new.long)

-- a file was fetched into an empty buffer, it isn't there or is too long, or the run was cut off
abbrev pub FetchesText : Option (List ℕ) → List ℕ → Got → Type 0
FetchesText want bytes Have = want ≡ Some bytes
FetchesText want bytes Nothing = want ≡ None
FetchesText want bytes (Stop s) = ⊤

abbrev pub CountsText : Counts → Counts → Got → Type 0
CountsText old new Have = new ≡ old
CountsText old new Nothing = (old.missing ≤ new.missing) × (new.failed ≡ old.failed) × (old.long ≤ new.long) × (Rose old.missing new.missing ⊎ Rose old.long new.long)
CountsText old new (Stop stopped.Fault) = (old.missing ≤ new.missing) × (old.failed ≤ new.failed) × (old.long ≤ new.long) × Rose old.failed new.failed
CountsText old new (Stop stopped.Memory) = new ≡ old

abbrev pub FewBytes : ℕ → List ℕ → Got → Type 0
FewBytes most bytes Have = length bytes ≤ most
FewBytes most bytes _ = ⊤

-- why a count or a packing ended so
abbrev pub FileCause : World → World → Status → Type 0
FileCause old new Done = NoFault old new
FileCause old new SomeRefused = NoFault old new
FileCause old new Usage = ⊥
FileCause old new BadConfig = ⊥
FileCause old new NoFile = (Rose old.counts.missing new.counts.missing ⊎ Rose old.counts.long new.counts.long) × Appends old.written new.written [] × NoFault old new
FileCause old new Fault = HasFault old new
FileCause old new Memory = ⊤

-- why a script over a configuration ended so
abbrev pub ScriptCause : World → World → Status → Type 0
ScriptCause old new BadConfig = (new.counts ≡ old.counts) × NoFault old new
ScriptCause old new status = FileCause old new status
