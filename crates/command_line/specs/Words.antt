-- What the words of the command line ask for.
use Rattle.std.specs.Prelude.{◌≡◌, ℕ, ℤ, ◌<◌, ◌≤◌, ◌==◌, ◌&&◌, not, true, Bool, List, [], ◌∷◌, codes, Option, Some, None, is_none, is_some, Result, Ok, Err, option_map, option_and_then, fold, if◌then◌else◌}
use Rattle.std.specs.List.{list_any}
use Rattle.std.specs.Borrow.{Bor}
use Rattle.clap.specs.Walk.{Text, Rule, Row, first_of, is_empty, rows_of}
use Rattle.clap.specs.Matches.{found_of}
use Rattle.clap.specs.declared.parser.matches.ArgMatches.{ArgMatches}
use Rattle.clap.specs.Simple.{App, new_app, new_rule, with_rule, matches_of}
use Rattle.clap.specs.Faults.{fault_of}
use Rattle.clap.specs.Kinds.{Kinds}
use Rattle.clap.specs.declared.builder.action.ArgAction.TheVariants.{Set}
use Rattle.sig_base.specs.Window.{IsDay}
use Rattle.row_reader.specs.Number.{number_of}
use Rattle.row_reader.specs.Signal.{is_signal}
use Rattle.row_reader.specs.Stamp.{hour_stamp_of, stamp_of}
use Prim.Native.String.{String}
use Rattle.command_line.specs.declared.Options.{Options}
use Rattle.command_line.specs.declared.Request.{Request}
use Rattle.command_line.specs.declared.Request.TheVariants as code
use Rattle.command_line.specs.declared.Refused.{Refused}
use Rattle.command_line.specs.declared.Refused.TheVariants.{Usage, Memory}

-- the command: nine options, each of which takes one value, none of them required
abbrev pub sigaudit : App
sigaudit =
    fold (λ (app : App) (name : Text). with_rule app (record (new_rule name) { long = Some name; action = Some Set })) (new_app (codes "sigaudit"))
    (codes "config" ∷ codes "script" ∷ codes "rule" ∷ codes "at" ∷ codes "count" ∷ codes "signal" ∷ codes "hour" ∷ codes "pack" ∷ codes "demo" ∷ [])

-- a run of a script over a configuration; the fillings of what a rule of this number leaves undecided at a stamp after such a run; of one file of this signal and this hour of a day, a count of the codes or its packed bytes; the demonstration of so many hours
pub data Asked : Type 0 where
  for_run : Text → Text → Asked
  for_pairs : Text → Text → ℕ → Text → Asked
  for_count : Text → Text → ℤ → ℕ → Asked
  for_pack : Text → Text → ℤ → ℕ → Asked
  for_demo : ℕ → Asked

-- a stamp with the letter `T`, and no space, between its date and its time
abbrev pub is_stamp : Text → Bool
is_stamp text = not (list_any (λ b. b == 32) text) && is_some (stamp_of text)

-- the day and the hour that the words name for a signal, where both are readable
abbrev pub hour_asked : Text → Text → Option (ℤ × ℕ)
hour_asked signal hour = if is_signal signal then hour_stamp_of hour else None

-- the request of exactly these options of a script: the configuration, the script, a rule of one to six digits and a stamp, where both are readable
abbrev pub script_asked : Option Text → Option Text → Option Text → Option Text → Option Asked
script_asked (Some c) (Some s) None None = Some (for_run c s)
script_asked (Some c) (Some s) (Some rule) (Some at) = if is_stamp at then option_map (λ k. for_pairs c s k at) (number_of 1 6 999999 rule) else None
script_asked _ _ _ _ = None

-- the request of exactly these options without a script: the counted file, the signal, the hour, the file to be packed, where signal and hour are readable, and the demonstration's hours, one to three digits that say 1 to 168
abbrev pub file_asked : Option Text → Option Text → Option Text → Option Text → Option Text → Option Asked
file_asked (Some f) (Some i) (Some h) None None = option_map (λ at. for_count f i at.0 at.1) (hour_asked i h)
file_asked None (Some i) (Some h) (Some f) None = option_map (λ at. for_pack f i at.0 at.1) (hour_asked i h)
file_asked None None None None (Some n) = option_and_then (λ hours. if hours == 0 then None else Some (for_demo hours)) (number_of 1 3 168 n)
file_asked _ _ _ _ _ = None

-- the request of exactly the options that have values, by the value of each: those of a script and none of the others, or none of a script
unfoldable pub asked_for : (String → Option Text) → Option Asked
asked_for value =
    if is_none (value "count") && is_none (value "signal") && is_none (value "hour") && is_none (value "pack") && is_none (value "demo")
    then script_asked (value "config") (value "script") (value "rule") (value "at")
    else (if is_none (value "config") && is_none (value "script") && is_none (value "rule") && is_none (value "at")
    then file_asked (value "count") (value "signal") (value "hour") (value "pack") (value "demo") else None)

-- the request of the words, the program's own name first: none where the command refuses them or the options are no request
unfoldable pub request_of : List Text → Option Asked
request_of words = if is_empty (fault_of sigaudit words) then asked_for (λ name. first_of (codes name) (matches_of sigaudit words)) else None

-- ---- For contracts alone

-- an option that takes one value
abbrev pub option_rule : Text → Rule
option_rule name = record (new_rule name) { long = Some name; action = Some Set }

-- the errors that the command finds in the words
unfoldable pub faults : List Text → Kinds
faults words = fault_of sigaudit words

-- what the words match of the command's options
unfoldable pub rows : List Text → List Row
rows words = matches_of sigaudit words

-- the values of the nine options
pub record Given : Type 0 where
  pub config : Option Text
  pub script : Option Text
  pub rule : Option Text
  pub at : Option Text
  pub count : Option Text
  pub signal : Option Text
  pub hour : Option Text
  pub pack : Option Text
  pub demo : Option Text

-- the values that the words give to the nine options
abbrev pub given_by : List Row → Given
given_by found = record {
  config = first_of (codes "config") found;
  script = first_of (codes "script") found;
  rule = first_of (codes "rule") found;
  at = first_of (codes "at") found;
  count = first_of (codes "count") found;
  signal = first_of (codes "signal") found;
  hour = first_of (codes "hour") found;
  pack = first_of (codes "pack") found;
  demo = first_of (codes "demo") found;
}

-- the fillings at a rule and at a stamp, where both are readable
abbrev pub pairs_asked : Text → Text → Text → Text → Option Asked
pairs_asked config script rule at =
    if is_stamp at then option_map (λ k. for_pairs config script k at) (number_of 1 6 999999 rule) else None

-- the count of this file, signal and hour, where the last two are readable
abbrev pub count_asked : Text → Text → Text → Option Asked
count_asked file signal hour = option_map (λ at. for_count file signal at.0 at.1) (hour_asked signal hour)

-- the packed bytes of this file, signal and hour, where the last two are readable
abbrev pub pack_asked : Text → Text → Text → Option Asked
pack_asked file signal hour = option_map (λ at. for_pack file signal at.0 at.1) (hour_asked signal hour)

-- the demonstration of so many hours, where the text says 1 to 168
abbrev pub demo_asked : Text → Option Asked
demo_asked text = option_and_then (λ hours. if hours == 0 then None else Some (for_demo hours)) (number_of 1 3 168 text)

-- none of the options that go with one file, or with the demonstration, has a value
abbrev pub is_of_script : Given → Bool
is_of_script g = is_none g.count && is_none g.signal && is_none g.hour && is_none g.pack && is_none g.demo

-- none of the options that go with a script has a value
abbrev pub is_of_file : Given → Bool
is_of_file g = is_none g.config && is_none g.script && is_none g.rule && is_none g.at

-- the request of exactly the options that have values
unfoldable pub asked_given : Given → Option Asked
asked_given g =
    if is_of_script g then script_asked g.config g.script g.rule g.at
    else (if is_of_file g then file_asked g.count g.signal g.hour g.pack g.demo else None)

-- what the code's request asks for
abbrev pub seen : Request → Asked
seen (code.Run config script) = for_run config.now script.now
seen (code.Pairs config script rule at) = for_pairs config.now script.now rule at.now
seen (code.Count file signal day hour) = for_count file.now signal.now day hour
seen (code.Pack file signal day hour) = for_pack file.now signal.now day hour
seen (code.Demo hours) = for_demo hours

-- the answer is the request of the words, or Usage where there is none, unless memory ran out
abbrev pub Answers : Result Request Refused → Option Asked → Type 0
Answers (Ok r) asked = asked ≡ Some (seen r)
Answers (Err Usage) asked = asked ≡ None
Answers (Err Memory) asked = Unit {0}

abbrev pub text_of : Option (Bor Text) → Option Text
text_of = option_map (λ s. s.now)

-- the values of the code's options
abbrev pub given_in : Options → Given
given_in o = record {
  config = text_of o.config;
  script = text_of o.script;
  rule = text_of o.rule;
  at = text_of o.at;
  count = text_of o.count;
  signal = text_of o.signal;
  hour = text_of o.hour;
  pack = text_of o.pack;
  demo = text_of o.demo;
}

-- the matches are those of the words, or there is no request, unless memory ran out
abbrev pub Parses : Result ArgMatches Refused → List Text → Type 0
Parses (Ok m) words = (faults words ≡ []) × (rows_of (found_of m) ≡ rows words)
Parses (Err Usage) words = request_of words ≡ None
Parses (Err Memory) words = Unit {0}

-- a stamp, a signal, a day, an hour and a number of hours that are named are ones that there can be
abbrev pub IsReadable : Request → Type 0
IsReadable (code.Run config script) = Unit {0}
IsReadable (code.Pairs config script rule at) = is_stamp at.now ≡ true
IsReadable (code.Count file signal day hour) = IsDay day × (hour < 24) × (is_signal signal.now ≡ true)
IsReadable (code.Pack file signal day hour) = IsDay day × (hour < 24) × (is_signal signal.now ≡ true)
IsReadable (code.Demo hours) = (1 ≤ hours) × (hours ≤ 168)
