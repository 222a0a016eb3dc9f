-- Verdicts on obligations, by the states that some history that agrees has at their places.
use Rattle.std.specs.Prelude.{◌≡◌, ◌≢◌, ℕ, ◌<◌, pos, Some, List, [], length, slice_index_or}
use Rattle.sig_base.specs.declared.values.Row.{Row}
use Rattle.sig_base.specs.declared.values.Verdict.{Verdict}
use Rattle.sig_base.specs.declared.values.Verdict.TheVariants.{Idle, Kept, Broken, Undecided}
use Rattle.channel_tables.specs.declared.spec.Spec.{Spec}
use Rattle.channel_tables.specs.Letters.{letter_in_table}
use Rattle.channel_tables.specs.Spec.{rules_of}
use Rattle.gap_map.specs.Stretches.{known_at}
use Rattle.reach.specs.Runs.{State}
use Rattle.reach.specs.Past.{Holds}
use Rattle.reach.specs.Ahead.{Admits}
use Rattle.reach.specs.Tests.{InBound}
use Rattle.ring_config.specs.declared.items.IntervalItem.{IntervalItem}
use Rattle.board.specs.Channels.{track}
use Rattle.board.specs.History.{Agreeing, events_at}
use Rattle.board.specs.Logs.{HourLog, first_tenth, end_tenth, no_spec, no_row}
use Rattle.board.specs.Verdicts.{IsVerdict, Keeps, MayPassRow, PassStates}
use Rattle.rule_audit.specs.declared.rules.Rule.{Rule}
use Rattle.rule_audit.specs.declared.rules.Rule.TheVariants.{Interval}
use Rattle.rule_audit.specs.declared.lines.Place.{Place}
use Rattle.rule_audit.specs.declared.lines.Place.TheVariants.{BeforeRow, EndOfTenth}
use Rattle.rule_audit.specs.Obligations.{Obligation, terms_of}

-- ---- interval rules

-- before the row the channel has the rule's colour, and the row, which is one of the channel, changes it to another one: an interval ends there
abbrev pub Closes : Spec → Row → IntervalItem → State → Type 0
Closes s r item v = (v.colour ≡ item.colour) × ((l : ℕ) × (letter_in_table r.code r.param ≡ Some l) × ((d : ℕ) × ((rules_of s).next item.colour l ≡ Some d) × (d ≢ item.colour)))

-- where the interval ends with the row, the colour's age then meets the rule's bound
abbrev pub KeepsInterval : Spec → Row → IntervalItem → State → Type 0
KeepsInterval s r item v = Closes s r item v → InBound item.bound (pos r.at) v.entry

-- the verdict on an interval, by the states P that the channel may have before the row, by C in which the interval ends there and by K in which the rule is kept: idle where it ends in none; else kept in all, broken in none, or undecided
abbrev pub IsIntervalVerdict : Verdict → (State → Type 0) → (State → Type 0) → (State → Type 0) → Type 0
IsIntervalVerdict Idle P C K = (v : State) → P v → C v → ⊥
IsIntervalVerdict Kept P C K = ((v : State) × P v × C v) × ((v : State) → P v → K v)
IsIntervalVerdict Broken P C K = ((v : State) × P v × C v) × ((v : State) → P v → K v → ⊥)
IsIntervalVerdict Undecided P C K = ((v : State) × P v × K v) × ((v : State) × P v × (K v → ⊥))

-- For contracts alone: the row, which is one of the channel, changes its colour away from this one
abbrev pub Leaves : Spec → Row → ℕ → Type 0
Leaves s r colour = (l : ℕ) × (letter_in_table r.code r.param ≡ Some l) × ((d : ℕ) × ((rules_of s).next colour l ≡ Some d) × (d ≢ colour))

-- ---- any rule

-- which states the histories that agree may have: of one channel before a row, and of all channels together at the end of a tenth
pub record States : Type 1 where
  pub before_row : ℕ → ℕ → State → Type 0
  pub at_end : ℕ → (ℕ → State) → Type 0

-- the verdict on a rule at a place of a tenth; an interval rule is judged before rows alone, and a clause at the end of tenths alone
abbrev pub IsRuleVerdict : States → List Spec → List Row → ℕ → Place → Rule → Verdict → Type 0
IsRuleVerdict states specs rows t (BeforeRow n) (Interval item) x =
    IsIntervalVerdict x (states.before_row n item.spec) (Closes (slice_index_or specs item.spec no_spec) (slice_index_or rows n no_row) item)
    (KeepsInterval (slice_index_or specs item.spec no_spec) (slice_index_or rows n no_row) item)
IsRuleVerdict states specs rows t (BeforeRow n) rule x = ⊥
IsRuleVerdict states specs rows t EndOfTenth (Interval item) x = ⊥
IsRuleVerdict states specs rows t EndOfTenth rule x = IsVerdict x (states.at_end t) (Keeps (terms_of rule))

-- the states of the histories of an hour that agree with it
abbrev pub states_of : HourLog → States
states_of log = record { before_row = MayPassRow log; at_end = PassStates log }

-- the verdict on an obligation of an hour
abbrev pub HasVerdict : HourLog → Obligation → Verdict → Type 0
HasVerdict log o x = IsRuleVerdict (states_of log) log.specs log.rows o.at o.place o.rule x

-- some history of the hour agrees: each channel has a run that agrees, from a state of before the hour to one that is admitted after it
abbrev pub HasRuns : HourLog → Type 0
HasRuns log = (i : ℕ) → i < length log.specs → (s : State) × Holds (slice_index_or log.before i []) s × ((u : State) × Agreeing (track (slice_index_or log.specs i no_spec)) (known_at log.stretches) (events_at log.rows) (first_tenth log.hour) (end_tenth log.hour) s u × Admits (slice_index_or log.after i []) u)
