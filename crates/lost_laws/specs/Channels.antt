-- Broken lines, explained by what one channel may have done.
use Rattle.std.specs.Prelude.{◌≡◌, ◌↔◌, ℕ, ◌<◌, ◌≤◌, Some, length, slice_index_or}
use Rattle.reach.specs.Runs.{State}
use Rattle.board.specs.History.{Event, events_at}
use Rattle.board.specs.Channels.{AreSpecs}
use Rattle.board.specs.Verdicts.{AreWithin, HoldOne}
use Rattle.signal_log.specs.Log.{HasHistory, Log, track_at, window_end}
use Rattle.lost_rows.specs.declared.asked.Asked.{Asked}
use Rattle.lost_rows.specs.Lines.{ClauseLine, ExplainsClause, ExplainsInterval, IntervalLine, IntervalRule, KeptAt, Needs}
use Rattle.lost_laws.specs.Sturdy.{IsBeforeRow}
use Rattle.lost_laws.specs.Tenths.{MayBeAtEndLosing, MayBeBeforeLosing}

-- what the rule asks of lost rows before a line
abbrev pub asked_of : IntervalRule → Asked
asked_of r = record { colour = r.colour; bound = r.bound }

-- the line's row
abbrev pub row_of : Log → IntervalLine → Event
row_of log line = slice_index_or (events_at log.rows line.at) line.before (record { code = 0; param = 0 })

-- the line stands before a held row of the rule's channel
pub record IsChannelsRow (log : Log) (line : IntervalLine) : Type 0 where
  pub channel : line.rule.channel < length log.specs
  pub row : IsBeforeRow log line
  pub letter : ℕ
  pub is_letter : (track_at log line.rule.channel).letter (row_of log line).code (row_of log line).param ≡ Some letter

-- with so many rows of the rule's channel lost, each changing its colour and keeping the rule if it comes before the line, the channel may be before the line's row in a state in which the row keeps the rule
abbrev pub ChannelExplains : Log → IntervalLine → ℕ → Type 0
ChannelExplains log line j = (v : State) × MayBeBeforeLosing log (asked_of line.rule) line.rule.channel line.at line.before j v × KeptAt log line.rule line.at (row_of log line) v

-- so many rows, or fewer
abbrev pub WithAtMost : (ℕ → Type 0) → ℕ → Type 0
WithAtMost explains n = (k : ℕ) × (k ≤ n) × explains k

-- rows of other channels, and such as change no colour, needn't be lost to explain a line of an interval rule: where at most n rows explain it, at most n of its channel do that each change the colour
abbrev pub IntervalIsOfChannel : Type 0
IntervalIsOfChannel = (log : Log) (line : IntervalLine) (n : ℕ) → IsChannelsRow log line → WithAtMost (ExplainsInterval log line) n → WithAtMost (ChannelExplains log line) n

-- nor to explain one of a clause: then at most n of one term's channel, each changing its colour, let it end the tenth in one of the term's colours
abbrev pub ClauseIsOfChannels : Type 0
ClauseIsOfChannels = (log : Log) (line : ClauseLine) (n : ℕ) → AreWithin (length log.specs) line.terms → line.at < window_end log → WithAtMost (ExplainsClause log line) n → WithAtMost (λ j. HoldOne (MayBeAtEndLosing log line.at j) line.terms) n

-- and each of one channel that does is one of all: the other channels go on as in some history that agrees with the log
abbrev pub ChannelIsEnough : Type 0
ChannelIsEnough = (log : Log) (line : IntervalLine) (j : ℕ) → AreSpecs log.specs → HasHistory log → IsChannelsRow log line → ChannelExplains log line j → ExplainsInterval log line j

abbrev pub TermIsEnough : Type 0
TermIsEnough = (log : Log) (line : ClauseLine) (j : ℕ) → AreSpecs log.specs → HasHistory log → AreWithin (length log.specs) line.terms → line.at < window_end log → HoldOne (MayBeAtEndLosing log line.at j) line.terms → ExplainsClause log line j

-- so a line of an interval rule needs as many rows as its channel alone does
abbrev pub NeedsOfChannel : Type 0
NeedsOfChannel = (log : Log) (line : IntervalLine) (n : ℕ) → AreSpecs log.specs → HasHistory log → IsChannelsRow log line → Needs (ExplainsInterval log line) n ↔ Needs (ChannelExplains log line) n

-- and one of a clause as many as the one of its terms' channels that needs the fewest
abbrev pub NeedsOfTerms : Type 0
NeedsOfTerms = (log : Log) (line : ClauseLine) (n : ℕ) → AreSpecs log.specs → HasHistory log → AreWithin (length log.specs) line.terms → line.at < window_end log → Needs (ExplainsClause log line) n ↔ Needs (λ j. HoldOne (MayBeAtEndLosing log line.at j) line.terms) n
