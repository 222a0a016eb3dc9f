-- Logs of which one tells no more than the other.
use Rattle.std.specs.Prelude.{◌≡◌, ℕ, ◌<◌, ◌≤◌, true, length}
use Rattle.board.specs.History.{AreEvents, Track, events_at}
use Rattle.signal_log.specs.Log.{Log, track_at}
use Rattle.lost_rows.specs.Lines.{ClauseLine, ExplainsClause, ExplainsInterval, IntervalLine}
use Rattle.lost_laws.specs.Channels.{WithAtMost}

-- both tracks have the same letters and the same machine, but that a floor of the first may be lower
pub record IsEased (less more : Track) : Type 0 where
  pub letter : (code param : ℕ) → less.letter code param ≡ more.letter code param
  pub colours : less.rules.colours ≡ more.rules.colours
  pub letters : less.rules.letters ≡ more.rules.letters
  pub next : (c l : ℕ) → less.rules.next c l ≡ more.rules.next c l
  pub floor : (c : ℕ) → less.rules.floor c ≤ more.rules.floor c

-- the first log tells no more than the second: as many hours and channels, no more known tenths, at those the same rows, and no higher floors
pub record TellsLess (less more : Log) : Type 0 where
  pub hours : less.hours ≡ more.hours
  pub channels : length less.specs ≡ length more.specs
  pub eased : (i : ℕ) → i < length more.specs → IsEased (track_at less i) (track_at more i)
  pub known : (t : ℕ) → less.known t ≡ true → more.known t ≡ true
  pub rows : (t : ℕ) → less.known t ≡ true → events_at less.rows t ≡ events_at more.rows t
  pub are_events : (t : ℕ) → more.known t ≡ true → AreEvents (events_at more.rows t)

-- where n lost rows or fewer explain a line of a log, they do where less is known or floors are lower: no line needs fewer rows because more is known
abbrev pub LessNeedsNoMore : Type 0
LessNeedsNoMore = (less more : Log) (line : IntervalLine) (n : ℕ) → TellsLess less more → line.rule.channel < length more.specs → less.known line.at ≡ true → WithAtMost (ExplainsInterval more line) n → WithAtMost (ExplainsInterval less line) n

abbrev pub LessNeedsNoMoreAtEnds : Type 0
LessNeedsNoMoreAtEnds = (less more : Log) (line : ClauseLine) (n : ℕ) → TellsLess less more → WithAtMost (ExplainsClause more line) n → WithAtMost (ExplainsClause less line) n
