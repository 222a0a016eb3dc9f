-- What it means that a broken line is sturdy.
use Rattle.std.specs.Prelude.{◌≡◌, ◌≢◌, ◌↔◌, ◌⊎◌, ℕ, ◌<◌, ◌≤◌, pos, true, false, Some, length, take, slice_index_or}
use Rattle.colour_machine.specs.Rules.{Goes}
use Rattle.reach.specs.Runs.{State}
use Rattle.reach.specs.Tests.{InBound}
use Rattle.board.specs.History.{events_at}
use Rattle.board.specs.Verdicts.{Keeps}
use Rattle.signal_log.specs.Log.{Log, track_at, window_end}
use Rattle.signal_log.specs.States.{IsAfterEvents, IsAtEndOf}
use Rattle.lost_rows.specs.Marked.{LosesRows, MarkedHistory, plain, told}
use Rattle.lost_rows.specs.Lines.{ClauseLine, ComesBefore, ExplainsClause, ExplainsInterval, IntervalLine, IntervalRule, IsSturdy, no_event, tenth_of}

-- the line stands before a held row: its tenth is known and in the window, and so many rows of the tenth come before the row
pub record IsBeforeRow (log : Log) (line : IntervalLine) : Type 0 where
  pub within : line.at < window_end log
  pub is_known : log.known line.at ≡ true
  pub row : line.before < length (events_at log.rows line.at)

-- in the history the line's row has this place, from 0, among the events of its tenth
pub record IsRowOf (line : IntervalLine) (h : MarkedHistory) (p : ℕ) : Type 0 where
  pub within : p < length (tenth_of h line.at)
  pub held : (slice_index_or (tenth_of h line.at) p no_event).lost ≡ false
  pub before : length (told (take p (tenth_of h line.at))) ≡ line.before

-- in the history the rule is broken at the event with this place among those of tenth x: the event ends the rule's colour, and the colour's age doesn't meet the bound
pub record BrokenInHistory (log : Log) (r : IntervalRule) (h : MarkedHistory) (x p : ℕ) : Type 0 where
  pub state : State
  pub comes : IsAfterEvents log (plain h) r.channel x p state
  pub colour : state.colour ≡ r.colour
  pub letter : ℕ
  pub is_letter : (track_at log r.channel).letter (slice_index_or (tenth_of h x) p no_event).event.code (slice_index_or (tenth_of h x) p no_event).event.param ≡ Some letter
  pub next : ℕ
  pub goes : Goes (track_at log r.channel).rules state.colour letter next
  pub leaves : next ≢ state.colour
  pub unmet : InBound r.bound (pos x) state.entry → ⊥

-- it is broken at the line's row, which has this place, or at a lost row before it
abbrev pub BrokenUpTo : Log → IntervalLine → MarkedHistory → ℕ → Type 0
BrokenUpTo log line h p = BrokenInHistory log line.rule h line.at p ⊎ ((y q : ℕ) × ComesBefore y q line.at p × (q < length (tenth_of h y)) × ((slice_index_or (tenth_of h y) q no_event).lost ≡ true) × BrokenInHistory log line.rule h y q)

-- the row of a line has one place in each history, whichever rows were lost
abbrev pub RowStands : Type 0
RowStands = (log : Log) (line : IntervalLine) (h : MarkedHistory) (k : ℕ) → IsBeforeRow log line → LosesRows log h k → (p : ℕ) × IsRowOf line h p × ((q : ℕ) → IsRowOf line h q → q ≡ p)

-- a line of an interval rule is sturdy exactly where, whatever three rows were lost or fewer, the rule was broken at the line's row or at one of them before it
abbrev pub SturdyIsBroken : Type 0
SturdyIsBroken = (log : Log) (line : IntervalLine) → line.rule.channel < length log.specs → IsSturdy (ExplainsInterval log line) ↔ ((h : MarkedHistory) (k p : ℕ) → k ≤ 3 → LosesRows log h k → IsRowOf line h p → BrokenUpTo log line h p)

-- in each history the channels have states at the end of a tenth, whichever rows were lost
abbrev pub EndsHaveStates : Type 0
EndsHaveStates = (log : Log) (h : MarkedHistory) (x k : ℕ) → x < window_end log → LosesRows log h k → (v : ℕ → State) × ((i : ℕ) → i < length log.specs → IsAtEndOf log (plain h) i x (v i))

-- a line of a clause is sturdy exactly where, whatever three rows were lost or fewer, no term of the clause held at the end of the line's tenth
abbrev pub SturdyHoldsNone : Type 0
SturdyHoldsNone = (log : Log) (line : ClauseLine) → IsSturdy (ExplainsClause log line) ↔ ((h : MarkedHistory) (k : ℕ) (v : ℕ → State) → k ≤ 3 → LosesRows log h k → ((i : ℕ) → i < length log.specs → IsAtEndOf log (plain h) i line.at (v i)) → Keeps line.terms v → ⊥)
