-- Broken lines, and how many lost rows explain one.
use Rattle.std.specs.Prelude.{◌≡◌, ◌≢◌, ◌⊎◌, ℕ, ◌<◌, ◌≤◌, true, false, pos, Some, List, [], length, take, slice_index_or}
use Rattle.colour_machine.specs.Rules.{Goes}
use Rattle.reach.specs.Runs.{State}
use Rattle.reach.specs.Tests.{InBound}
use Rattle.reach.specs.declared.seen.AgeBound.{AgeBound}
use Rattle.board.specs.declared.clause.Term.{Term}
use Rattle.board.specs.History.{Event}
use Rattle.board.specs.Verdicts.{Keeps}
use Rattle.signal_log.specs.Log.{Log, track_at}
use Rattle.signal_log.specs.States.{IsAfterEvents, IsAtEndOf}
use Rattle.lost_rows.specs.Marked.{LosesRows, Marked, MarkedHistory, plain, told}

-- stands where a tenth has no such event
abbrev pub no_event : Marked
no_event = record { event = record { code = 0; param = 0 }; lost = false }

-- the events of a tenth of the history
abbrev pub tenth_of : MarkedHistory → ℕ → List Marked
tenth_of h x = slice_index_or h.tenths x []

-- an interval rule of one channel: a colour, and what its age must be where a row of the channel ends it
pub record IntervalRule : Type 0 where
  pub channel : ℕ
  pub colour : ℕ
  pub bound : AgeBound

-- the event at the tenth, which comes in this state of the rule's channel, doesn't end the rule's colour, or the colour's age meets the bound
abbrev pub KeptAt : Log → IntervalRule → ℕ → Event → State → Type 0
KeptAt log r x e v = v.colour ≡ r.colour → (l d : ℕ) → (track_at log r.channel).letter e.code e.param ≡ Some l → Goes (track_at log r.channel).rules v.colour l d → d ≢ v.colour → InBound r.bound (pos x) v.entry

-- in the history the rule is kept at the event with this place, from 0, among those of tenth x
abbrev pub KeptInHistory : Log → IntervalRule → MarkedHistory → ℕ → ℕ → Type 0
KeptInHistory log r h x p = (v : State) → IsAfterEvents log (plain h) r.channel x p v → KeptAt log r x (slice_index_or (tenth_of h x) p no_event).event v

-- place q of tenth y comes before place p of tenth x
abbrev pub ComesBefore : ℕ → ℕ → ℕ → ℕ → Type 0
ComesBefore y q x p = (y < x) ⊎ ((y ≡ x) × (q < p))

-- a line of an interval rule, before a row: the rule, the row's tenth, and how many rows of the tenth come before the row
pub record IntervalLine : Type 0 where
  pub rule : IntervalRule
  pub at : ℕ
  pub before : ℕ

-- a line of a clause, at the end of a tenth
pub record ClauseLine : Type 0 where
  pub terms : List Term
  pub at : ℕ

-- k lost rows explain the line of an interval rule: some history of which k rows were lost keeps the rule at the line's row, and at each lost row before it
abbrev pub ExplainsInterval : Log → IntervalLine → ℕ → Type 0
ExplainsInterval log line k = (h : MarkedHistory) × LosesRows log h k × ((p : ℕ) × (p < length (tenth_of h line.at)) × ((slice_index_or (tenth_of h line.at) p no_event).lost ≡ false) × (length (told (take p (tenth_of h line.at))) ≡ line.before) × KeptInHistory log line.rule h line.at p × ((y q : ℕ) → ComesBefore y q line.at p → q < length (tenth_of h y) → (slice_index_or (tenth_of h y) q no_event).lost ≡ true → KeptInHistory log line.rule h y q))

-- k lost rows explain the line of a clause: in some history of which k rows were lost a term of the clause holds at the end of the line's tenth
abbrev pub ExplainsClause : Log → ClauseLine → ℕ → Type 0
ExplainsClause log line k = (h : MarkedHistory) × LosesRows log h k × ((v : ℕ → State) × ((i : ℕ) → i < length log.specs → IsAtEndOf log (plain h) i line.at (v i)) × Keeps line.terms v)

-- a line needs n rows: so many explain it, and none fewer do
abbrev pub Needs : (ℕ → Type 0) → ℕ → Type 0
Needs explains n = explains n × ((k : ℕ) → k < n → explains k → ⊥)

-- a line is sturdy: no three lost rows or fewer explain it
abbrev pub IsSturdy : (ℕ → Type 0) → Type 0
IsSturdy explains = (k : ℕ) → k ≤ 3 → explains k → ⊥
