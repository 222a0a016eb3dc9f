-- Broken lines, explained by walks over the moves of one channel.
use Rattle.std.specs.Prelude.{◌≡◌, ◌≢◌, ◌↔◌, ◌⊎◌, ℕ, ◌+◌, ◌<◌, ◌≤◌, ℤ, pos, ◌<ℤ◌, Bool, true, Some, Option, List, [], ◌∷◌, length, take, drop, slice_index_or}
use Rattle.span_set.specs.declared.set.Span.{Span}
use Rattle.colour_machine.specs.Mask.{Has}
use Rattle.colour_machine.specs.Rules.{Goes}
use Rattle.reach.specs.Runs.{State}
use Rattle.reach.specs.Past.{Holds}
use Rattle.reach.specs.Ahead.{Admits}
use Rattle.channel_path.specs.declared.moves.Move.{Move}
use Rattle.sig_base.specs.declared.values.Row.{Row}
use Rattle.gap_map.specs.declared.stretch.Stretch.{Stretch}
use Rattle.gap_map.specs.Stretches.{FollowOn, known_at}
use Rattle.board.specs.declared.clause.Term.{Term}
use Rattle.board.specs.History.{Event, Track, events_at}
use Rattle.board.specs.Channels.{AreSpecs}
use Rattle.board.specs.Logs.{no_row}
use Rattle.board.specs.Moves.{RowsIn, own}
use Rattle.board.specs.Places.{since, upto}
use Rattle.board.specs.Verdicts.{AreWithin}
use Rattle.signal_log.specs.Log.{HasHistory, IsBeforeWindow, Log, track_at, window_end}
use Rattle.signal_log.specs.Rows.{rows_before}
use Rattle.lost_rows.specs.declared.asked.Asked.{Asked}
use Rattle.lost_rows.specs.Stills.{Spares}
use Rattle.lost_rows.specs.Walks.{ExplainedBy, IsLeast, LostWalk, WalkedFrom, WalkedTo, nothing_asked}
use Rattle.lost_rows.specs.Lines.{ClauseLine, ExplainsClause, ExplainsInterval, IntervalLine, IntervalRule, Needs}
use Rattle.lost_laws.specs.Tenths.{IsCompletedLosing, IsReachedLosing, Loses}
use Rattle.lost_laws.specs.Channels.{asked_of}

-- ---- Ranges of tenths

-- what a channel takes over a range of tenths, with lost rows, is a walk over its moves there: those of the rows and the stretches that tell of the range
abbrev pub RangeIsWalk : Type 0
RangeIsWalk = (k : Track) (known : ℕ → Bool) (given : ℕ → List Event) (r : Asked) (f t i j : ℕ) (rows : List Row) (ss : List Stretch) (s u : State) → FollowOn f t ss → RowsIn f t rows → ((x : ℕ) → f ≤ x → x < t → known x ≡ known_at ss x) → ((x : ℕ) → f ≤ x → x < t → given x ≡ events_at rows x) → Loses k known given r f t j s u ↔ LostWalk k.rules r f (own k i rows ss) t j s u

-- one range after another: the lost rows of both
abbrev pub RangesJoin : Type 0
RangesJoin = (k : Track) (known : ℕ → Bool) (given : ℕ → List Event) (r : Asked) (f x t j : ℕ) (s u : State) → f ≤ x → x ≤ t → Loses k known given r f t j s u ↔ ((a b : ℕ) × (a + b ≡ j) × ((v : State) × Loses k known given r f x a s v × Loses k known given r x t b v u))

-- ---- Parts of the window

-- the tenths from the first up to the second, and the rows and the stretches that tell of them
pub record Part : Type 0 where
  pub from : ℕ
  pub to : ℕ
  pub rows : List Row
  pub stretches : List Stretch

-- they tell of these tenths of the window what the log tells
pub record IsPart (log : Log) (p : Part) : Type 0 where
  pub within : p.to ≤ window_end log
  pub follow : FollowOn p.from p.to p.stretches
  pub rows_in : RowsIn p.from p.to p.rows
  pub known : (x : ℕ) → p.from ≤ x → x < p.to → log.known x ≡ known_at p.stretches x
  pub events : (x : ℕ) → p.from ≤ x → x < p.to → events_at log.rows x ≡ events_at p.rows x

-- the whole window
abbrev pub whole_window : Log → List Stretch → Part
whole_window log ss = record { from = 0; to = window_end log; rows = log.rows; stretches = ss }

-- a channel's moves before row n of the part, where tenth x is that of the row or the last before it, and those from the row on
abbrev pub moves_before : Track → Part → ℕ → ℕ → List Move
moves_before k p x n = own k 0 (take n p.rows) (upto x p.stretches)

abbrev pub moves_from : Track → Part → ℕ → ℕ → List Move
moves_from k p x n = own k n (drop n p.rows) (since x p.stretches)

-- the states at the part's end are those to which its moves lead from those at its begin, with the rows lost in both
abbrev pub ReachedOverPart : Type 0
ReachedOverPart = (log : Log) (p : Part) (r : Asked) (i n j : ℕ) (u : State) → IsPart log p → IsReachedLosing log r i p.to j u ↔ WalkedFrom (track_at log i).rules r (λ c s. IsReachedLosing log r i p.from c s) p.from (own (track_at log i) n p.rows p.stretches) p.to j u

-- and a state at its begin can go on to the window's end where its moves lead to one at its end that can
abbrev pub CompletedOverPart : Type 0
CompletedOverPart = (log : Log) (p : Part) (i n j : ℕ) (s : State) → IsPart log p → IsCompletedLosing log i p.from j s ↔ WalkedTo (track_at log i).rules (λ c u. IsCompletedLosing log i p.to c u) p.from (own (track_at log i) n p.rows p.stretches) p.to j s

-- before the window no row is lost, nor after it
abbrev pub NoneLostOutside : Type 0
NoneLostOutside = (log : Log) (r : Asked) (i j : ℕ) (s : State) → (IsReachedLosing log r i 0 j s ↔ ((j ≡ 0) × IsBeforeWindow (track_at log i).rules s)) × (IsCompletedLosing log i (window_end log) j s ↔ (j ≡ 0))

-- ---- Interval rules

-- row n of the part
abbrev pub row_in : Part → ℕ → Row
row_in p n = slice_index_or p.rows n no_row

-- the line of the rule before it
abbrev pub line_in : Part → IntervalRule → ℕ → IntervalLine
line_in p rule n = record { rule = rule; at = (row_in p n).at; before = rows_before p.rows n }

-- the row is known, and one of the rule's channel that ends the rule's colour
pub record EndsColour (log : Log) (p : Part) (rule : IntervalRule) (n : ℕ) : Type 0 where
  pub channel : rule.channel < length log.specs
  pub within : n < length p.rows
  pub is_known : log.known (row_in p n).at ≡ true
  pub letter : ℕ
  pub is_letter : (track_at log rule.channel).letter (row_in p n).code (row_in p n).param ≡ Some letter
  pub next : ℕ
  pub goes : Goes (track_at log rule.channel).rules rule.colour letter next
  pub leaves : next ≢ rule.colour

-- so many lost rows in the stills between the moves of the part, and before and after the part, let the channel be before the row in a state that keeps the rule; those before the row keep it too
abbrev pub RowWalk : Log → Part → IntervalRule → ℕ → ℕ → Type 0
RowWalk log p rule n j = (a b : ℕ) × (a + b ≡ j) × ((v : State) × WalkedFrom (track_at log rule.channel).rules (asked_of rule) (λ c s. IsReachedLosing log (asked_of rule) rule.channel p.from c s) p.from (moves_before (track_at log rule.channel) p (row_in p n).at n) ((row_in p n).at + 1) a v × Spares (asked_of rule) (pos (row_in p n).at) v × WalkedTo (track_at log rule.channel).rules (λ c u. IsCompletedLosing log rule.channel p.to c u) ((row_in p n).at + 1) (moves_from (track_at log rule.channel) p (row_in p n).at n) p.to b v)

-- a line of an interval rule needs as many rows as the walk over its channel's moves of a part says
abbrev pub NeedsOfRow : Type 0
NeedsOfRow = (log : Log) (p : Part) (rule : IntervalRule) (n k : ℕ) → AreSpecs log.specs → HasHistory log → IsPart log p → EndsColour log p rule n → Needs (ExplainsInterval log (line_in p rule n)) k ↔ IsLeast (RowWalk log p rule n) k

-- ---- Clauses

-- tenth x is known, and the first n rows of the part are those up to its end
pub record IsKnownEnd (log : Log) (p : Part) (x n : ℕ) : Type 0 where
  pub first : p.from ≤ x
  pub last : x < p.to
  pub is_known : log.known x ≡ true
  pub before : RowsIn p.from (x + 1) (take n p.rows)
  pub after : RowsIn (x + 1) p.to (drop n p.rows)

-- so many lost rows in the stills between the moves of the term's channel, and before and after the part, let it end the tenth in one of the term's colours
abbrev pub TermWalk : Log → Part → ℕ → ℕ → ℕ → Term → Type 0
TermWalk log p x n j c = (a b : ℕ) × (a + b ≡ j) × ((v : State) × WalkedFrom (track_at log c.spec).rules nothing_asked (λ d s. IsReachedLosing log nothing_asked c.spec p.from d s) p.from (moves_before (track_at log c.spec) p x n) (x + 1) a v × Has c.colours v.colour × WalkedTo (track_at log c.spec).rules (λ d u. IsCompletedLosing log c.spec p.to d u) (x + 1) (moves_from (track_at log c.spec) p x n) p.to b v)

-- so for one of the terms
abbrev pub SomeTerm : (Term → Type 0) → List Term → Type 0
SomeTerm Explains [] = ⊥
SomeTerm Explains (c ∷ cs) = Explains c ⊎ SomeTerm Explains cs

-- a line of a clause needs as many rows as the walks over the moves of its terms' channels say
abbrev pub NeedsOfEnd : Type 0
NeedsOfEnd = (log : Log) (p : Part) (line : ClauseLine) (n k : ℕ) → AreSpecs log.specs → HasHistory log → IsPart log p → IsKnownEnd log p line.at n → AreWithin (length log.specs) line.terms → Needs (ExplainsClause log line) k ↔ IsLeast (λ j. SomeTerm (TermWalk log p line.at n j) line.terms) k

-- ---- The whole window, from sets of states to latest entries

-- of channel i the sets hold the states before the window, and each state at the window's end is admitted
pub record AreEndsOf (log : Log) (i : ℕ) (before : List (List Span)) (after : List (Option ℤ)) : Type 0 where
  pub starts : (s : State) → Holds before s ↔ IsBeforeWindow (track_at log i).rules s
  pub ends : (s : State) → Admits after s ↔ ((s.colour < (track_at log i).rules.colours) × (s.entry <ℤ pos (window_end log)))

-- what explains the line between them
abbrev pub RowExplained : Log → List Stretch → List (List Span) → List (Option ℤ) → IntervalRule → ℕ → ℕ → Type 0
RowExplained log ss before after rule n j = ExplainedBy (track_at log rule.channel).rules (asked_of rule) before after 0 (moves_before (track_at log rule.channel) (whole_window log ss) (row_in (whole_window log ss) n).at n) (row_in (whole_window log ss) n).at (moves_from (track_at log rule.channel) (whole_window log ss) (row_in (whole_window log ss) n).at n) (window_end log) (Spares (asked_of rule) (pos (row_in (whole_window log ss) n).at)) j

abbrev pub NeedsOfWindowRow : Type 0
NeedsOfWindowRow = (log : Log) (ss : List Stretch) (before : List (List Span)) (after : List (Option ℤ)) (rule : IntervalRule) (n k : ℕ) → AreSpecs log.specs → HasHistory log → IsPart log (whole_window log ss) → EndsColour log (whole_window log ss) rule n → AreEndsOf log rule.channel before after → Needs (ExplainsInterval log (line_in (whole_window log ss) rule n)) k ↔ IsLeast (RowExplained log ss before after rule n) k

-- and that of a clause at the end of tenth x for a term
abbrev pub TermExplained : Log → List Stretch → (ℕ → List (List Span)) → (ℕ → List (Option ℤ)) → ℕ → ℕ → ℕ → Term → Type 0
TermExplained log ss before after x n j c = ExplainedBy (track_at log c.spec).rules nothing_asked (before c.spec) (after c.spec) 0 (moves_before (track_at log c.spec) (whole_window log ss) x n) x (moves_from (track_at log c.spec) (whole_window log ss) x n) (window_end log) (λ v. Has c.colours v.colour) j

abbrev pub NeedsOfWindowEnd : Type 0
NeedsOfWindowEnd = (log : Log) (ss : List Stretch) (before : ℕ → List (List Span)) (after : ℕ → List (Option ℤ)) (line : ClauseLine) (n k : ℕ) → AreSpecs log.specs → HasHistory log → IsPart log (whole_window log ss) → IsKnownEnd log (whole_window log ss) line.at n → AreWithin (length log.specs) line.terms → ((i : ℕ) → i < length log.specs → AreEndsOf log i (before i) (after i)) → Needs (ExplainsClause log line) k ↔ IsLeast (λ j. SomeTerm (TermExplained log ss before after line.at n j) line.terms) k
