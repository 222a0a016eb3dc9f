-- A run over the place, hour by hour.
use Rattle.std.specs.Prelude.{◌≡◌, ℕ, ◌+◌, ◌/◌, ◌<◌, ◌≤◌, ◌^◌, ℤ, pos, negsuc, ◌≤ℤ◌, Option, Some, None, List, [], length, reverse, take, slice_index_or}
use Rattle.span_set.specs.declared.set.Span.{Span}
use Rattle.sig_base.specs.declared.values.Row.{Row}
use Rattle.reach.specs.Runs.{State}
use Rattle.reach.specs.Past.{Holds}
use Rattle.reach.specs.Ahead.{Admits}
use Rattle.channel_tables.specs.declared.spec.Spec.{Spec}
use Rattle.channel_tables.specs.Spec.{rules_of}
use Rattle.hour_store.specs.Store.{Store, is_known, known_rows}
use Rattle.gap_map.specs.Stretches.{known_at}
use Rattle.channel_path.specs.Walks.{EnteredBefore}
use Rattle.board.specs.Channels.{track}
use Rattle.board.specs.History.{events_at}
use Rattle.board.specs.Logs.{first_tenth}
use Rattle.board.specs.Moves.{count_before}
use Rattle.gap_ways.specs.Choices.{Answers}
use Rattle.gap_ways.specs.Ways.{NoneOlder, state_of}
use Rattle.channel_ways.specs.declared.passage.Passing.{Passing}
use Rattle.channel_ways.specs.Moves.{IsAlone}
use Rattle.signal_log.specs.States.{IsCompleted}
use Rattle.strand_search.specs.declared.search.Asked.{Asked}
use Rattle.strand_search.specs.declared.search.Points.{Points}
use Rattle.strand_search.specs.declared.cut.Cut.{Cut}
use Rattle.strand_search.specs.declared.crossing.Crossing.{Crossing}
use Rattle.strand_search.specs.Parts.{GoOn, IsPartOf, StandsAlone, moves_over}
use Rattle.strand_search.specs.Pieces.{AddsAlike, AddsBack, AddsPiece, Piece, on_from, up_to}
use Rattle.strand_search.specs.Points.{log_alone}
use Rattle.strand_search.specs.Runs.{rows_around, test_of}

-- after how many of the rows of its hour the place is
abbrev pub rows_to : List Row → ℕ → Option ℕ → ℕ
rows_to rows x None = count_before (x + 1) rows
rows_to rows x (Some n) = n

-- after how many events of its tenth the place is
abbrev pub events_to : Store → Asked → ℕ
events_to s asked = length (events_at (take (rows_to (rows_around s asked.at) asked.at asked.before) (rows_around s asked.at)) asked.at)

-- the rows lead the channel from state a at tenth f to state v at the place
abbrev pub LeadsTo : Spec → Store → Asked → ℕ → List Row → State → State → Type 0
LeadsTo d s asked f fills a v = Piece (track d) (is_known s) (up_to (events_at (known_rows s)) asked.at (events_to s asked)) f (asked.at + 1) fills a v

-- they lead it from state v at the place to state b at tenth t
abbrev pub LeadsOn : Spec → Store → Asked → ℕ → List Row → State → State → Type 0
LeadsOn d s asked t fills v b = Piece (track d) (is_known s) (on_from (events_at (known_rows s)) asked.at (events_to s asked)) asked.at t fills v b

-- the state at point k stands alone, and the rest of the window can be met from it
pub record GoesOn (d : Spec) (s : Store) (k : ℕ) (here : Passing) : Type 0 where
  pub alone : StandsAlone (rules_of d) (first_tenth k) here
  pub completed : IsCompleted (log_alone d s) 0 (first_tenth k) (state_of here.state)
  pub colour : here.state.colour < (rules_of d).colours

-- what was added to the rows leads the channel with the known rows from state a at one point to state b at another
abbrev pub AddsHours : Spec → Store → ℕ → ℕ → List Row → List Row → State → State → Type 0
AddsHours d s from to old new a b = AddsPiece (track d) (is_known s) (events_at (known_rows s)) (first_tenth from) (first_tenth to) old new a b

-- the same, last first, to a state that is alike to b
abbrev pub AddsHoursBack : Spec → Store → ℕ → ℕ → List Row → List Row → State → State → Type 0
AddsHoursBack d s from to old new a b = AddsAlike (track d) (is_known s) (events_at (known_rows s)) (first_tenth from) (first_tenth to) (pos (first_tenth to)) old new a b

-- what is before a cut at the place, and what is after it
pub record FitsCut (d : Spec) (asked : Asked) (before : List (List Span)) (cut : Cut) (after : List (Option ℤ)) : Type 0 where
  pub from : ℕ
  pub to : ℕ
  pub left : IsPartOf from (asked.at + 1) cut.left
  pub right : IsPartOf asked.at to cut.right
  pub onward : GoOn (rules_of d) (asked.at + 1) (moves_over d cut.right)
  pub end : to ≤ 2 ^ 32
  pub soon : asked.at < to
  pub early : EnteredBefore before from
  pub none_older : NoneOlder before
  pub some : (s : State) × Holds before s
  pub colours : length before ≡ (rules_of d).colours
  pub ahead : length after ≡ (rules_of d).colours

-- a way over the cut, from one of the states before it to one after it that can be completed
pub record IsCrossing (d : Spec) (asked : Asked) (before : List (List Span)) (cut : Cut) (after : List (Option ℤ)) (way : Crossing) : Type 0 where
  pub held : Holds before (state_of way.before)
  pub admitted : Admits after (state_of way.after.state)
  pub alone : IsAlone way.after.only way.after.state
  pub colours : length way.after.only ≡ (rules_of d).colours
  pub late : negsuc (2 ^ 39) ≤ℤ way.after.state.entry
  pub here : State
  pub answers : Answers asked.met (test_of asked) here
  pub left : (f t : ℕ) → IsPartOf f t cut.left → AddsBack (track d) (known_at cut.left.stretches.items) (events_at cut.left.rows.now) f t [] way.earlier.items (state_of way.before) here
  pub right : (f t : ℕ) → IsPartOf f t cut.right → AddsPiece (track d) (known_at cut.right.stretches.items) (events_at cut.right.rows.now) f t [] way.later.items here (state_of way.after.state)

-- a way over the hour of the place, from one of the states at the point before it to one at the point after it from which the rest of the window can be met
pub record IsCrossed (d : Spec) (s : Store) (asked : Asked) (before : List (List (List Span))) (way : Crossing) : Type 0 where
  pub held : Holds (slice_index_or before 0 []) (state_of way.before)
  pub goes_on : GoesOn d s (asked.at / 36000 + 1) way.after
  pub here : State
  pub answers : Answers asked.met (test_of asked) here
  pub left : LeadsTo d s asked (first_tenth (asked.at / 36000)) (reverse way.earlier.items) (state_of way.before) here
  pub right : LeadsOn d s asked (first_tenth (asked.at / 36000 + 1)) way.later.items here (state_of way.after.state)

-- the same, from the states at the points around the hour
abbrev pub IsCrossedFrom : Spec → Store → Asked → Points → Crossing → Type 0
IsCrossedFrom d s asked points way = IsCrossed d s asked (slice_index_or points.pasts.items (asked.at / 36000) []) way
