-- Runs of one channel over the whole window of a store.
use Rattle.std.specs.Prelude.{◌≡◌, ℕ, ◌+◌, ◌*◌, ◌/◌, ◌<◌, ◌≤◌, pos, true, Option, Some, None, List, [], ◌∷◌, length, take, slice_index_or}
use Rattle.sig_base.specs.declared.values.Row.{Row}
use Rattle.reach.specs.Runs.{State, Steps, state}
use Rattle.reach.specs.declared.seen.Test.{Test}
use Rattle.channel_tables.specs.declared.spec.Spec.{Spec}
use Rattle.channel_tables.specs.Spec.{rules_of}
use Rattle.hour_store.specs.Store.{Store, is_known, known_rows, rows_at}
use Rattle.board.specs.Channels.{track}
use Rattle.board.specs.History.{Agreeing, Event, letters}
use Rattle.board.specs.Logs.{no_row}
use Rattle.board.specs.Moves.{RowsIn}
use Rattle.reach.specs.declared.seen.AgeBound.{AgeBound}
use Rattle.reach.specs.declared.seen.AgeBound.TheVariants.{Any, AtLeast, AtMost}
use Rattle.signal_log.specs.Log.{IsBeforeWindow, log_of}
use Rattle.signal_log.specs.Points.{rows_or_none}
use Rattle.signal_log.specs.States.{MayBeAfter, MayBeAtEndOf}
use Rattle.gap_ways.specs.Choices.{Answers}
use Rattle.strand_search.specs.Fillings.{AreUnknown, events_of}
use Rattle.strand_search.specs.declared.search.Asked.{Asked}
use Rattle.strand_search.specs.declared.search.Found.{Found}
use Rattle.strand_search.specs.Events.{AreFew, AreLetters}
use Rattle.signal_log.specs.Rows.{rows_before}

-- the tenth after the window's last
abbrev pub end_of : Store → ℕ
end_of s = 36000 * length s.hours

-- what stands at the tenths: the known rows, and these rows at the others
abbrev pub stands : Store → List Row → ℕ → List Event
stands s fills = events_of (is_known s) (known_rows s) fills

-- what stands at the tenths from f up to t leads the channel from state a to state b
abbrev pub Leads : Spec → Store → List Row → ℕ → ℕ → State → State → Type 0
Leads d s fills f t a b = Agreeing (track d) (λ x. true) (stands s fills) f t a b

-- the rows of the hour of a tenth, none where it isn't held
abbrev pub rows_around : Store → ℕ → List Row
rows_around s x = rows_or_none (rows_at s (x / 36000))

-- what stands leads the channel from state a before the window to state v at the place: the end of tenth x, or before the row of its hour with the number
abbrev pub ComesTo : Spec → Store → List Row → ℕ → Option ℕ → State → State → Type 0
ComesTo d s fills x None a v = Leads d s fills 0 (x + 1) a v
ComesTo d s fills x (Some n) a v = (b : State) × Leads d s fills 0 x a b × Steps (track d).rules (pos x) b (letters (track d) (take (rows_before (rows_around s x) n) (stands s fills x))) v

-- some history of the channel that agrees with the store comes to the state at the place
abbrev pub MayComeTo : Spec → Store → ℕ → Option ℕ → State → Type 0
MayComeTo d s x None v = MayBeAtEndOf (log_of (d ∷ []) s) 0 x v
MayComeTo d s x (Some n) v = MayBeAfter (log_of (d ∷ []) s) 0 x (rows_before (rows_around s x) n) v

-- a place before a row is that of a row at the tenth
abbrev pub IsPlaceAt : List Row → ℕ → Option ℕ → Type 0
IsPlaceAt rows x None = Unit {0}
IsPlaceAt rows x (Some n) = (n < length rows) × ((slice_index_or rows n no_row).at ≡ x)

-- the bound tells no ages of more than an hour apart
abbrev pub TellsWithinHour : AgeBound → Type 0
TellsWithinHour Any = Unit {0}
TellsWithinHour (AtLeast n) = n ≤ 36001
TellsWithinHour (AtMost n) = n ≤ 36000

-- the place is one of a known tenth, and no ages of more than an hour are told apart
pub record IsAsked (s : Store) (asked : Asked) : Type 0 where
  pub within : asked.at < 36000 * length s.hours
  pub is_known : is_known s asked.at ≡ true
  pub place : IsPlaceAt (rows_around s asked.at) asked.at asked.before
  pub bound : TellsWithinHour asked.bound

-- the test of what is asked
abbrev pub test_of : Asked → Test
test_of asked = record { colours = asked.colours; bound = asked.bound; at = pos asked.at }

-- no history that agrees comes at the place to a state that answers
abbrev pub NoneComes : Spec → Store → Asked → Type 0
NoneComes d s asked = (v : State) → MayComeTo d s asked.at asked.before v → Answers asked.met (test_of asked) v → ⊥

abbrev pub start_of : Found → State
start_of found = state found.colour found.entry

-- what was found starts before the window, its rows are letters of the channel at unknown tenths, at most sixteen in any run of them in an hour, and with them the channel's known rows are legal and lead at the place to a state that answers
pub record IsFound (d : Spec) (s : Store) (asked : Asked) (found : Found) : Type 0 where
  pub start : IsBeforeWindow (rules_of d) (start_of found)
  pub order : RowsIn 0 (end_of s) found.fills.items
  pub unknown : AreUnknown (is_known s) found.fills.items
  pub letters : AreLetters (track d) found.fills.items
  pub few : AreFew (is_known s) found.fills.items
  pub legal : (u : State) × Leads d s found.fills.items 0 (end_of s) (start_of found) u
  pub answer : (v : State) × ComesTo d s found.fills.items asked.at asked.before (start_of found) v × Answers asked.met (test_of asked) v
