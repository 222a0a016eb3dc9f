-- Places that have one state alone, and what is kept for all places of a path.
use Rattle.std.specs.Prelude.{◌≡◌, ℕ, ℤ, ◌+◌, ◌<◌, ◌≤◌, ◌↔◌, List, length, take, drop, Option, slice_index_or}
use Rattle.colour_machine.specs.Rules.{Rules}
use Rattle.span_set.specs.declared.set.Span.{Span}
use Rattle.reach.specs.Runs.{State}
use Rattle.reach.specs.Past.{Holds}
use Rattle.reach.specs.Single.{sets_of, IsSingle}
use Rattle.reach.specs.declared.past.Single.{Single}
use Rattle.channel_path.specs.declared.moves.Move.{Move}
use Rattle.channel_path.specs.declared.past.RunPasts.{RunPasts}
use Rattle.channel_path.specs.declared.ahead.PlaceAheads.{PlaceAheads}
use Rattle.channel_path.specs.declared.places.Places.{Places}
use Rattle.channel_path.specs.Walks.{AfterMoves, BeforeMoves}
use Rattle.channel_path.specs.Places.{IsBetween}
use Rattle.channel_path.specs.Kept.{HasPast, past_of, HasAhead, ahead_of}

-- the first moves lead to this state alone, and from it the others to one that is admitted
abbrev pub IsCertain : Rules → List (List Span) → List (Option ℤ) → List Move → List Move → Single → Type 0
IsCertain m before after xs ys one = IsSingle one × ((v : State) → Holds (sets_of one) v ↔ AfterMoves m before xs v) × ((v : State) → Holds (sets_of one) v → BeforeMoves m after ys v)

-- there is such a state for each place from the first on
abbrev pub AreCertain : Rules → List (List Span) → List (Option ℤ) → List Move → ℕ → List Single → Type 0
AreCertain m before after xs first sure = (first + length sure ≡ length xs + 1) × ((j k : ℕ) (d : Single) → first + k ≡ j → j ≤ length xs → IsCertain m before after (take j xs) (drop j xs) (slice_index_or sure k d))

-- each place before the first certain one has a Past, that of its run, and an Ahead, which together have the states there
abbrev pub KeepsHead : Rules → List (List Span) → List (Option ℤ) → List Move → ℕ → RunPasts → PlaceAheads → Type 0
KeepsHead m before after xs first pasts aheads = (first ≤ length pasts.runs.items) × ((j : ℕ) → j < first → HasPast pasts j × HasAhead aheads j × IsBetween m before after (take j xs) (drop j xs) (past_of pasts j) (ahead_of aheads j))

-- all places between the moves have their states
abbrev pub KeepsPlaces : Rules → List (List Span) → List (Option ℤ) → List Move → Places → Type 0
KeepsPlaces m before after xs places = KeepsHead m before after xs places.first places.pasts places.aheads × AreCertain m before after xs places.first places.sure.items
