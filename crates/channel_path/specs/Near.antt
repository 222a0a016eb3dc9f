-- What the first few moves alone tell.
use Rattle.std.specs.Prelude.{◌≡◌, ℤ, ◌<◌, ◌≤ℤ◌, List, Option}
use Rattle.colour_machine.specs.Rules.{Rules}
use Rattle.reach.specs.Runs.{State}
use Rattle.reach.specs.Ahead.{Admits}
use Rattle.reach.specs.declared.past.Single.{Single}
use Rattle.channel_path.specs.declared.moves.Move.{Move}
use Rattle.channel_path.specs.Walks.{Walk}
use Rattle.channel_path.specs.Places.{EntersBefore}

-- a state that enters early enough for the moves is admitted if they lead from it to any of the colours
abbrev pub LetsThrough : Rules → List Move → List (Option ℤ) → Type 0
LetsThrough m xs ahead = (s v : State) → EntersBefore xs s → Walk m xs s v → v.colour < m.colours → Admits ahead s

-- each state that is admitted enters early enough for the moves, and they lead from it to the one state or to an older entry of its colour
abbrev pub LeadsTo : Rules → List Move → Single → List (Option ℤ) → Type 0
LeadsTo m xs one ahead = (s : State) → Admits ahead s → EntersBefore xs s × ((v : State) × Walk m xs s v × (v.colour ≡ one.colour) × (v.entry ≤ℤ one.entry))
