use Rattle.std.proofs.Common.{◌≡◌, ◌-◌, ◌↔◌, length, drop}
use Rattle.reach.specs.Runs.{State}
use Rattle.reach.specs.Ahead.{Admits}
use Rattle.reach.specs.Last.{BeforeGaps}
use Rattle.channel_path.specs.Kept.{AddsPlaces}
use Rattle.channel_path.proofs.ahead.holes_ahead.Given as goal

abbrev pub invariant-loop-turn : goal.invariant-loop-turn
invariant-loop-turn g l = record {
  colours : length l.here ≡ (g.M.Machine.rules l.machine).colours;
  exact : (s : State) → Admits l.here s ↔ BeforeGaps (g.M.Machine.rules l.machine) l.ahead (drop (length l.holes - l.turn) l.holes) s;
  adds : AddsPlaces (g.M.Machine.rules l.machine).colours l.past (length l.holes - l.turn) (length l.holes) (λ j. BeforeGaps (g.M.Machine.rules l.machine) l.ahead (drop j l.holes)) l.initial.places l.places;
}
