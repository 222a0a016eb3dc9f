use Rattle.std.proofs.Common.{◌≡◌, ◌↔◌, ℕ, ◌+◌, length, drop}
use Rattle.reach.specs.Runs.{State}
use Rattle.reach.specs.Ahead.{Admits}
use Rattle.channel_path.specs.Walks.{BeforeMoves}
use Rattle.channel_path.specs.Places.{EntersBefore}
use Rattle.channel_path.proofs.ahead.walk_ahead.Given as goal

abbrev pub invariant-loop-turn : goal.invariant-loop-turn
invariant-loop-turn g l =
    (length l.ahead ≡ length l.initial.ahead)
    × ((j : ℕ) → j + l.turn ≡ length l.moves → (s : State) → Admits l.ahead s ↔ (EntersBefore (drop j l.moves) s × BeforeMoves (g.M.Machine.rules l.machine) l.initial.ahead (drop j l.moves) s))
