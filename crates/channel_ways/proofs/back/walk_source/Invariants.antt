use Rattle.std.proofs.Common.{◌≡◌, ℕ, ◌+◌, length, take, drop}
use Rattle.channel_path.specs.Kept.{letters}
use Rattle.channel_path.specs.Walks.{AfterMoves}
use Rattle.gap_ways.specs.Ways.{state_of}
use Rattle.channel_ways.specs.Moves.{AddedMoves}
use Rattle.channel_ways.proofs.back.walk_source.Given as goal

abbrev pub invariant-loop-turn : goal.invariant-loop-turn
invariant-loop-turn g l = record {
  run : (j : ℕ) → j + l.turn ≡ length l.moves → l.run ≡ letters (take j l.moves);
  reached : (j : ℕ) → j + l.turn ≡ length l.moves → AfterMoves (g.M.Machine.rules l.machine) l.before (take j l.moves) (state_of l.here);
  way : (j : ℕ) → j + l.turn ≡ length l.moves → AddedMoves (g.M.Machine.rules l.machine) (drop j l.moves) l.fn.fills.items l.fills.items l.here l.fn.target;
}
