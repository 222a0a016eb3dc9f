use Rattle.std.proofs.Common.{◌≡◌, ◌↔◌, ℕ, ◌+◌, ◌≤◌, drop, length}
use Rattle.reach.specs.Runs.{State}
use Rattle.lost_rows.specs.Walks.{FromMove}
use Rattle.lost_rows.specs.Credits.{AdmitsLost, AllAheads}
use Rattle.lost_rows.proofs.aheads.walk_aheads.Given as goal

abbrev pub invariant-loop-turn : goal.invariant-loop-turn
invariant-loop-turn g l = AllAheads (g.M.Machine.rules l.machine).colours l.aheads × ((p : ℕ) → p + l.turn ≡ length l.moves → (j : ℕ) (s : State) → j ≤ 3 → AdmitsLost l.aheads j s ↔ FromMove (g.M.Machine.rules l.machine) (AdmitsLost l.fn.aheads) (drop p l.moves) l.to j s)
