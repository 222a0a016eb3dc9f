use Rattle.std.proofs.Common.{◌↔◌, ℕ, ◌≤◌, drop}
use Rattle.reach.specs.Runs.{State}
use Rattle.channel_path.specs.Walks.{InOrder}
use Rattle.lost_rows.specs.Walks.{WalkedFrom}
use Rattle.lost_rows.specs.Credits.{AllBefore, AllOf, HoldsLost}
use Rattle.lost_rows.proofs.pasts.walk_pasts.Given as goal

abbrev pub invariant-loop-place : goal.invariant-loop-place
invariant-loop-place g l = AllOf (g.M.Machine.rules l.machine).colours l.pasts × ((low : ℕ) × AllBefore l.pasts low × InOrder (g.M.Machine.rules l.machine) low (drop l.place l.moves)) × ((j : ℕ) (u : State) → j ≤ 3 → WalkedFrom (g.M.Machine.rules l.machine) l.asked (HoldsLost l.pasts) l.since (drop l.place l.moves) l.to j u ↔ WalkedFrom (g.M.Machine.rules l.machine) l.asked (HoldsLost l.fn.pasts) l.from l.moves l.to j u)
