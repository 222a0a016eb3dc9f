use Rattle.gap_ways.specs.Rounds.{NoEdge}
use Rattle.gap_ways.proofs.edges.edge_to.Given as goal

abbrev pub invariant-loop-colour : goal.invariant-loop-colour
invariant-loop-colour g l = NoEdge (g.M.Machine.rules l.machine) l.leave l.to l.by l.colour
