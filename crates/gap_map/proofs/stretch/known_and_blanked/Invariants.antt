use Rattle.std.proofs.Common.{◌≡◌, ◌≤◌, ◌++◌, drop}
use Rattle.gap_map.specs.Cuts.{cut_of}
use Rattle.gap_map.proofs.stretch.known_and_blanked.Given as goal

abbrev pub invariant-loop-s : goal.invariant-loop-s
invariant-loop-s l = (l.at ≤ l.to) × (l.out.items ++ cut_of l.at l.to (drop l.s-index l.blanked) ≡ cut_of l.from l.to l.blanked)
