use Rattle.board.specs.SpecPlaces.{HaveCells}
use Rattle.board.proofs.spec_table.cell_count.Given as goal

abbrev pub invariant-loop-i : goal.invariant-loop-i
invariant-loop-i l = HaveCells l.specs l.i l.count
