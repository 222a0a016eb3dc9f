use Rattle.std.proofs.Common.{length}
use Rattle.board.specs.SpecPlaces.{AreCells, HaveCells}
use Rattle.board.proofs.spec_table.SpecTable.new.Given as goal

abbrev pub invariant-loop-i : goal.invariant-loop-i
invariant-loop-i l = HaveCells l.specs (length l.specs) (length l.cells.items) × AreCells l.specs l.i l.cells.items
