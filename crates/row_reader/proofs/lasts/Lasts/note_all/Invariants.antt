use Rattle.std.proofs.Common.{take}
use Rattle.std.specs.BTreeMap.{get}
use Rattle.row_reader.specs.Last.{IsWithAll, looked_up, pair_cmp}
use Rattle.row_reader.proofs.lasts.Lasts.note_all.Given as goal

abbrev pub invariant-loop-row : goal.invariant-loop-row
invariant-loop-row l =
    IsWithAll (take l.row-index l.rows) (looked_up l.fn.self.of.items (get pair_cmp l.fn.self.alone)) (looked_up l.self.of.items (get pair_cmp l.self.alone))
