use Rattle.std.proofs.Common.{rules}
use Rattle.std.specs.BTreeMap.{get}
use Rattle.row_reader.specs.Last.{pair_cmp}
use Rattle.row_reader.proofs.NotedFacts.{looked_up-more}
use Rattle.row_reader.proofs.lasts.Lasts.make_table.Goals as goal

pub returns-in_ok-resize-clause-same : goal.returns-in_ok-resize-clause-same
returns-in_ok-resize-clause-same c =
    looked_up-more c.args.self.now.of.items c.resize.new.self.items 2048 (get pair_cmp c.args.self.now.alone) (search rules) (search rules)
