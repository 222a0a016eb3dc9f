use Rattle.std.proofs.Common.{sym, ◌∙◌}
use Rattle.std.specs.BTreeMap.{get}
use Rattle.row_reader.specs.Last.{pair_cmp}
use Rattle.row_reader.proofs.PairFacts.{noted-alone}
use Rattle.row_reader.proofs.lasts.Lasts.put.Goals as goal

pub returns-in_ok-insert-in-Alone-clause-with : goal.returns-in_ok-insert-in-Alone-clause-with
returns-in_ok-insert-in-Alone-clause-with c =
    noted-alone c.args.self.now.of.items (get pair_cmp c.args.self.now.alone) (get pair_cmp c.insert.new.self) c.args.row c.in-Alone.code c.in-Alone.param
    (sym c.requires.group ∙ c.in-Alone.is) c.in_ok-insert-in-Alone.ensures.updates.0
