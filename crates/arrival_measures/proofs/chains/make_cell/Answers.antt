use Rattle.std.proofs.Common.{◌+◌, rules, arith}
use Rattle.arrival_measures.proofs.Chaining.{cells_made}
use Rattle.arrival_measures.proofs.chains.make_cell.Goals as goal

pub returns-in_ok-resize-clause-same : goal.returns-in_ok-resize-clause-same
returns-in_ok-resize-clause-same c = cells_made c.args.heads.now.items c.resize.new.self.items (c.args.cell + 1) c.args.none (omega arith) (search rules)
