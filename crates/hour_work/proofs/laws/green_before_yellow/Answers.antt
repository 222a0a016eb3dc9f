use Rattle.hour_work.proofs.OrderLaws.{diagrams_in_order, green_before_yellow}
use Rattle.hour_work.proofs.laws.green_before_yellow.Goals as goal

pub returns-clause-cycles : goal.returns-clause-cycles
returns-clause-cycles f c s sound store has = green_before_yellow c s sound store has

pub returns-clause-diagrams : goal.returns-clause-diagrams
returns-clause-diagrams f c s p sound store has = diagrams_in_order c s p sound store has
