use Rattle.row_reader.proofs.StampFacts.{cut-known}
use Rattle.row_reader.proofs.stamp.cut.Goals as goal

pub returns-in-Some : goal.returns-in-Some
returns-in-Some c = cut-known c.args.mark c.args.text.now c.in-Some.at c.in-Some.ensures.value
