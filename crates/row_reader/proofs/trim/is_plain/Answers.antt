use Rattle.row_reader.proofs.TrimFacts.{trimmed-stays}
use Rattle.row_reader.proofs.trim.is_plain.Goals as goal

pub returns-in-len2-up : goal.returns-in-len2-up
returns-in-len2-up c = λ e. trimmed-stays c.args.text.now c.if-first-ne32.true c.if-last-ne32.true
