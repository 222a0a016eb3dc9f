use Rattle.strand_search.proofs.Letters.{letter_at}
use Rattle.strand_search.proofs.events.row_of.Goals as goal

pub returns-in_default-clause-letter : goal.returns-in_default-clause-letter
returns-in_default-clause-letter c = rw c.from-in_default.ensures (letter_at c.args.spec.now c.args.letter c.sign_at-sign.result c.requires.number c.in_default.not-Coordination c.requires.letter c.sign_at-sign.ensures)
