use Rattle.std.proofs.Common.{rules}
use Rattle.row_reader.proofs.Room.{number-plain}
use Rattle.row_reader.proofs.number.plain_number.Goals as goal

pub returns-else-n-limit-clause-value : goal.returns-else-n-limit-clause-value
returns-else-n-limit-clause-value c =
    number-plain c.args.text.now c.args.limit c.in_ok-n.n (search rules) c.if-text-gt9.false c.in_ok-n.ensures.0 c.in_ok-n.ensures.1 c.if-n-limit.false
