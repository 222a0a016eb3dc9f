use Rattle.std.proofs.Common.{rules, ◌≡◌, get_or, arith}
use Rattle.row_reader.proofs.ShortFacts.{short}
use Rattle.row_reader.proofs.stamp.short_seconds.Goals as goal

pub returns-clause-value : goal.returns-clause-value
returns-clause-value c =
    let dot : get_or c.args.text.now 2 0 ≡ 46 = search rules in
    rw (c.digit.ensures.value, c.digit-2.ensures.value, c.digit-3.ensures.value)
    (short c.args.text.now (omega (arith, c.in-46.len_at_least, c.in-46.len_below)) dot (omega (arith, c.if-a-lt48.false)) (omega (arith, c.if-a-gt53.false))
    (omega (arith, c.if-b-lt48.false)) (omega (arith, c.if-b-gt57.false)) (omega (arith, c.if-c-lt48.false)) (omega (arith, c.if-c-gt57.false)))
