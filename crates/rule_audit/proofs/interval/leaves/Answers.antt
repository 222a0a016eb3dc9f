use Rattle.std.proofs.Common.{arith, ap, sym, ◌∙◌, ◌≡◌, Option, Some}
use Rattle.event_codes.specs.declared.channels.Channel.{Channel}
use Rattle.channel_tables.specs.Letters.{letter_in_table, letter_with}
use Rattle.channel_tables.proofs.Places.{channel_letter}
use Rattle.rule_audit.proofs.Judging.{leaves_by}
use Rattle.rule_audit.proofs.interval.leaves.Goals as goal

pub letter_leaves-requires-clause-letter : goal.letter_leaves-requires-clause-letter
letter_leaves-requires-clause-letter c =
    let (j, at, lt) = channel_letter c.args.row.code c.args.row.param c.args.spec.now.channel c.requires.own in
    let same : Some c.in-Some.letter ≡ Some j = c.in-Some.ensures ∙ at in
    let there : c.in-Some.letter ≡ j = cc in
    omega arith

pub returns-in-Some : goal.returns-in-Some
returns-in-Some c =
    let row = c.args.row in
    let letter : Some c.in-Some.letter ≡ letter_in_table row.code row.param = c.in-Some.ensures ∙ ap (λ (o : Option Channel). letter_with o row.code row.param) (sym c.requires.own) in
    leaves_by c.args.spec.now row c.args.colour c.in-Some.letter c.letter_leaves.result letter c.letter_leaves.ensures
