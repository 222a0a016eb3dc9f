use Rattle.std.proofs.Common.{rules, arith, pos, sym, ap, ◌∙◌, get_or, w64}
use Rattle.std.specs.Prelude.{FitsSigned}
use Rattle.std.proofs.lemmas.Int.{to_z-of_z}
use Rattle.channel_tables.specs.Spec.{rules_of}
use Rattle.gap_ways.specs.declared.states.Fill.{Fill}
use Rattle.board.specs.Channels.{track}
use Rattle.strand_search.proofs.Letters.{letter_fits, letters_more, natural}
use Rattle.strand_search.proofs.events.add_letters.Goals as goal

abbrev none : Fill
none = record { at = pos 0; letter = 0 }

pub overflow_cast-letter : goal.overflow_cast-letter
overflow_cast-letter c =
    let lt = c.loop-letter-test.true in
    let (few, low, high) = letter_fits (rules_of c.args.spec.now) c.args.letters.now c.loop-letter.letter-index none lt c.requires.letters in
    let (n, is, small) = natural (get_or c.args.letters.now c.loop-letter.letter-index none).at low high in
    let fits : FitsSigned w64 (get_or c.args.letters.now c.loop-letter.letter-index none).at = search rules in
    rw (to_z-of_z, is) (tt, omega arith)

pub row_of-requires-clause-letter : goal.row_of-requires-clause-letter
row_of-requires-clause-letter c =
    let lt = c.loop-letter-test.true in
    (letter_fits (rules_of c.args.spec.now) c.args.letters.now c.loop-letter.letter-index none lt c.requires.letters).0

pub loop-letter-preserved : goal.loop-letter-preserved
loop-letter-preserved c =
    let lt = c.loop-letter-test.true in
    let (few, low, high) = letter_fits (rules_of c.args.spec.now) c.args.letters.now c.loop-letter.letter-index none lt c.requires.letters in
    let (n, is, small) = natural (get_or c.args.letters.now c.loop-letter.letter-index none).at low high in
    let fits : FitsSigned w64 (get_or c.args.letters.now c.loop-letter.letter-index none).at = search rules in
    let cast = rw (to_z-of_z, is) at c.row_of.ensures.at in
    letters_more (track c.args.spec.now) c.args.letters.now c.loop-letter.letter-index none c.args.rows.now.items c.loop-letter.rows.items c.push.new.self.items c.row_of.result lt (is ∙ ap pos (sym cast)) c.row_of.ensures.letter c.in_ok-push.ensures.items c.loop-letter.invariant
