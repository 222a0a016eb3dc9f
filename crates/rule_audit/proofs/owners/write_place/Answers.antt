use Rattle.std.proofs.Common.{arith}
use Rattle.rule_audit.proofs.Owning.{letter_there, written_gap, written_letter}
use Rattle.rule_audit.proofs.owners.write_place.Goals as goal
use Rattle.rule_audit.proofs.owners.write_place.Goals.{in-Letter, in-Gap}

pub bounds-own-row : goal.bounds-own-row
bounds-own-row c =
    let less = c.requires.within c.in-Letter.row (letter_there c.args.moves.now c.loop-each.each-index _ c.loop-each-test.true c.in-Letter.at c.in-Letter.letter c.in-Letter.row c.in-Letter.is) in
    let size = c.loop-each.invariant.0 in
    omega arith

pub loop-each-preserved : goal.loop-each-preserved
loop-each-preserved c =
    let moves = c.args.moves.now in
    let i = c.loop-each.each-index in
    let lt = c.loop-each-test.true in
    elim c.match-each.branch [
      | in-Letter w ↦ rw w.own-is (written_letter moves i _ lt c.args.place c.args.own.now c.loop-each.own c.loop-each.invariant w.in-Letter.at w.in-Letter.letter w.in-Letter.row (c.requires.within w.in-Letter.row (letter_there moves i _ lt w.in-Letter.at w.in-Letter.letter w.in-Letter.row w.in-Letter.is)) w.in-Letter.is)
      | in-Gap w ↦ rw w.own-is (written_gap moves i _ lt c.args.place c.args.own.now c.loop-each.own c.loop-each.invariant w.in-Gap.from w.in-Gap.to w.in-Gap.is)
    ]
