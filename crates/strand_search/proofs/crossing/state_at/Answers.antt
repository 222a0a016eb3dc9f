use Rattle.std.proofs.Common.{◌≡◌, ◌∙◌}
use Rattle.strand_search.specs.Parts.{moves_over}
use Rattle.strand_search.proofs.Placed.{passage_of}
use Rattle.strand_search.proofs.crossing.state_at.Goals as goal

pub state_between-requires-clause-passage : goal.state_between-requires-clause-passage
state_between-requires-clause-passage c =
    let left : c.moves.result.now ≡ moves_over c.args.spec.now c.args.cut.now.left = c.moves.ensures ∙ c.in_ok-left.ensures in
    let right : c.moves-2.result.now ≡ moves_over c.args.spec.now c.args.cut.now.right = c.moves-2.ensures ∙ c.in_ok-right.ensures in
    rw (left, right, c.test_of.ensures) (passage_of c.args.spec.now c.args.asked.now c.args.before.now c.args.cut.now c.args.after.now c.requires.fits)

pub returns : goal.returns
returns c =
    let left : c.moves.result.now ≡ moves_over c.args.spec.now c.args.cut.now.left = c.moves.ensures ∙ c.in_ok-left.ensures in
    let right : c.moves-2.result.now ≡ moves_over c.args.spec.now c.args.cut.now.right = c.moves-2.ensures ∙ c.in_ok-right.ensures in
    rw (left, right, c.test_of.ensures) at c.state_between.ensures
