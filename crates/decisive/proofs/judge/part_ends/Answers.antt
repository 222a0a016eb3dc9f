use Rattle.std.proofs.Common.{arith, ◌≡◌, ◌+◌}
use Rattle.board.specs.Places.{upto}
use Rattle.decisive.proofs.Nowhere.{same_answer}
use Rattle.decisive.specs.Breaks.{track_of}
use Rattle.decisive.specs.Laws.{rows_to}
use Rattle.decisive.proofs.Placing.{place_upto}
use Rattle.decisive.proofs.Tried.{course_is, tried, up_to}
use Rattle.decisive.proofs.judge.part_ends.Goals as goal

pub walk_breaks-requires-clause-start : goal.walk_breaks-requires-clause-start
walk_breaks-requires-clause-start c =
    let (f, t, is, start, cut) = c.requires.told in
    let q = c.args.question.now in
    let told = c.args.told.now in
    let w = c.args.tenth in
    let part = c.args.part in
    let k = track_of q.specs.now part.spec in
    let low = is.place.first in
    let late = c.requires.late in
    let course = course_is q.specs.now told.rows.now told.stretches.now told.courses.now part.spec c.index-told-part.result c.moves.result.now is.courses c.requires.part.within c.moves.ensures in
    let first = up_to k f t w told.rows.now told.stretches.now c.moves.result.now c.moves_to.result.now is.place.stretches is.place.rows_in (omega arith) cut course c.moves_to.ensures in
    let number : 0 + told.place ≡ told.place = omega arith in
    let place = place_upto f t q.at told.place w told.rows.now told.stretches.now is.place late cut.0 in
    (f, start, (tried q.specs.now part f (w + 1) q.at told.place 0 told.place (rows_to w told.rows.now) (upto w told.stretches.now) place number c.moves_to.result.now c.about_place.result.0.now c.about_place.result.1.now first c.about_place.ensures).0)

pub returns : goal.returns
returns c =
    let (f, t, is, start, cut) = c.requires.told in
    let q = c.args.question.now in
    let told = c.args.told.now in
    let w = c.args.tenth in
    let part = c.args.part in
    let k = track_of q.specs.now part.spec in
    let low = is.place.first in
    let late = c.requires.late in
    let course = course_is q.specs.now told.rows.now told.stretches.now told.courses.now part.spec c.index-told-part.result c.moves.result.now is.courses c.requires.part.within c.moves.ensures in
    let first = up_to k f t w told.rows.now told.stretches.now c.moves.result.now c.moves_to.result.now is.place.stretches is.place.rows_in (omega arith) cut course c.moves_to.ensures in
    let number : 0 + told.place ≡ told.place = omega arith in
    let place = place_upto f t q.at told.place w told.rows.now told.stretches.now is.place late cut.0 in
    same_answer c.walk_breaks.result ((tried q.specs.now part f (w + 1) q.at told.place 0 told.place (rows_to w told.rows.now) (upto w told.stretches.now) place number c.moves_to.result.now c.about_place.result.0.now c.about_place.result.1.now first c.about_place.ensures).1 c.args.start.now) c.walk_breaks.ensures
