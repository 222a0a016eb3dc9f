use Rattle.std.proofs.Common.{arith, refl, ◌≡◌, ◌+◌, ◌-◌, ◌≤◌}
use Rattle.board.specs.Moves.{count_before}
use Rattle.board.specs.Places.{since, upto}
use Rattle.decisive.proofs.Nowhere.{same_answer}
use Rattle.decisive.specs.declared.judge.Start.TheVariants.{Free}
use Rattle.decisive.specs.Breaks.{track_of}
use Rattle.decisive.specs.Candidates.{rows_from}
use Rattle.decisive.specs.Laws.{rows_to}
use Rattle.decisive.proofs.Placing.{count_under, place_since, place_upto}
use Rattle.decisive.proofs.Tried.{before_upto, course_is, on_from, tried, up_to}
use Rattle.decisive.proofs.judge.part_begins.Goals as goal

pub walk_breaks-requires-clause-start : goal.walk_breaks-requires-clause-start
walk_breaks-requires-clause-start c =
    let (f, t, is, before, after) = c.requires.told in
    let q = c.args.question.now in
    let told = c.args.told.now in
    let u = c.args.tenth in
    let v = c.args.last in
    let part = c.args.part in
    let k = track_of q.specs.now part.spec in
    let low = is.place.first in
    let early = c.requires.early in
    let late = c.requires.late in
    let r1 = rows_to v told.rows.now in
    let s1 = upto v told.stretches.now in
    let course = course_is q.specs.now told.rows.now told.stretches.now told.courses.now part.spec c.index-told-part.result c.moves.result.now is.courses c.requires.part.within c.moves.ensures in
    let first = up_to k f t v told.rows.now told.stretches.now c.moves.result.now c.moves_to.result.now is.place.stretches is.place.rows_in (omega arith) after course c.moves_to.ensures in
    let place = place_upto f t q.at told.place v told.rows.now told.stretches.now is.place late after.0 in
    let begin = before_upto f t u v told.stretches.now is.place.stretches before (omega arith) after.0 in
    let rest = on_from k f (v + 1) u r1 s1 c.moves_to.result.now c.moves_from-moves.result.now place.stretches place.rows_in begin (omega arith) first c.moves_from-moves.ensures in
    let n = count_before u r1 in
    let under : n ≤ told.place = count_under q.at (v + 1) u told.place r1 place.after early in
    let number : n + (told.place - n) ≡ told.place = omega arith in
    let place2 = place_since f (v + 1) q.at told.place u r1 s1 place before.0 early in
    let law = tried q.specs.now part u (v + 1) q.at (told.place - n) n told.place (rows_from u r1) (since u s1) place2 number c.moves_from-moves.result.now c.about_place.result.0.now c.about_place.result.1.now rest c.about_place.ensures in
    (u, refl, law.0)

pub returns : goal.returns
returns c =
    let (f, t, is, before, after) = c.requires.told in
    let q = c.args.question.now in
    let told = c.args.told.now in
    let u = c.args.tenth in
    let v = c.args.last in
    let part = c.args.part in
    let k = track_of q.specs.now part.spec in
    let low = is.place.first in
    let early = c.requires.early in
    let late = c.requires.late in
    let r1 = rows_to v told.rows.now in
    let s1 = upto v told.stretches.now in
    let course = course_is q.specs.now told.rows.now told.stretches.now told.courses.now part.spec c.index-told-part.result c.moves.result.now is.courses c.requires.part.within c.moves.ensures in
    let first = up_to k f t v told.rows.now told.stretches.now c.moves.result.now c.moves_to.result.now is.place.stretches is.place.rows_in (omega arith) after course c.moves_to.ensures in
    let place = place_upto f t q.at told.place v told.rows.now told.stretches.now is.place late after.0 in
    let begin = before_upto f t u v told.stretches.now is.place.stretches before (omega arith) after.0 in
    let rest = on_from k f (v + 1) u r1 s1 c.moves_to.result.now c.moves_from-moves.result.now place.stretches place.rows_in begin (omega arith) first c.moves_from-moves.ensures in
    let n = count_before u r1 in
    let under : n ≤ told.place = count_under q.at (v + 1) u told.place r1 place.after early in
    let number : n + (told.place - n) ≡ told.place = omega arith in
    let place2 = place_since f (v + 1) q.at told.place u r1 s1 place before.0 early in
    let law = tried q.specs.now part u (v + 1) q.at (told.place - n) n told.place (rows_from u r1) (since u s1) place2 number c.moves_from-moves.result.now c.about_place.result.0.now c.about_place.result.1.now rest c.about_place.ensures in
    same_answer c.walk_breaks.result (law.1 (Free u)) c.walk_breaks.ensures
