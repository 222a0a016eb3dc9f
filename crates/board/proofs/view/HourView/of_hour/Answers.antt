use Rattle.std.proofs.Common.{arith, ap, subst, sym, ◌≡◌, ◌∙◌, ◌+◌, ◌<◌, [], ◌∷◌, ◌++◌, length, get_or}
use Rattle.std.proofs.lemmas.List.{get_or_default, length_push}
use Rattle.std.proofs.lemmas.Iterator.Adapters.{YieldsList-from_vec}
use Rattle.std.proofs.lemmas.Iterator.Consumers.{YieldsList-turn, YieldsList-end}
use Rattle.board.specs.Places.{IsView}
use Rattle.board.specs.Logs.{HourLog, hour_log, no_spec, first_tenth}
use Rattle.board.proofs.Hours.{moves_order, course_is}
use Rattle.board.proofs.Viewing.{courses_as, log_as, paths_more, element}
use Rattle.board.proofs.view.HourView.of_hour.Goals as goal

pub path_of-requires-clause-order : goal.path_of-requires-clause-order
path_of-requires-clause-order c =
    let specs = c.args.specs.now in
    let before = c.args.before.now in
    let courses = c.courses.inside.list.items in
    let i = c.len-i.result in
    let spec = get_or specs i no_spec in
    let gives = c.into_iter-course-iterator.ensures.into_iter_gives in
    let turn = YieldsList-turn (YieldsList-from_vec {s = c.into_iter-course-iterator.result} courses gives.0 (gives.1 ∙ c.courses.inside.list.ok.0)) c.loop-course.yielded c.loop-course.course-iterator c.loop-course.yielded_by c.next.result c.next.new.self c.in-Some.course c.in-Some.is c.next.ensures.steps in
    let here : i ≡ length c.loop-course.yielded = c.len-i.ensures ∙ (c.loop-course.paths.ok.0 ∙ c.loop-course.invariant.0) in
    let same = (courses_as c.args.courses _ c.args.specs.now c.courses.inside.list.items c.courses.view_is c.requires.same c.courses.invariant).0 in
    let le : i < length specs = (let lt = turn.0 in omega arith) in
    let k = course_is specs c.args.courses.rows c.args.courses.stretches courses i spec c.in-Some.course (courses_as c.args.courses _ c.args.specs.now c.courses.inside.list.items c.courses.view_is c.requires.same c.courses.invariant) le (get_or_default specs i no_spec spec le) (rw here turn.1) no_spec in
    let small : i < length before = (let l = c.requires.before.0 in omega arith) in
    let old = element c.before-2.inside.pasts.items before i c.index.result.now [] c.before-2.view_is small c.index.ensures in
    let is = c.requires.log in
    (first_tenth c.args.hour, rw old (is.early i), rw (c.into_moves-moves.ensures, k.1) (moves_order spec c.args.courses.rows c.args.courses.stretches c.args.hour is.is_hour))

pub loop-course-preserved : goal.loop-course-preserved
loop-course-preserved c =
    let specs = c.args.specs.now in let rows = c.args.courses.rows in let ss = c.args.courses.stretches in let before = c.args.before.now in let after = c.args.after.now in
    let courses = c.courses.inside.list.items in
    let i = c.len-i.result in
    let log : HourLog = hour_log c.args.hour specs rows ss before after in
    let spec = get_or specs i no_spec in
    let inv = c.loop-course.invariant in
    let gives = c.into_iter-course-iterator.ensures.into_iter_gives in
    let turn = YieldsList-turn (YieldsList-from_vec {s = c.into_iter-course-iterator.result} courses gives.0 (gives.1 ∙ c.courses.inside.list.ok.0)) c.loop-course.yielded c.loop-course.course-iterator c.loop-course.yielded_by c.next.result c.next.new.self c.in-Some.course c.in-Some.is c.next.ensures.steps in
    let size : length c.loop-course.paths.items ≡ i = sym (c.len-i.ensures ∙ c.loop-course.paths.ok.0) in
    let here : i ≡ length c.loop-course.yielded = sym size ∙ inv.0 in
    let same = (courses_as c.args.courses _ c.args.specs.now c.courses.inside.list.items c.courses.view_is c.requires.same c.courses.invariant).0 in
    let le : i < length specs = (let lt = turn.0 in omega arith) in
    let items : c.push.new.self.items ≡ c.loop-course.paths.items ++ c.in_ok-path.path ∷ [] = c.in_ok-push.ensures.items in
    let lb : i < length before = (let l = c.requires.before.0 in omega arith) in
    let la : i < length after = (let l = c.requires.after.0 in omega arith) in
    let old = element c.before-2.inside.pasts.items before i c.index.result.now [] c.before-2.view_is lb c.index.ensures in
    let ahead = element c.after.inside.aheads.items after i c.index-in-loop-course.result.now [] c.after.view_is la c.index-in-loop-course.ensures in
    let own = c.in_ok-path.ensures in
    let more = length_push c.loop-course.yielded c.in-Some.course ∙ ap (λ n. n + 1) (sym here) in (
      rw (items, more) (length_push _ _ ∙ ap (λ n. n + 1) size),
      rw (items, more) (paths_more log i c.loop-course.paths.items c.in_ok-path.path size (rw here inv.1) (λ d. let k = course_is specs rows ss courses i spec c.in-Some.course (courses_as c.args.courses _ c.args.specs.now c.courses.inside.list.items c.courses.view_is c.requires.same c.courses.invariant) le (get_or_default specs i no_spec spec le) (rw here turn.1) d in record { same_rules = rw k.0 at own.0; same_before = own.1 ∙ old; same_moves = own.2 ∙ (c.into_moves-moves.ensures ∙ k.1); same_after = own.3 ∙ ahead })),
    )

pub invariant_of-result : goal.invariant_of-result
invariant_of-result c =
    let inv = c.loop-course.invariant in
    let gives = c.into_iter-course-iterator.ensures.into_iter_gives in
    let end = YieldsList-end (YieldsList-from_vec {s = c.into_iter-course-iterator.result} c.courses.inside.list.items gives.0 (gives.1 ∙ c.courses.inside.list.ok.0)) c.loop-course.yielded c.loop-course.course-iterator c.loop-course.yielded_by c.next.result c.next.new.self c.in-None.is c.next.ensures.steps in
    let all : length c.loop-course.yielded ≡ length c.args.specs.now = end.1 ∙ (courses_as c.args.courses _ c.args.specs.now c.courses.inside.list.items c.courses.view_is c.requires.same c.courses.invariant).0 in
    let marks = c.in_ok-marks.ensures ∙ (ap length c.as_slice.ensures.value ∙ (courses_as c.args.courses _ c.args.specs.now c.courses.inside.list.items c.courses.view_is c.requires.same c.courses.invariant).0) in
    let log = hour_log c.args.hour c.args.specs.now c.args.courses.rows c.args.courses.stretches c.args.before.now c.args.after.now in
    let is : IsView log c.loop-course.paths.items = record { is_log = c.requires.log; count = inv.0 ∙ all; are_paths = rw (← all) inv.1 } in
    rw (c.of.ensures, c.of-2.ensures) (subst (λ (x : HourLog). IsView x c.loop-course.paths.items) (sym (log_as c.args.hour c.args.courses _ c.args.specs.now c.args.before.now c.args.after.now c.courses.view_is c.requires.same)) is, marks ∙ sym (inv.0 ∙ all))

pub returns : goal.returns
returns c = rw (c.of.ensures, c.of-2.ensures) (log_as c.args.hour c.args.courses _ c.args.specs.now c.args.before.now c.args.after.now c.courses.view_is c.requires.same)
