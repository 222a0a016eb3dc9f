use Rattle.std.proofs.Common.{arith, ap, ◌≡◌, ◌∙◌, ◌+◌, ◌<◌, [], ◌∷◌, ◌++◌, length, get_or}
use Rattle.std.proofs.lemmas.List.{get_or_default, length_push}
use Rattle.channel_tables.specs.declared.spec.Spec.{Spec}
use Rattle.channel_tables.specs.Spec.{rules_of}
use Rattle.board.specs.Logs.{no_spec, first_tenth, end_tenth}
use Rattle.board.proofs.Hours.{moves_order, course_is}
use Rattle.board.proofs.Plain.{before_hour, aheads_push}
use Rattle.board.proofs.Repeating.{ahead_again, colours_again, stands_last}
use Rattle.board.proofs.Starting.{widths_more}
use Rattle.board.proofs.Twins.{earlier_twin}
use Rattle.board.proofs.Viewing.{element}
use Rattle.board.proofs.Within.{hour_rows}
use Rattle.board.proofs.between.aheads_between.Goals as goal

pub ahead_between-requires-clause-order : goal.ahead_between-requires-clause-order
ahead_between-requires-clause-order c =
    let specs = c.args.specs.now in let rows = c.args.courses.now.rows in let ss = c.args.stretches.now in let before = c.args.states.now.before.now in
    let i = c.loop-i.i in
    let t = c.loop-i-test.true in
    let spec = get_or specs i no_spec in
    let (h, is, early) = c.requires.hour in
    let lb : i < length before = (let l = c.requires.before.0 in omega arith) in
    let old = element c.before-2.inside.pasts.items before i c.index-in-loop-i.result.now [] c.before-2.view_is lb c.index-in-loop-i.ensures in
    let k = course_is specs rows ss c.list-list.result.now i spec c.index-list-i.result (rw (c.requires.same_specs, c.requires.same_stretches) at c.list-list.ensures) t (get_or_default specs i no_spec spec t) c.index-list-i.is no_spec in
    (first_tenth h, rw old (early i), rw (c.moves.ensures, k.1) (moves_order spec rows ss h is))

pub ahead_between-requires-clause-some : goal.ahead_between-requires-clause-some
ahead_between-requires-clause-some c =
    let before = c.args.states.now.before.now in
    let i = c.loop-i.i in
    let t = c.loop-i-test.true in
    let lb : i < length before = (let l = c.requires.before.0 in omega arith) in
    let old = element c.before-2.inside.pasts.items before i c.index-in-loop-i.result.now [] c.before-2.view_is lb c.index-in-loop-i.ensures in
    rw old (c.requires.before.1 i no_spec t).1

pub ahead_between-requires-clause-reached : goal.ahead_between-requires-clause-reached
ahead_between-requires-clause-reached c = λ u holds.
    let specs = c.args.specs.now in let rows = c.args.courses.now.rows in let ss = c.args.stretches.now in
    let before = c.args.states.now.before.now in let reached = c.args.states.now.after.now in
    let i = c.loop-i.i in
    let t = c.loop-i-test.true in
    let spec = get_or specs i no_spec in
    let (h, is, _) = c.requires.hour in
    let lb : i < length before = (let l = c.requires.before.0 in omega arith) in
    let lr : i < length reached = (let l = c.requires.reached.0 in omega arith) in
    let old = element c.before-2.inside.pasts.items before i c.index-in-loop-i.result.now [] c.before-2.view_is lb c.index-in-loop-i.ensures in
    let new = element c.reached.inside.pasts.items reached i c.index-in-loop-i-2.result.now [] c.reached.view_is lr c.index-in-loop-i-2.ensures in
    let k = course_is specs rows ss c.list-list.result.now i spec c.index-list-i.result (rw (c.requires.same_specs, c.requires.same_stretches) at c.list-list.ensures) t (get_or_default specs i no_spec spec t) c.index-list-i.is no_spec in
    rw (c.moves.ensures, k.1, old) (earlier_twin specs rows ss h i before reached u is t c.requires.states (rw new at holds))

pub loop-i-preserved-then-repeats_ahead : goal.loop-i-preserved-then-repeats_ahead
loop-i-preserved-then-repeats_ahead c =
    let specs = c.args.specs.now in let rows = c.args.courses.now.rows in let ss = c.args.stretches.now in let after = c.args.after.now in
    let i = c.loop-i.i in
    let t = c.loop-i-test.true in
    let spec = get_or specs i no_spec in
    let inv = c.loop-i.invariant in
    let new = c.copy-ahead.result in
    let items : c.push.new.self.items ≡ c.loop-i.aheads.items ++ new ∷ [] = c.in_ok-push.ensures.items in
    let again = c.repeats_ahead.ensures.repeats c.if-repeats_ahead.true in
    let twice = c.repeats_ahead.ensures.states c.if-repeats_ahead.true in
    let at = again.place in
    let courses = rw (c.requires.same_specs, c.requires.same_stretches) at c.list-list.ensures in
    let old : new ≡ get_or c.loop-i.aheads.items again.last [] = c.copy-ahead.ensures ∙ stands_last c.loop-i.aheads.items i again.last c.index.result.now [] at inv.0 c.index.ensures in
    let width = colours_again specs c.list-list.result.now c.loop-i.aheads.items i new again old inv.1 no_spec in (
      rw items (length_push _ _ ∙ ap (λ n. n + 1) inv.0),
      rw items (widths_more specs i spec c.loop-i.aheads.items new (λ d. get_or_default specs i no_spec d t) inv.0 width inv.1),
      λ h is_hour. rw items (aheads_push specs rows ss (first_tenth h) (end_tenth h) after i c.loop-i.aheads.items new inv.0 (inv.2 h is_hour) (width, ahead_again specs rows ss c.list-list.result.now (first_tenth h) (end_tenth h) after c.loop-i.aheads.items i new again twice courses t is_hour.follow (hour_rows h rows ss is_hour) old (inv.2 h is_hour))),
    )

pub loop-i-preserved : goal.loop-i-preserved
loop-i-preserved c =
    let specs = c.args.specs.now in let rows = c.args.courses.now.rows in let ss = c.args.stretches.now in let after = c.args.after.now in
    let i = c.loop-i.i in
    let t = c.loop-i-test.true in
    let spec = get_or specs i no_spec in
    let inv = c.loop-i.invariant in
    let new = c.in_ok-ahead.ahead in
    let items : c.push-in-loop-i.new.self.items ≡ c.loop-i.aheads.items ++ new ∷ [] = c.in_ok-push-2.ensures.items in
    let la : i < length after = (let l = c.requires.after.0 in omega arith) in
    let old = element c.after.inside.aheads.items after i c.index-in-loop-i-3.result.now [] c.after.view_is la c.index-in-loop-i-3.ensures in
    let k = course_is specs rows ss c.list-list.result.now i spec c.index-list-i.result (rw (c.requires.same_specs, c.requires.same_stretches) at c.list-list.ensures) t (get_or_default specs i no_spec spec t) c.index-list-i.is no_spec in
    let is = λ (d : Spec). get_or_default specs i no_spec d t in
    let width = c.in_ok-ahead.ensures.colours ∙ (ap length old ∙ (c.requires.after.1 i no_spec t)) in (
      rw items (length_push _ _ ∙ ap (λ n. n + 1) inv.0),
      rw items (widths_more specs i spec c.loop-i.aheads.items new is inv.0 width inv.1),
      λ h is_hour. rw items (aheads_push specs rows ss (first_tenth h) (end_tenth h) after i c.loop-i.aheads.items new inv.0 (inv.2 h is_hour) (width ∙ ap (λ s. (rules_of s).colours) (is no_spec), before_hour specs rows ss i spec no_spec c.moves.result.now after c.index-in-loop-i-3.result.now new c.first_of-first.result k.0 (c.moves.ensures ∙ k.1) old c.in_ok-ahead.ensures.before (first_tenth h) (end_tenth h) (c.first_of-first.ensures (first_tenth h) (end_tenth h) is_hour.follow (omega arith)) is_hour.follow (hour_rows h rows ss is_hour))),
    )

pub returns-clause-before : goal.returns-clause-before
returns-clause-before c = let all : c.loop-i.i ≡ length c.args.specs.now = omega arith in λ h is. rw (← all) (c.loop-i.invariant.2 h is)
