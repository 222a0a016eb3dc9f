use Rattle.std.proofs.Common.{arith, ap, ◌≡◌, ◌∙◌, ◌+◌, ◌<◌, [], ◌∷◌, ◌++◌, length, get_or}
use Rattle.std.proofs.lemmas.List.{get_or_default, length_push}
use Rattle.channel_tables.specs.declared.spec.Spec.{Spec}
use Rattle.channel_tables.specs.Spec.{rules_of}
use Rattle.channel_path.proofs.Moving.{earlier_low}
use Rattle.board.specs.Logs.{no_spec, first_tenth, end_tenth}
use Rattle.board.proofs.Hours.{moves_order, course_is}
use Rattle.board.proofs.Plain.{before_hour, aheads_push}
use Rattle.board.proofs.Repeating.{ahead_again, colours_again, stands_last}
use Rattle.board.proofs.Starting.{widths_more}
use Rattle.board.proofs.Viewing.{element}
use Rattle.board.proofs.Within.{hour_rows}
use Rattle.board.proofs.aheads.aheads_along.Goals as goal

pub ahead_before-ahead-requires-clause-fits : goal.ahead_before-ahead-requires-clause-fits
ahead_before-ahead-requires-clause-fits c = c.requires.specs.fit c.loop-i.i no_spec c.loop-i-test.true

pub ahead_before-ahead-requires-clause-order : goal.ahead_before-ahead-requires-clause-order
ahead_before-ahead-requires-clause-order c =
    let spec = get_or c.args.specs.now c.loop-i.i no_spec in
    let k = course_is c.args.specs.now c.args.courses.now.rows c.args.stretches.now c.list-list.result.now c.loop-i.i spec c.index-list-i.result (rw (c.requires.same_specs, c.requires.same_stretches) at c.list-list.ensures) c.loop-i-test.true (get_or_default c.args.specs.now c.loop-i.i no_spec spec c.loop-i-test.true) c.index-list-i.is no_spec in
    let order = moves_order spec c.args.courses.now.rows c.args.stretches.now c.requires.hour.0 c.requires.hour.1 in
    rw (c.moves.ensures, k.1) (earlier_low (rules_of spec) 0 (first_tenth c.requires.hour.0) _ (omega arith) order)

pub ahead_before-ahead-requires-clause-colours : goal.ahead_before-ahead-requires-clause-colours
ahead_before-ahead-requires-clause-colours c =
    let spec = get_or c.args.specs.now c.loop-i.i no_spec in
    let after = c.args.after.now in
    let i = c.loop-i.i in
    let la : i < length after = (let l = c.requires.after.0 in let t = c.loop-i-test.true in omega arith) in
    let old = element c.after.inside.aheads.items after i c.index-in-loop-i.result.now [] c.after.view_is la c.index-in-loop-i.ensures in
    ap length old ∙ (c.requires.after.1 i no_spec c.loop-i-test.true)

pub loop-i-preserved-then-repeats_ahead : goal.loop-i-preserved-then-repeats_ahead
loop-i-preserved-then-repeats_ahead c =
    let specs = c.args.specs.now in let rows = c.args.courses.now.rows in let ss = c.args.stretches.now in let after = c.args.after.now in
    let i = c.loop-i.i in
    let t = c.loop-i-test.true in
    let spec = get_or specs i no_spec in
    let inv = c.loop-i.invariant in
    let new = c.copy-ahead.result in
    let items : c.push.new.self.items ≡ c.loop-i.aheads.items ++ new ∷ [] = c.in_ok-push.ensures.items in
    let again = c.repeats_ahead.ensures.repeats c.if-repeats_ahead.true in
    let twice = c.repeats_ahead.ensures.states c.if-repeats_ahead.true in
    let at = again.place in
    let courses = rw (c.requires.same_specs, c.requires.same_stretches) at c.list-list.ensures in
    let old : new ≡ get_or c.loop-i.aheads.items again.last [] = c.copy-ahead.ensures ∙ stands_last c.loop-i.aheads.items i again.last c.index.result.now [] at inv.0 c.index.ensures in
    let width = colours_again specs c.list-list.result.now c.loop-i.aheads.items i new again old inv.1 no_spec in (
      rw items (length_push _ _ ∙ ap (λ n. n + 1) inv.0),
      rw items (widths_more specs i spec c.loop-i.aheads.items new (λ d. get_or_default specs i no_spec d t) inv.0 width inv.1),
      λ h is_hour. rw items (aheads_push specs rows ss (first_tenth h) (end_tenth h) after i c.loop-i.aheads.items new inv.0 (inv.2 h is_hour) (width, ahead_again specs rows ss c.list-list.result.now (first_tenth h) (end_tenth h) after c.loop-i.aheads.items i new again twice courses t is_hour.follow (hour_rows h rows ss is_hour) old (inv.2 h is_hour))),
    )

pub loop-i-preserved : goal.loop-i-preserved
loop-i-preserved c =
    let specs = c.args.specs.now in let rows = c.args.courses.now.rows in let ss = c.args.stretches.now in let after = c.args.after.now in
    let i = c.loop-i.i in
    let spec = get_or c.args.specs.now c.loop-i.i no_spec in
    let inv = c.loop-i.invariant in
    let new = c.ahead_before-ahead.result in
    let items : c.push-in-loop-i.new.self.items ≡ c.loop-i.aheads.items ++ new ∷ [] = c.in_ok-push-2.ensures.items in
    let la : i < length after = (let l = c.requires.after.0 in let t = c.loop-i-test.true in omega arith) in
    let old = element c.after.inside.aheads.items after i c.index-in-loop-i.result.now [] c.after.view_is la c.index-in-loop-i.ensures in
    let k = course_is specs rows ss c.list-list.result.now i spec c.index-list-i.result (rw (c.requires.same_specs, c.requires.same_stretches) at c.list-list.ensures) c.loop-i-test.true (get_or_default c.args.specs.now c.loop-i.i no_spec spec c.loop-i-test.true) c.index-list-i.is no_spec in
    let is = λ (d : Spec). get_or_default specs i no_spec d c.loop-i-test.true in
    let width = c.ahead_before-ahead.ensures.colours ∙ (ap length old ∙ (c.requires.after.1 i no_spec c.loop-i-test.true)) in (
      rw items (length_push _ _ ∙ ap (λ n. n + 1) inv.0),
      rw items (widths_more specs i spec c.loop-i.aheads.items new is inv.0 width inv.1),
      λ h is_hour. rw items (aheads_push specs rows ss (first_tenth h) (end_tenth h) after i c.loop-i.aheads.items new inv.0 (inv.2 h is_hour) (width ∙ ap (λ s. (rules_of s).colours) (is no_spec), before_hour specs rows ss i spec no_spec c.moves.result.now after c.index-in-loop-i.result.now new c.first_of-first.result k.0 (c.moves.ensures ∙ k.1) old c.ahead_before-ahead.ensures.before (first_tenth h) (end_tenth h) (c.first_of-first.ensures (first_tenth h) (end_tenth h) is_hour.follow (omega arith)) is_hour.follow (hour_rows h rows ss is_hour))),
    )

pub returns-clause-shape : goal.returns-clause-shape
returns-clause-shape c = let all : c.loop-i.i ≡ length c.args.specs.now = omega arith in (c.loop-i.invariant.0 ∙ all, rw (← all) c.loop-i.invariant.1)

pub returns-clause-before : goal.returns-clause-before
returns-clause-before c = let all : c.loop-i.i ≡ length c.args.specs.now = omega arith in λ h is. rw (← all) (c.loop-i.invariant.2 h is)
