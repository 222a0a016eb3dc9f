use Rattle.std.proofs.Common.{arith, rules, ap, sym, ◌≡◌, ◌∙◌, ◌+◌, ◌<◌, true, false, [], ◌∷◌, ◌++◌, length, get_or}
use Rattle.std.proofs.lemmas.List.{get_or_default, length_push}
use Rattle.channel_tables.specs.declared.spec.Spec.{Spec}
use Rattle.channel_tables.specs.Spec.{rules_of}
use Rattle.channel_path.proofs.Moving.{earlier_low}
use Rattle.board.specs.Logs.{no_spec, first_tenth, end_tenth}
use Rattle.board.proofs.Among.{chosen_none, chosen_one, told, turn_is, turn_within}
use Rattle.board.proofs.Hours.{moves_order}
use Rattle.board.proofs.Keeping.{ahead_kept}
use Rattle.board.proofs.Plain.{aheads_push, before_hour}
use Rattle.board.proofs.Starting.{widths_more}
use Rattle.board.proofs.Viewing.{element}
use Rattle.board.proofs.Within.{hour_rows}
use Rattle.board.proofs.again.aheads_again.Goals as goal

pub loop-i-preserved-then-not-index : goal.loop-i-preserved-then-not-index
loop-i-preserved-then-not-index c =
    let specs = c.args.specs.now in let rows = c.args.rows.now in let ss = c.args.stretches.now in let after = c.args.after.now in
    let was_before = c.args.was_before.now in
    let others = c.in_ok-others-2.others.items in
    let i = c.loop-i.i in
    let inv = c.loop-i.invariant in
    let lt = c.loop-i-test.true in
    let new = c.copy.result in
    let items : c.push.new.self.items ≡ c.loop-i.aheads.items ++ new ∷ [] = c.in_ok-push.ensures.items in
    let lo : i < length others = (let l = c.in_ok-others-2.ensures.count in let t = c.loop-i-test.true in omega arith) in
    let off : get_or others i false ≡ false = told others i c.index.result.now false lo c.index.ensures c.if-not-index.true in
    let lb : i < length was_before = (let l = c.requires.shape.0 in omega arith) in
    let old = c.copy.ensures ∙ element c.was_before.inside.aheads.items was_before i c.index-then-not-index.result.now [] c.was_before.view_is lb c.index-then-not-index.ensures in
    let width = λ (d : Spec). ap length old ∙ c.requires.shape.1 i d lt in
    let spec = get_or specs i no_spec in
    let is = λ (d : Spec). get_or_default specs i no_spec d lt in (
      rw items (length_push _ _ ∙ ap (λ n. n + 1) inv.0),
      inv.1 ∙ sym (chosen_none others i off),
      rw items (widths_more specs i spec c.loop-i.aheads.items new is inv.0 (width no_spec) inv.2),
      λ h is_hour. rw items (aheads_push specs rows ss (first_tenth h) (end_tenth h) after i c.loop-i.aheads.items new inv.0 (inv.3 h is_hour) (ahead_kept specs rows ss h c.args.was_after.now after was_before i new is_hour lt (c.requires.was h is_hour) (c.in_ok-others-2.ensures.alike i no_spec lt off) old)),
    )

pub index-requires-in-loop-i : goal.index-requires-in-loop-i
index-requires-in-loop-i c =
    let others = c.in_ok-others-2.others.items in
    let i = c.loop-i.i in
    let lo : i < length others = (let l = c.in_ok-others-2.ensures.count in let t = c.loop-i-test.true in omega arith) in
    let on : get_or others i false ≡ true = told others i c.index.result.now true lo c.index.ensures c.if-not-index.false in
    let within : c.loop-i.next < length c.in_ok-courses.courses.items = turn_within c.args.specs.now others 0 c.args.rows.now c.args.stretches.now c.in_ok-courses.courses.items i c.loop-i.next (rw c.deref.ensures.value at c.in_ok-courses.ensures) c.loop-i-test.true on c.loop-i.invariant.1 in
    search (rules, within)

pub ahead_before-requires-clause-order : goal.ahead_before-requires-clause-order
ahead_before-requires-clause-order c =
    let specs = c.args.specs.now in let rows = c.args.rows.now in let ss = c.args.stretches.now in
    let others = c.in_ok-others-2.others.items in
    let i = c.loop-i.i in
    let lo : i < length others = (let l = c.in_ok-others-2.ensures.count in let t = c.loop-i-test.true in omega arith) in
    let on : get_or others i false ≡ true = told others i c.index.result.now true lo c.index.ensures c.if-not-index.false in
    let spec = get_or specs i no_spec in
    let moves = turn_is specs others 0 rows ss c.in_ok-courses.courses.items i c.loop-i.next c.index-in-loop-i.result.now (rw c.deref.ensures.value at c.in_ok-courses.ensures) c.loop-i-test.true on c.loop-i.invariant.1 c.index-in-loop-i.ensures no_spec in
    let order = moves_order spec rows ss c.requires.hour.0 c.requires.hour.1 in
    rw (c.moves-moves.ensures, moves) (earlier_low (rules_of spec) 0 (first_tenth c.requires.hour.0) _ (omega arith) order)

pub overflow_add-next : goal.overflow_add-next
overflow_add-next c =
    let others = c.in_ok-others-2.others.items in
    let i = c.loop-i.i in
    let lo : i < length others = (let l = c.in_ok-others-2.ensures.count in let t = c.loop-i-test.true in omega arith) in
    let on : get_or others i false ≡ true = told others i c.index.result.now true lo c.index.ensures c.if-not-index.false in
    let within : c.loop-i.next < length c.in_ok-courses.courses.items = turn_within c.args.specs.now others 0 c.args.rows.now c.args.stretches.now c.in_ok-courses.courses.items i c.loop-i.next (rw c.deref.ensures.value at c.in_ok-courses.ensures) c.loop-i-test.true on c.loop-i.invariant.1 in
    search (rules, within)

pub loop-i-preserved : goal.loop-i-preserved
loop-i-preserved c =
    let specs = c.args.specs.now in let rows = c.args.rows.now in let ss = c.args.stretches.now in let after = c.args.after.now in
    let others = c.in_ok-others-2.others.items in
    let i = c.loop-i.i in
    let inv = c.loop-i.invariant in
    let lt = c.loop-i-test.true in
    let lo : i < length others = (let l = c.in_ok-others-2.ensures.count in let t = c.loop-i-test.true in omega arith) in
    let on : get_or others i false ≡ true = told others i c.index.result.now true lo c.index.ensures c.if-not-index.false in
    let new = c.ahead_before.result in
    let items : c.push-in-loop-i.new.self.items ≡ c.loop-i.aheads.items ++ new ∷ [] = c.in_ok-push-2.ensures.items in
    let la : i < length after = (let l = c.requires.after.0 in omega arith) in
    let old = element c.after.inside.aheads.items after i c.index-in-loop-i-2.result.now [] c.after.view_is la c.index-in-loop-i-2.ensures in
    let spec = get_or specs i no_spec in
    let is = λ (d : Spec). get_or_default specs i no_spec d lt in
    let moves = turn_is specs others 0 rows ss c.in_ok-courses.courses.items i c.loop-i.next c.index-in-loop-i.result.now (rw c.deref.ensures.value at c.in_ok-courses.ensures) lt on inv.1 c.index-in-loop-i.ensures no_spec in
    let width = c.ahead_before.ensures.colours ∙ (ap length old ∙ (c.requires.after.1 i no_spec lt)) in (
      rw items (length_push _ _ ∙ ap (λ n. n + 1) inv.0),
      ap (λ n. n + 1) inv.1 ∙ sym (chosen_one others i on),
      rw items (widths_more specs i spec c.loop-i.aheads.items new is inv.0 width inv.2),
      λ h is_hour. rw items (aheads_push specs rows ss (first_tenth h) (end_tenth h) after i c.loop-i.aheads.items new inv.0 (inv.3 h is_hour) (width ∙ ap (λ s. (rules_of s).colours) (is no_spec), before_hour specs rows ss i spec no_spec c.moves-moves.result.now after c.index-in-loop-i-2.result.now new c.first_of-first.result (is no_spec) (c.moves-moves.ensures ∙ moves) old c.ahead_before.ensures.before (first_tenth h) (end_tenth h) (c.first_of-first.ensures (first_tenth h) (end_tenth h) is_hour.follow (omega arith)) is_hour.follow (hour_rows h rows ss is_hour))),
    )

pub returns-clause-before : goal.returns-clause-before
returns-clause-before c = let all : c.loop-i.i ≡ length c.args.specs.now = omega arith in λ h is. rw (← all) (c.loop-i.invariant.3 h is)
