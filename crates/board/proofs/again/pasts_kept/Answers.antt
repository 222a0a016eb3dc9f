use Rattle.std.proofs.Common.{arith, rules, ap, sym, false, ◌≡◌, ◌∙◌, ◌+◌, ◌<◌, [], ◌∷◌, ◌++◌, length, get_or, None}
use Rattle.std.proofs.lemmas.List.{get_or_default, length_push}
use Rattle.channel_tables.specs.declared.spec.Spec.{Spec}
use Rattle.channel_tables.specs.Spec.{rules_of}
use Rattle.board.specs.Channels.{track}
use Rattle.board.specs.Logs.{first_tenth, end_tenth, no_spec}
use Rattle.board.proofs.Among.{chosen_none, chosen_one, turn_is, turn_within}
use Rattle.board.proofs.Hours.{both_none, colours_more, moves_order}
use Rattle.board.proofs.Plain.{clamped_some}
use Rattle.board.proofs.Within.{hour_rows}
use Rattle.board.proofs.Keeping.{alone_after, alone_stops, walked_stops, clamped_more, earlier_none, kept_after, kept_goes_on, states_more, stop_more}
use Rattle.board.proofs.Viewing.{element}
use Rattle.board.proofs.again.pasts_kept.Goals as goal

pub loop-i-preserved-then-not-others-i : goal.loop-i-preserved-then-not-others-i
loop-i-preserved-then-not-others-i c =
    let specs = c.args.specs.now in let rows = c.args.rows.now in let ss = c.args.stretches.now in let before = c.args.before.now in
    let others = c.args.others.now in let was_after = c.args.was_after.now in
    let (was_before, was, alike) = c.requires.was in
    let i = c.loop-i.i in
    let inv = c.loop-i.invariant in
    let lt = c.loop-i-test.true in
    let new = c.in_ok-past.past in
    let items : c.push.new.self.items ≡ c.loop-i.pasts.items ++ new ∷ [] = c.in_ok-push.ensures.items in
    let la : i < length was_after = (let l = c.requires.shape.0 in let t = c.loop-i-test.true in omega arith) in
    let old : new ≡ get_or was_after i [] = c.in_ok-past.ensures ∙ element c.was_after.inside.pasts.items was_after i c.index.result.now [] c.was_after.view_is la c.index.ensures in
    let off : get_or others i false ≡ false = c.if-not-others-i.true in
    let same = alike i lt off in
    let go = λ (d : Spec). kept_goes_on specs rows ss c.requires.hour.0 was_before was_after before i d c.requires.hour.1 lt was same (get_or_default specs i no_spec d lt) in
    record {
      count = rw items (length_push _ _ ∙ ap (λ n. n + 1) inv.count);
      next = inv.next ∙ sym (chosen_none others i off);
      stop = stop_more specs rows ss before i c.loop-i.stop None c.loop-i.stop inv.stop go (earlier_none c.loop-i.stop);
      colours = rw items (colours_more specs i c.loop-i.pasts.items new inv.count inv.colours (λ d. ap length old ∙ (c.requires.shape.1 i d lt).0));
      some = λ none. rw items (states_more i c.loop-i.pasts.items new inv.count (inv.some none) (rw old ((c.requires.shape.1 i no_spec lt).1)));
      after = λ none. rw items (clamped_more specs rows ss before i c.loop-i.pasts.items new inv.count (inv.after none) (kept_after specs rows ss was_before was_after before i new lt was same old));
    }

pub index-requires-in-loop-i-2 : goal.index-requires-in-loop-i-2
index-requires-in-loop-i-2 c =
    let within : c.loop-i.next < length c.in_ok-courses.courses.items = turn_within c.args.specs.now c.args.others.now 0 c.args.rows.now c.args.stretches.now c.in_ok-courses.courses.items c.loop-i.i c.loop-i.next c.in_ok-courses.ensures c.loop-i-test.true c.if-not-others-i.false c.loop-i.invariant.next in
    search (rules, within)

pub overflow_add-next : goal.overflow_add-next
overflow_add-next c =
    let within : c.loop-i.next < length c.in_ok-courses.courses.items = turn_within c.args.specs.now c.args.others.now 0 c.args.rows.now c.args.stretches.now c.in_ok-courses.courses.items c.loop-i.i c.loop-i.next c.in_ok-courses.ensures c.loop-i-test.true c.if-not-others-i.false c.loop-i.invariant.next in
    search (rules, within)

pub walk_spec-requires-clause-order : goal.walk_spec-requires-clause-order
walk_spec-requires-clause-order c =
    let specs = c.args.specs.now in let rows = c.args.rows.now in let ss = c.args.stretches.now in let before = c.args.before.now in
    let i = c.loop-i.i in
    let lb : i < length before = (let l = c.requires.before.0 in let t = c.loop-i-test.true in omega arith) in
    let old : c.in_ok-past-2.past ≡ get_or before i [] = c.in_ok-past-2.ensures ∙ element c.before-2.inside.pasts.items before i c.index-in-loop-i.result.now [] c.before-2.view_is lb c.index-in-loop-i.ensures in
    let moves = c.moves.ensures ∙ turn_is specs c.args.others.now 0 rows ss c.in_ok-courses.courses.items i c.loop-i.next c.index-in-loop-i-2.result.now c.in_ok-courses.ensures c.loop-i-test.true c.if-not-others-i.false c.loop-i.invariant.next c.index-in-loop-i-2.ensures no_spec in
    let (h, is, early) = c.requires.hour in
    (first_tenth h, rw old (early i), rw moves (moves_order (get_or specs i no_spec) rows ss h is))

pub walk_spec-requires-clause-some : goal.walk_spec-requires-clause-some
walk_spec-requires-clause-some c =
    let before = c.args.before.now in
    let i = c.loop-i.i in
    let lb : i < length before = (let l = c.requires.before.0 in let t = c.loop-i-test.true in omega arith) in
    let old : c.in_ok-past-2.past ≡ get_or before i [] = c.in_ok-past-2.ensures ∙ element c.before-2.inside.pasts.items before i c.index-in-loop-i.result.now [] c.before-2.view_is lb c.index-in-loop-i.ensures in
    rw old ((c.requires.before.1 i no_spec c.loop-i-test.true).1)

pub loop-i-preserved : goal.loop-i-preserved
loop-i-preserved c =
    let specs = c.args.specs.now in let rows = c.args.rows.now in let ss = c.args.stretches.now in let before = c.args.before.now in
    let i = c.loop-i.i in
    let inv = c.loop-i.invariant in
    let lt = c.loop-i-test.true in
    let new = c.clamp_past.new.past in
    let items : c.push-in-loop-i.new.self.items ≡ c.loop-i.pasts.items ++ new ∷ [] = c.in_ok-push-2.ensures.items in
    let lb : i < length before = (let l = c.requires.before.0 in omega arith) in
    let old : c.in_ok-past-2.past ≡ get_or before i [] = c.in_ok-past-2.ensures ∙ element c.before-2.inside.pasts.items before i c.index-in-loop-i.result.now [] c.before-2.view_is lb c.index-in-loop-i.ensures in
    let spec = get_or specs i no_spec in
    let is = λ (d : Spec). get_or_default specs i no_spec d lt in
    let moves = c.moves.ensures ∙ turn_is specs c.args.others.now 0 rows ss c.in_ok-courses.courses.items i c.loop-i.next c.index-in-loop-i-2.result.now c.in_ok-courses.ensures lt c.if-not-others-i.false inv.next c.index-in-loop-i-2.ensures no_spec in
    let walked = rw moves at c.in_ok-here.ensures.after in
    let stops = walked_stops (rules_of spec) c.in_ok-past-2.past _ c.walk_spec.new.past c.in_ok-here.here walked in
    let width = c.clamp_past.ensures.0 ∙ (c.in_ok-here.ensures.colours ∙ ap length old) in
    let none_of = λ (none : c.earlier-stop.result ≡ None). (both_none c.loop-i.stop c.in_ok-here.here c.earlier-stop.result c.earlier-stop.ensures none) in
    record {
      count = rw items (length_push _ _ ∙ ap (λ n. n + 1) inv.count);
      next = ap (λ n. n + 1) inv.next ∙ sym (chosen_one c.args.others.now i c.if-not-others-i.false);
      stop = stop_more specs rows ss before i c.loop-i.stop c.in_ok-here.here c.earlier-stop.result inv.stop (λ d. alone_stops specs rows ss before i spec d c.in_ok-past-2.past c.in_ok-here.here (is d) old stops) c.earlier-stop.ensures;
      colours = rw items (colours_more specs i c.loop-i.pasts.items new inv.count inv.colours (λ d. width ∙ (c.requires.before.1 i d lt).0));
      some = λ none.
          let n = none_of none in
          let (states, (u, after)) = rw (n.1) at walked in
          rw items (states_more i c.loop-i.pasts.items new inv.count (inv.some n.0) (clamped_some _ c.walk_spec.new.past new c.clamp_past.ensures (u, (states u).1 after)));
      after = λ none.
          let n = none_of none in
          let all = rw (n.1) at walked in
          rw items (clamped_more specs rows ss before i c.loop-i.pasts.items new inv.count (inv.after n.0) (λ h hour.
          let clamped = rw (c.end_of-end.ensures (first_tenth h) (end_tenth h) hour.follow) at c.clamp_past.ensures in
          rw old at (alone_after (track spec) (first_tenth h) (end_tenth h) rows ss c.in_ok-past-2.past c.walk_spec.new.past new hour.follow (hour_rows h rows ss hour) all.0 clamped)));
    }

pub returns-clause-stop : goal.returns-clause-stop
returns-clause-stop c = let all : c.loop-i.i ≡ length c.args.specs.now = omega arith in rw (← all) c.loop-i.invariant.stop

pub returns-clause-pasts : goal.returns-clause-pasts
returns-clause-pasts c = let all : c.loop-i.i ≡ length c.args.specs.now = omega arith in λ none h is i lt. c.loop-i.invariant.after none h is i (omega arith)
