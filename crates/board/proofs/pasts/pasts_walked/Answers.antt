use Rattle.std.proofs.Common.{arith, ap, ◌≡◌, ◌∙◌, ◌+◌, ◌<◌, [], ◌∷◌, ◌++◌, length, get_or, None}
use Rattle.std.proofs.lemmas.List.{get_or_default, length_push}
use Rattle.channel_tables.specs.declared.spec.Spec.{Spec}
use Rattle.channel_tables.specs.Spec.{rules_of}
use Rattle.board.specs.Channels.{track}
use Rattle.board.specs.Logs.{no_spec, first_tenth, end_tenth}
use Rattle.board.proofs.Hours.{both_none, colours_more, course_is, moves_order}
use Rattle.board.proofs.Keeping.{alone_after, alone_stops, clamped_more, states_more, stop_more, walked_stops}
use Rattle.board.proofs.Plain.{clamped_some}
use Rattle.board.proofs.Repeating.{clamped_again, colours_again, stands_last, stop_again}
use Rattle.board.proofs.Viewing.{element}
use Rattle.board.proofs.Within.{hour_rows}
use Rattle.board.proofs.pasts.pasts_walked.Goals as goal

pub walk_spec-requires-clause-fits : goal.walk_spec-requires-clause-fits
walk_spec-requires-clause-fits c = c.requires.specs.fit c.loop-i.i no_spec c.loop-i-test.true

pub walk_spec-requires-clause-order : goal.walk_spec-requires-clause-order
walk_spec-requires-clause-order c =
    let spec = get_or c.args.specs.now c.loop-i.i no_spec in
    let before = c.args.before.now in
    let i = c.loop-i.i in
    let k = course_is c.args.specs.now c.args.courses.now.rows c.args.stretches.now c.list-list.result.now i spec c.index-list-i.result (rw (c.requires.same_specs, c.requires.same_stretches) at c.list-list.ensures) c.loop-i-test.true (get_or_default c.args.specs.now c.loop-i.i no_spec spec c.loop-i-test.true) c.index-list-i.is no_spec in
    let small : i < length before = (let l = c.requires.before.0 in let t = c.loop-i-test.true in omega arith) in
    let old : c.in_ok-past-2.past ≡ get_or before i [] = c.in_ok-past-2.ensures ∙ element c.before-2.inside.pasts.items before i c.index-in-loop-i.result.now [] c.before-2.view_is small c.index-in-loop-i.ensures in
    (first_tenth c.requires.hour.0, rw old (c.requires.hour.2 i), rw (c.moves.ensures, k.1) (moves_order spec c.args.courses.now.rows c.args.stretches.now c.requires.hour.0 c.requires.hour.1))

pub walk_spec-requires-clause-colours : goal.walk_spec-requires-clause-colours
walk_spec-requires-clause-colours c =
    let spec = get_or c.args.specs.now c.loop-i.i no_spec in
    let before = c.args.before.now in
    let i = c.loop-i.i in
    let small : i < length before = (let l = c.requires.before.0 in let t = c.loop-i-test.true in omega arith) in
    let old : c.in_ok-past-2.past ≡ get_or before i [] = c.in_ok-past-2.ensures ∙ element c.before-2.inside.pasts.items before i c.index-in-loop-i.result.now [] c.before-2.view_is small c.index-in-loop-i.ensures in
    ap length old ∙ ((c.requires.before.1 i no_spec c.loop-i-test.true).0)

pub walk_spec-requires-clause-some : goal.walk_spec-requires-clause-some
walk_spec-requires-clause-some c =
    let spec = get_or c.args.specs.now c.loop-i.i no_spec in
    let before = c.args.before.now in
    let i = c.loop-i.i in
    let small : i < length before = (let l = c.requires.before.0 in let t = c.loop-i-test.true in omega arith) in
    let old : c.in_ok-past-2.past ≡ get_or before i [] = c.in_ok-past-2.ensures ∙ element c.before-2.inside.pasts.items before i c.index-in-loop-i.result.now [] c.before-2.view_is small c.index-in-loop-i.ensures in
    rw old ((c.requires.before.1 i no_spec c.loop-i-test.true).1)

pub loop-i-preserved-then-repeats_past : goal.loop-i-preserved-then-repeats_past
loop-i-preserved-then-repeats_past c =
    let specs = c.args.specs.now in let rows = c.args.courses.now.rows in let ss = c.args.stretches.now in let before = c.args.before.now in
    let i = c.loop-i.i in
    let t = c.loop-i-test.true in
    let inv = c.loop-i.invariant in
    let new = c.in_ok-past.past in
    let items : c.push.new.self.items ≡ c.loop-i.pasts.items ++ new ∷ [] = c.in_ok-push.ensures.items in
    let again = c.repeats_past.ensures.repeats c.if-repeats_past.true in
    let twice = c.repeats_past.ensures.states c.if-repeats_past.true in
    let at = again.place in
    let courses = rw (c.requires.same_specs, c.requires.same_stretches) at c.list-list.ensures in
    let old : new ≡ get_or c.loop-i.pasts.items again.last [] = c.in_ok-past.ensures ∙ stands_last c.loop-i.pasts.items i again.last c.index.result.now [] at inv.count c.index.ensures in
    record {
      count = rw items (length_push _ _ ∙ ap (λ n. n + 1) inv.count);
      stop = stop_again specs rows ss c.list-list.result.now before i c.loop-i.stop again twice courses t inv.stop;
      colours = rw items (colours_more specs i c.loop-i.pasts.items new inv.count inv.colours (colours_again specs c.list-list.result.now c.loop-i.pasts.items i new again old inv.colours));
      some = λ none. rw items (states_more i c.loop-i.pasts.items new inv.count (inv.some none) (rw old (inv.some none again.last (omega arith))));
      after = λ none. rw items (clamped_more specs rows ss before i c.loop-i.pasts.items new inv.count (inv.after none) (clamped_again specs rows ss c.list-list.result.now before c.loop-i.pasts.items i new again twice courses t old (inv.after none)));
    }

pub loop-i-preserved : goal.loop-i-preserved
loop-i-preserved c =
    let specs = c.args.specs.now in let rows = c.args.courses.now.rows in let ss = c.args.stretches.now in let before = c.args.before.now in
    let i = c.loop-i.i in
    let inv = c.loop-i.invariant in
    let lt = c.loop-i-test.true in
    let new = c.clamp_past.new.past in
    let items : c.push-in-loop-i.new.self.items ≡ c.loop-i.pasts.items ++ new ∷ [] = c.in_ok-push-2.ensures.items in
    let lb : i < length before = (let l = c.requires.before.0 in omega arith) in
    let old : c.in_ok-past-2.past ≡ get_or before i [] = c.in_ok-past-2.ensures ∙ element c.before-2.inside.pasts.items before i c.index-in-loop-i.result.now [] c.before-2.view_is lb c.index-in-loop-i.ensures in
    let spec = get_or specs i no_spec in
    let is = λ (d : Spec). get_or_default specs i no_spec d lt in
    let moves = c.moves.ensures ∙ (course_is specs rows ss c.list-list.result.now i spec c.index-list-i.result (rw (c.requires.same_specs, c.requires.same_stretches) at c.list-list.ensures) lt (is spec) c.index-list-i.is no_spec).1 in
    let walked = rw moves at c.in_ok-next.ensures.after in
    let stops = walked_stops (rules_of spec) c.in_ok-past-2.past _ c.walk_spec.new.past c.in_ok-next.next walked in
    let width = c.clamp_past.ensures.0 ∙ (c.in_ok-next.ensures.colours ∙ ap length old) in
    let none_of = λ (none : c.earlier-stop.result ≡ None). (both_none c.loop-i.stop c.in_ok-next.next c.earlier-stop.result c.earlier-stop.ensures none) in
    record {
      count = rw items (length_push _ _ ∙ ap (λ n. n + 1) inv.count);
      stop = stop_more specs rows ss before i c.loop-i.stop c.in_ok-next.next c.earlier-stop.result inv.stop (λ d. alone_stops specs rows ss before i spec d c.in_ok-past-2.past c.in_ok-next.next (is d) old stops) c.earlier-stop.ensures;
      colours = rw items (colours_more specs i c.loop-i.pasts.items new inv.count inv.colours (λ d. width ∙ (c.requires.before.1 i d lt).0));
      some = λ none.
          let n = none_of none in
          let (states, (u, after)) = rw (n.1) at walked in
          rw items (states_more i c.loop-i.pasts.items new inv.count (inv.some n.0) (clamped_some _ c.walk_spec.new.past new c.clamp_past.ensures (u, (states u).1 after)));
      after = λ none.
          let n = none_of none in
          let all = rw (n.1) at walked in
          rw items (clamped_more specs rows ss before i c.loop-i.pasts.items new inv.count (inv.after n.0) (λ h hour.
          let clamped = rw (c.end_of-end.ensures (first_tenth h) (end_tenth h) hour.follow) at c.clamp_past.ensures in
          rw old at (alone_after (track spec) (first_tenth h) (end_tenth h) rows ss c.in_ok-past-2.past c.walk_spec.new.past new hour.follow (hour_rows h rows ss hour) all.0 clamped)));
    }

pub returns-clause-stop : goal.returns-clause-stop
returns-clause-stop c = let all : c.loop-i.i ≡ length c.args.specs.now = omega arith in rw (← all) c.loop-i.invariant.stop

pub returns-clause-pasts : goal.returns-clause-pasts
returns-clause-pasts c = let all : c.loop-i.i ≡ length c.args.specs.now = omega arith in λ none h is i lt. c.loop-i.invariant.after none h is i (omega arith)
