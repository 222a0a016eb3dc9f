use Rattle.std.proofs.Common.{arith, rules, ap, sym, ◌≡◌, ◌∙◌, ◌+◌, ◌<◌, true, false, not, [], ◌∷◌, ◌++◌, drop, length, get_or}
use Rattle.std.proofs.lemmas.List.{get_or_default, length_push}
use Rattle.board.specs.Logs.{first_tenth, end_tenth, no_spec}
use Rattle.board.proofs.Among.{chosen_none, chosen_one, told, turn_is, turn_within}
use Rattle.board.proofs.Ending.{alike_more, alike_same, end_alike, end_moves, true_not}
use Rattle.board.proofs.Viewing.{element}
use Rattle.board.proofs.Within.{hour_rows}
use Rattle.board.proofs.again.unmet.Goals as goal

pub loop-i-preserved-then-not-index : goal.loop-i-preserved-then-not-index
loop-i-preserved-then-not-index c =
    let specs = c.args.specs.now in let rows = c.args.rows.now in let ss = c.args.stretches.now in
    let others = c.args.others.items in
    let i = c.loop-i.i in
    let inv = c.loop-i.invariant in
    let lt = c.loop-i-test.true in
    let lo : i < length others = (let l = c.requires.count in omega arith) in
    let off : get_or others i false ≡ false = told others i c.index.result.now false lo c.index.ensures c.if-not-index.true in
    let items : c.push.new.self.items ≡ c.loop-i.unmet.items ++ false ∷ [] = c.in_ok-push.ensures.items in
    record {
      count = rw items (length_push _ _ ∙ ap (λ n. n + 1) inv.count);
      next = inv.next ∙ sym (chosen_none others i off);
      alike = rw items (alike_more specs rows ss c.args.after.now c.args.was_after.now c.loop-i.unmet.items i false inv.count inv.alike (λ _ d. alike_same specs rows ss i d _ _ (c.requires.same i lt off)));
    }

pub index-requires-in-loop-i : goal.index-requires-in-loop-i
index-requires-in-loop-i c =
    let others = c.args.others.items in
    let i = c.loop-i.i in
    let lo : i < length others = (let l = c.requires.count in let t = c.loop-i-test.true in omega arith) in
    let on : get_or others i false ≡ true = told others i c.index.result.now true lo c.index.ensures c.if-not-index.false in
    let first = c.rows_before-first.result in
    let within : c.loop-i.next < length c.in_ok-courses.courses.items = turn_within c.args.specs.now others first (drop first c.args.rows.now) (c.in-Some.end ∷ []) c.in_ok-courses.courses.items i c.loop-i.next (rw c.deref.ensures.value at c.in_ok-courses.ensures) c.loop-i-test.true on c.loop-i.invariant.next in
    search (rules, within)

pub meets-met-requires-clause-order : goal.meets-met-requires-clause-order
meets-met-requires-clause-order c =
    let specs = c.args.specs.now in let rows = c.args.rows.now in let ss = c.args.stretches.now in
    let others = c.args.others.items in
    let i = c.loop-i.i in
    let lo : i < length others = (let l = c.requires.count in let t = c.loop-i-test.true in omega arith) in
    let on : get_or others i false ≡ true = told others i c.index.result.now true lo c.index.ensures c.if-not-index.false in
    let first = c.rows_before-first.result in
    let (h, is) = c.requires.hour in
    let count = c.rows_before-first.ensures.count (first_tenth h) (end_tenth h) (hour_rows h rows ss is) in
    let moves = turn_is specs others first (drop first rows) (c.in-Some.end ∷ []) c.in_ok-courses.courses.items i c.loop-i.next c.index-in-loop-i.result.now (rw c.deref.ensures.value at c.in_ok-courses.ensures) c.loop-i-test.true on c.loop-i.invariant.next c.index-in-loop-i.ensures no_spec in
    rw (c.moves-moves.ensures, moves) (end_moves (get_or specs i no_spec) h first rows ss c.in-Some.end is c.in-Some.ensures count).0

pub overflow_add-next : goal.overflow_add-next
overflow_add-next c =
    let others = c.args.others.items in
    let i = c.loop-i.i in
    let lo : i < length others = (let l = c.requires.count in let t = c.loop-i-test.true in omega arith) in
    let on : get_or others i false ≡ true = told others i c.index.result.now true lo c.index.ensures c.if-not-index.false in
    let first = c.rows_before-first.result in
    let within : c.loop-i.next < length c.in_ok-courses.courses.items = turn_within c.args.specs.now others first (drop first c.args.rows.now) (c.in-Some.end ∷ []) c.in_ok-courses.courses.items i c.loop-i.next (rw c.deref.ensures.value at c.in_ok-courses.ensures) c.loop-i-test.true on c.loop-i.invariant.next in
    search (rules, within)

pub loop-i-preserved : goal.loop-i-preserved
loop-i-preserved c =
    let specs = c.args.specs.now in let rows = c.args.rows.now in let ss = c.args.stretches.now in
    let after = c.args.after.now in let was_after = c.args.was_after.now in
    let others = c.args.others.items in
    let i = c.loop-i.i in
    let inv = c.loop-i.invariant in
    let lt = c.loop-i-test.true in
    let lo : i < length others = (let l = c.requires.count in omega arith) in
    let on : get_or others i false ≡ true = told others i c.index.result.now true lo c.index.ensures c.if-not-index.false in
    let items : c.push-in-loop-i.new.self.items ≡ c.loop-i.unmet.items ++ not c.meets-met.result ∷ [] = c.in_ok-push-2.ensures.items in
    let first = c.rows_before-first.result in
    let (h, is) = c.requires.hour in
    let count = c.rows_before-first.ensures.count (first_tenth h) (end_tenth h) (hour_rows h rows ss is) in
    let la : i < length after = (let l = c.requires.after.0 in omega arith) in
    let lb : i < length was_after = (let l = c.requires.was_shape.0 in omega arith) in
    let a = element c.after.inside.aheads.items after i c.index-in-loop-i-2.result.now [] c.after.view_is la c.index-in-loop-i-2.ensures in
    let b = element c.was_after.inside.aheads.items was_after i c.index-in-loop-i-3.result.now [] c.was_after.view_is lb c.index-in-loop-i-3.ensures in
    let moves = turn_is specs others first (drop first rows) (c.in-Some.end ∷ []) c.in_ok-courses.courses.items i c.loop-i.next c.index-in-loop-i.result.now (rw c.deref.ensures.value at c.in_ok-courses.ensures) lt on inv.next c.index-in-loop-i.ensures no_spec in
    let over = λ (yes : c.meets-met.result ≡ true). end_alike (get_or specs i no_spec) h first rows ss c.in-Some.end (get_or after i []) (get_or was_after i []) is c.in-Some.ensures count (rw (c.moves-moves.ensures, moves, a, b) at (c.meets-met.ensures yes)) in
    record {
      count = rw items (length_push _ _ ∙ ap (λ n. n + 1) inv.count);
      next = ap (λ n. n + 1) inv.next ∙ sym (chosen_one others i on);
      alike = rw items (alike_more specs rows ss after was_after c.loop-i.unmet.items i (not c.meets-met.result) inv.count inv.alike (λ met d. rw (get_or_default specs i d no_spec lt) (over (true_not _ met))));
    }

pub returns-clause-alike : goal.returns-clause-alike
returns-clause-alike c = λ i d lt. c.loop-i.invariant.alike i d (let ge = c.loop-i-test.false in omega arith)
