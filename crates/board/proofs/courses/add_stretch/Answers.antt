use Rattle.std.proofs.Common.{rules, arith, ap, ◌∙◌, [], ◌++◌, ◌+◌, ◌≤◌, length, get_or}
use Rattle.board.proofs.Adding.{count_le, stretch_known}
use Rattle.board.proofs.courses.add_stretch.Goals as goal
use Rattle.board.specs.Channels.{track}

pub split_at-requires-then-stretch : goal.split_at-requires-then-stretch
split_at-requires-then-stretch c = let e = c.count_before-count.ensures in omega (arith, count_le c.args.stretch.to c.split_at.result.1.now)

pub returns-then-stretch-clause-added : goal.returns-then-stretch-clause-added
returns-then-stretch-clause-added c =
    let back = c.split_at.ensures.back in
    let count = rw back at c.count_before-count.ensures in
    let front = rw (back, count) at c.split_at-then-stretch.ensures.front in
    let added = c.in_ok-add_rows.ensures.added in
    λ d. ((added d).0, λ i lt. (added d).1 i lt ∙ ap (λ ms. get_or c.args.courses.now i [] ++ ms) (stretch_known (track (get_or c.args.specs.now i d)) c.args.next _ _ c.args.stretch c.if-stretch.true front))

pub overflow_add-result-2 : goal.overflow_add-result-2
overflow_add-result-2 c =
    let e = c.count_before-count.ensures in
    let l = count_le c.args.stretch.to c.split_at.result.1.now in
    let n : c.args.next + c.count_before-count.result ≤ length c.args.rows.now = (let b = c.split_at.ensures.back_len in omega arith) in
    search (rules, n)
