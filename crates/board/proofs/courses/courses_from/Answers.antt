use Rattle.std.proofs.Common.{rules, arith, ◌∙◌, [], ◌++◌, length-drop, ◌≡◌, length, drop, take, get_or}
use Rattle.board.proofs.Adding.{count_le, stretch_turn, stretches_done, written_back, no_stretch}
use Rattle.board.proofs.Few.{few_specs}
use Rattle.board.proofs.courses.courses_from.Goals as goal
use Rattle.board.specs.Channels.{track}

pub new-requires : goal.new-requires
new-requires c = let few = few_specs c.args.specs.now c.requires.specs in omega arith

pub loop-stretch-preserved : goal.loop-stretch-preserved
loop-stretch-preserved c =
    let inv = c.loop-stretch.invariant in
    let next = c.in_ok-next.ensures.next in
    let len : length c.add_stretch.new.courses ≡ length c.loop-stretch.courses.items = search rules in
    let back : take c.loop-stretch.courses.len (c.add_stretch.new.courses ++ drop (length c.add_stretch.new.courses) c.loop-stretch.courses.items) ≡ c.add_stretch.new.courses = written_back c.loop-stretch.courses.len c.add_stretch.new.courses c.loop-stretch.courses.items (search rules) len in
    let added = rw c.as_mut_slice.ensures.value at c.in_ok-next.ensures.added in
    let c1 = count_le (get_or c.args.stretches.now c.loop-stretch.stretch-index no_stretch).to (drop c.loop-stretch.next c.args.rows.now) in
    let c2 = length-drop c.loop-stretch.next c.args.rows.now in
    rw back (c.in_ok-next.ensures.finder, omega arith, len ∙ inv.2, λ i d lt. rw next (stretch_turn (track (get_or c.args.specs.now i d)) c.args.rows.now c.args.stretches.now c.loop-stretch.next c.loop-stretch.stretch-index no_stretch (get_or c.loop-stretch.courses.items i []) (get_or c.add_stretch.new.courses i []) _ c.loop-stretch-test.true (inv.3 i d lt) ((added d).1 i (let l = inv.2 in omega arith))))

pub returns : goal.returns
returns c =
    let inv = c.loop-stretch.invariant in
    (inv.2, λ i d lt. stretches_done (track (get_or c.args.specs.now i d)) _ c.args.stretches.now c.loop-stretch.next c.loop-stretch.stretch-index (get_or c.loop-stretch.courses.items i []) _ (omega arith) (inv.3 i d lt))
