use Rattle.std.proofs.Common.{rules, arith, ◌≡◌, ◌-◌, ◌<◌, ◌≤◌, length, sym, Some, true}
use Rattle.std.specs.Prelude.{slice_get}
use Rattle.std.proofs.lemmas.Option.{get_or_from_slice_get, slice_get_within}
use Rattle.board.proofs.Adding.{no_stretch}
use Rattle.board.proofs.Ending.{end_of_last, last_fits}
use Rattle.board.proofs.meeting.known_end.Goals as goal

pub returns : goal.returns
returns c = λ f t follow.
    let ss = c.args.stretches.now in
    let n = length ss - 1 in
    let s = c.in_ok-last.last.now in
    let at : slice_get ss n ≡ Some s = sym c.in_ok-last.ensures.value in
    let within = slice_get_within ss n s at in
    let is = get_or_from_slice_get ss n s no_stretch at in
    let fits = last_fits f t n ss (omega arith) follow in
    let fits2 : s.from < s.to = rw is at fits in
    let here : s.known ≡ true = c.if-not-last.false in
    let x = c.max.result in
    let low : s.from ≤ x = search rules in
    let high : x < s.to = search rules in
    let whole = end_of_last f t n x ss (omega arith) follow (rw is here) (rw is low) (rw is high) in
    rw is at whole
