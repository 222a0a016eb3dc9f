use Rattle.std.proofs.Common.{◌≡◌, ◌+◌, pos, ◌+ℤ◌, List, arith, rules, subst, w64}
use Rattle.std.specs.Prelude.{FitsSigned}
use Rattle.std.proofs.lemmas.Int.{ints, to_z-of_z}
use Rattle.span_set.specs.declared.set.Span.{Span}
use Rattle.reach.specs.Past.{Holds}
use Rattle.board.specs.Logs.{end_tenth, first_tenth}
use Rattle.gap_ways.specs.Ways.{state_of}
use Rattle.strand_search.proofs.Placed.{none_older}
use Rattle.strand_search.proofs.Pointing.{past_is}
use Rattle.strand_search.proofs.Stepping.{hour_adds_back, hour_part_is, hour_reached, hour_soon}
use Rattle.strand_search.proofs.back.back_over_hour.Goals as goal

pub clamped_back_over-requires-clause-part : goal.clamped_back_over-requires-clause-part
clamped_back_over-requires-clause-part g c =
    let h = c.args.hour in
    let p = c.in_ok-part.part in
    let (n, lt, are) = c.requires.pasts in
    let here = past_is c.args.spec.now c.args.store.now n h c.args.pasts.now c.index-pasts-hour.result c.at-before.result.now (omega arith) are c.index-pasts-hour.is c.at-before.ensures in
    let at = are.1 h (omega arith) in
    (first_tenth h, end_tenth h, hour_part_is c.args.spec.now c.args.store.now h p c.in_ok-part.ensures.store c.requires.hour c.in_ok-part.ensures.part, rw here (at.early 0), hour_soon c.args.spec.now c.args.store.now h p c.in_ok-part.ensures.store c.requires.hour c.in_ok-part.ensures.part)

pub clamped_back_over-requires-clause-colours : goal.clamped_back_over-requires-clause-colours
clamped_back_over-requires-clause-colours g c =
    let h = c.args.hour in
    let (n, lt, are) = c.requires.pasts in
    let here = past_is c.args.spec.now c.args.store.now n h c.args.pasts.now c.index-pasts-hour.result c.at-before.result.now (omega arith) are c.index-pasts-hour.is c.at-before.ensures in
    let at = are.1 h (omega arith) in
    rw here (at.shape.1 0 c.args.spec.now (omega arith)).0

pub clamped_back_over-requires-clause-none_older : goal.clamped_back_over-requires-clause-none_older
clamped_back_over-requires-clause-none_older g c =
    let h = c.args.hour in
    let (n, lt, are) = c.requires.pasts in
    let here = past_is c.args.spec.now c.args.store.now n h c.args.pasts.now c.index-pasts-hour.result c.at-before.result.now (omega arith) are c.index-pasts-hour.is c.at-before.ensures in
    let at = are.1 h (omega arith) in
    rw here (none_older c.args.spec.now c.args.store.now h _ at)

pub clamped_back_over-requires-clause-reached : goal.clamped_back_over-requires-clause-reached
clamped_back_over-requires-clause-reached g c =
    let h = c.args.hour in
    let p = c.in_ok-part.part in
    let (n, lt, are) = c.requires.pasts in
    let here = past_is c.args.spec.now c.args.store.now n h c.args.pasts.now c.index-pasts-hour.result c.at-before.result.now (omega arith) are c.index-pasts-hour.is c.at-before.ensures in
    let fits : FitsSigned w64 c.limit_after-limit.result = search rules in
    rw (to_z-of_z, here) (hour_reached c.args.spec.now c.args.store.now h p c.in_ok-part.ensures.store c.requires.hour c.in_ok-part.ensures.part _ _ c.limit_after-limit.result c.args.way.here c.requires.spec (are.1 h (omega arith)) (are.1 (h + 1) (omega arith)) c.limit_after-limit.ensures c.requires.held)

pub returns-clause-held : goal.returns-clause-held
returns-clause-held g c =
    let h = c.args.hour in
    let (n, lt, are) = c.requires.pasts in
    let here = past_is c.args.spec.now c.args.store.now n h c.args.pasts.now c.index-pasts-hour.result c.at-before.result.now (omega arith) are c.index-pasts-hour.is c.at-before.ensures in
    subst (λ (sets : List (List Span)). Holds sets (state_of c.in_ok-here.here)) here c.in_ok-here.ensures.held

pub returns-clause-way : goal.returns-clause-way
returns-clause-way g c =
    let h = c.args.hour in
    let p = c.in_ok-part.part in
    let part = hour_part_is c.args.spec.now c.args.store.now h p c.in_ok-part.ensures.store c.requires.hour c.in_ok-part.ensures.part in
    let fits : FitsSigned w64 c.limit_after-limit.result = search rules in
    let way = simp to_z-of_z at c.in_ok-here.ensures.way in
    let is = c.limit_after-limit.ensures in
    let point : (c.limit_after-limit.result +ℤ pos 36001) ≡ pos (first_tenth (h + 1)) = omega (arith, ints) in
    hour_adds_back c.args.spec.now c.args.store.now h p c.in_ok-part.ensures.store c.requires.hour c.in_ok-part.ensures.part (c.limit_after-limit.result +ℤ pos 36001) c.args.way.rows.items c.clamped_back_over.new.rows.items (state_of c.in_ok-here.here) (state_of c.args.way.here) point (way (first_tenth h) (end_tenth h) part)
