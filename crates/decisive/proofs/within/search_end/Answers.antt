use Rattle.std.proofs.Common.{arith, refl, ◌≡◌, ◌∙◌, ◌+◌, ◌-◌, ◌*◌}
use Rattle.board.specs.Logs.{first_tenth}
use Rattle.decisive.proofs.Finished.{end_asked_in}
use Rattle.decisive.proofs.GrowLaws.{grow_on, grow_same}
use Rattle.decisive.proofs.within.search_end.Goals as goal

pub loop-next-init : goal.loop-next-init
loop-next-init g c = let lt = c.requires.within in (omega arith, omega arith, c.requires.place, refl, grow_same _)

pub end_in-requires-clause-place : goal.end_in-requires-clause-place
end_in-requires-clause-place g c =
    let (low, high, placed, same, grow) = c.loop-next.invariant in
    let next = c.loop-next.next in
    let e : first_tenth next ≡ 36000 * next - 1 + 1 = omega arith in
    let (place, grows) = end_asked_in c.args.start.now c.args.store.now c.args.question.now c.loop-next.placed c.args.hour next next (36000 * next - 1 + 1) c.requires.parts c.requires.history c.requires.from high placed e in
    (first_tenth c.args.hour, c.requires.start, place, grows)

pub end_in-requires-2-clause-place : goal.end_in-requires-2-clause-place
end_in-requires-2-clause-place g c =
    let (low, high, placed, same, grow) = c.loop-next.invariant in
    let next = c.loop-next.next in
    let end = c.loop-next-test.false in
    let value = c.hours-hours.ensures.value in
    let e : first_tenth next ≡ 36000 * c.hours-hours.result - 1 + 1 = omega arith in
    let (place, grows) = end_asked_in c.args.start.now c.args.store.now c.args.question.now c.loop-next.placed c.args.hour next next (36000 * c.hours-hours.result - 1 + 1) c.requires.parts c.requires.history c.requires.from high placed e in
    (first_tenth c.args.hour, c.requires.start, place, grows)

pub returns-in_err-add_hour-clause-grow : goal.returns-in_err-add_hour-clause-grow
returns-in_err-add_hour-clause-grow g c = grow_on _ _ _ c.loop-next.invariant.4 c.add_hour.ensures.grow

pub loop-next-preserved : goal.loop-next-preserved
loop-next-preserved g c =
    let (low, high, placed, same, grow) = c.loop-next.invariant in
    let small = c.loop-next-test.true in
    let value = c.hours-hours.ensures.value in
    (omega arith, omega arith, c.in_ok-add_hour.ensures.placed (first_tenth c.args.hour) c.loop-next.next c.args.question.now.at c.loop-next.placed.place placed, c.in_ok-add_hour.ensures.rank (first_tenth c.args.hour) c.loop-next.next c.args.question.now.at c.loop-next.placed.place placed ∙ same, grow_on _ _ _ grow c.add_hour.ensures.grow)
