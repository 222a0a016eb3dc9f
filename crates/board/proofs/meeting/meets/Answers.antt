use Rattle.std.proofs.Common.{arith, ◌∙◌, ◌-◌}
use Rattle.channel_tables.specs.Spec.{rules_of}
use Rattle.board.proofs.Back.{back_slice, met_alike, slice_order}
use Rattle.board.proofs.meeting.meets.Goals as goal

pub walk_ahead-requires-clause-order : goal.walk_ahead-requires-clause-order
walk_ahead-requires-clause-order c =
    let place = c.loop-place.place in
    rw (c.machine_of-machine.ensures) (slice_order (rules_of c.args.spec.now) c.args.moves.now (place - 1) (place - (place - 1)) c.requires.order)

pub walk_ahead-requires-in-loop-place-clause-order : goal.walk_ahead-requires-in-loop-place-clause-order
walk_ahead-requires-in-loop-place-clause-order c =
    let place = c.loop-place.place in
    rw (c.machine_of-machine.ensures) (slice_order (rules_of c.args.spec.now) c.args.moves.now (place - 1) (place - (place - 1)) c.requires.order)

pub loop-place-preserved : goal.loop-place-preserved
loop-place-preserved c =
    let m = rules_of c.args.spec.now in
    let moves = c.args.moves.now in
    let place = c.loop-place.place in
    let i = c.loop-place.invariant in
    let within = i.within in
    let new = rw (c.machine_of-machine.ensures) at c.walk_ahead.ensures.before in
    let old = rw (c.machine_of-machine.ensures) at c.walk_ahead-in-loop-place.ensures.before in
    record {
      within = omega arith;
      colours = c.walk_ahead.ensures.colours ∙ i.colours;
      was_colours = c.walk_ahead-in-loop-place.ensures.colours ∙ i.was_colours;
      back = back_slice m c.args.after.now c.loop-place.now c.walk_ahead.new.ahead moves (place - 1) place c.requires.order (omega arith) i.back new;
      was_back = back_slice m c.args.was_after.now c.loop-place.was c.walk_ahead-in-loop-place.new.ahead moves (place - 1) place c.requires.order (omega arith) i.was_back old;
    }

pub returns : goal.returns
returns c = λ yes.
    let i = c.loop-place.invariant in
    let same = c.same-2.ensures.value.0 yes in
    met_alike (rules_of c.args.spec.now) c.args.after.now c.args.was_after.now c.loop-place.now c.args.moves.now c.loop-place.place c.requires.order i.back (rw (← same) at i.was_back)
