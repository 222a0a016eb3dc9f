use Rattle.std.proofs.Common.{◌+◌}
use Rattle.board.specs.Logs.{end_tenth, first_tenth}
use Rattle.gap_ways.specs.Ways.{state_of}
use Rattle.strand_search.proofs.Stepping.{hour_adds, hour_completes, hour_goes_on, hour_part_is, hour_soon, next_here}
use Rattle.strand_search.proofs.onward.on_over_hour.Goals as goal

pub on_over-requires-clause-part : goal.on_over-requires-clause-part
on_over-requires-clause-part g c =
    let h = c.args.hour in
    let p = c.in_ok-part.part in
    (first_tenth h, end_tenth h, hour_part_is c.args.spec.now c.args.store.now h p c.in_ok-part.ensures.store c.requires.hour c.in_ok-part.ensures.part, hour_soon c.args.spec.now c.args.store.now h p c.in_ok-part.ensures.store c.requires.hour c.in_ok-part.ensures.part)

pub on_over-requires-clause-alone : goal.on_over-requires-clause-alone
on_over-requires-clause-alone g c = (first_tenth c.args.hour, c.requires.here.alone, hour_goes_on c.args.spec.now c.args.store.now c.args.hour c.in_ok-part.part c.in_ok-part.ensures.store c.requires.hour c.in_ok-part.ensures.part)

pub on_over-requires-clause-completed : goal.on_over-requires-clause-completed
on_over-requires-clause-completed g c = rw c.at.ensures (hour_completes c.args.spec.now c.args.store.now c.args.hour c.in_ok-part.part c.in_ok-part.ensures.store c.requires.hour c.in_ok-part.ensures.part c.args.after.now c.args.way.here c.requires.spec c.requires.after c.requires.here)

pub returns-clause-here : goal.returns-clause-here
returns-clause-here g c = next_here c.args.spec.now c.args.store.now (c.args.hour + 1) c.args.after.now c.in_ok-here.here c.requires.after (rw c.at.ensures at c.in_ok-here.ensures.admitted) c.in_ok-here.ensures.alone c.in_ok-here.ensures.colours c.in_ok-here.ensures.late

pub returns-clause-way : goal.returns-clause-way
returns-clause-way g c =
    let h = c.args.hour in
    let p = c.in_ok-part.part in
    let part = hour_part_is c.args.spec.now c.args.store.now h p c.in_ok-part.ensures.store c.requires.hour c.in_ok-part.ensures.part in
    hour_adds c.args.spec.now c.args.store.now h p c.in_ok-part.ensures.store c.requires.hour c.in_ok-part.ensures.part c.args.way.rows.items c.on_over.new.rows.items (state_of c.args.way.here.state) (state_of c.in_ok-here.here.state) (c.in_ok-here.ensures.way (first_tenth h) (end_tenth h) part)
