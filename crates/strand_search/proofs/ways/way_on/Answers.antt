use Rattle.channel_tables.specs.Spec.{rules_of}
use Rattle.gap_ways.specs.Ways.{state_of}
use Rattle.channel_ways.proofs.Tracing.{from_one}
use Rattle.strand_search.proofs.Standing.{ends_late, ends_soon}
use Rattle.strand_search.proofs.ways.way_on.Goals as goal

pub only_state-requires-clause-low : goal.only_state-requires-clause-low
only_state-requires-clause-low c =
    let (low, one, go) = c.requires.alone in
    ends_late (rules_of c.args.spec.now) low c.args.from.now c.args.moves.now (state_of c.in_ok-end.end) one c.in_ok-end.ensures.reached

pub only_state-requires-clause-high : goal.only_state-requires-clause-high
only_state-requires-clause-high c =
    let (low, one, go) = c.requires.alone in
    ends_soon (rules_of c.args.spec.now) low c.args.from.now c.args.moves.now (state_of c.in_ok-end.end) one go c.in_ok-end.ensures.reached

pub only_state-requires-clause-held : goal.only_state-requires-clause-held
only_state-requires-clause-held c = (c.in_ok-past.ensures.states (state_of c.in_ok-end.end)).1 c.in_ok-end.ensures.reached

pub returns-clause-late : goal.returns-clause-late
returns-clause-late c =
    let (low, one, go) = c.requires.alone in
    ends_late (rules_of c.args.spec.now) low c.args.from.now c.args.moves.now (state_of c.in_ok-end.end) one c.in_ok-end.ensures.reached

pub returns-clause-way : goal.returns-clause-way
returns-clause-way c =
    let (low, one, go) = c.requires.alone in
    from_one (rules_of c.args.spec.now) c.args.from.now.only c.args.moves.now c.args.letters.now.items c.source_of.new.letters.items c.args.from.now.state c.in_ok-_from._from c.in_ok-end.end one.alone c.in_ok-_from.ensures.held c.in_ok-_from.ensures.way
