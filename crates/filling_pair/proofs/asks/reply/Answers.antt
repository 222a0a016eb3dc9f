use Rattle.filling_pair.proofs.Replying.{found_replies, is_asked, none_stands, one_alone}
use Rattle.filling_pair.proofs.asks.reply.Goals as goal

pub find_run-requires-clause-spec : goal.find_run-requires-clause-spec
find_run-requires-clause-spec g c = one_alone c.args.specs.now c.args.ask.spec c.requires.specs c.requires.ask.0

pub find_run-requires-clause-asked : goal.find_run-requires-clause-asked
find_run-requires-clause-asked g c = is_asked c.args.specs.now c.args.store.now c.args.line.now c.args.ask c.row_of.result c.row_of.ensures c.requires.line c.requires.ask

pub returns-in_default-clause-strand : goal.returns-in_default-clause-strand
returns-in_default-clause-strand g c =
    none_stands c.args.specs.now c.args.store.now c.args.line.now c.args.ask c.row_of.result c.row_of.ensures c.requires.line c.requires.ask c.requires.specs (rw c.in_default.is at c.in_ok-run.ensures.run)

pub returns-clause-strand : goal.returns-clause-strand
returns-clause-strand g c =
    let own = c.in_ok-strand.ensures in
    found_replies c.args.specs.now c.args.store.now c.args.line.now c.args.ask c.row_of.result c.row_of.ensures c.requires.line c.requires.ask c.in-Some.found c.in_ok-strand.strand (rw c.in-Some.is at c.in_ok-run.ensures.run) own.spec own.colour own.entry own.fills
