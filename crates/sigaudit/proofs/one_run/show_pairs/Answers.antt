use Rattle.row_reader.specs.Stamp.{stamp_in}
use Rattle.sigaudit.specs.Pairs.{AreFound, place_of}
use Rattle.sigaudit.proofs.PairFacts.{cut_shown}
use Rattle.sigaudit.proofs.one_run.show_pairs.Goals as goal

pub returns-in-Ok-clause-text : goal.returns-in-Ok-clause-text
returns-in-Ok-clause-text g c = c.in-Ok.ensures.text

pub returns-in-Err-clause-text : goal.returns-in-Err-clause-text
returns-in-Err-clause-text g c =
    let s = c.args.session.now in
    cut_shown (AreFound s.config s.store (place_of s.config c.args.rule (stamp_in s.config.window c.args.at.now))) (g.K.Sink.taken c.args.sink.now) (g.K.Sink.taken c.put_undecided.new.sink) c.in-Err.stopped c.in-Err.ensures.text

pub returns-in-Ok-clause-grow : goal.returns-in-Ok-clause-grow
returns-in-Ok-clause-grow g c = c.in-Ok.ensures.grow

pub returns-in-Err-clause-grow : goal.returns-in-Err-clause-grow
returns-in-Err-clause-grow g c = c.in-Err.ensures.grow
