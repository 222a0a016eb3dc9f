use Rattle.outside.specs.Shelf.{Files}
use Rattle.sigaudit.specs.Asked.{asked_of}
use Rattle.sigaudit.specs.Run.{world, RunsAs}
use Rattle.sigaudit.specs.Status.{status_of_run}
use Rattle.sigaudit.specs.Transcript.{IsAnswer}
use Rattle.sigaudit.proofs.CountFacts.{opens-of_asked}
use Rattle.sigaudit.proofs.RunFacts.{if_some-from, pairs-of_answer, run-of_answer}
use Rattle.sigaudit.proofs.one_run.run.Goals as goal

pub returns-clause-headline : goal.returns-clause-headline
returns-clause-headline g c =
    run-of_answer c.args.words.now (g.S.Shelf.files c.args.shelf.now) (world (g.S.Shelf.counts c.args.shelf.now) (g.K.Sink.taken c.args.sink.now)) (world (g.S.Shelf.counts c.run_to_end.new.shelf) (g.K.Sink.taken c.run_to_end.new.sink))
    c.status_of.result (status_of_run c.run_to_end.result) c.status_of.ensures
    (if_some-from (g.S.Shelf.files c.args.shelf.now) (λ (files : Files). RunsAs (IsAnswer (asked_of c.args.words.now) files) (world (g.S.Shelf.counts c.args.shelf.now) (g.K.Sink.taken c.args.sink.now)) (world (g.S.Shelf.counts c.run_to_end.new.shelf) (g.K.Sink.taken c.run_to_end.new.sink)) (status_of_run c.run_to_end.result)) c.run_to_end.ensures.told)

pub returns-clause-pairs : goal.returns-clause-pairs
returns-clause-pairs g c =
    pairs-of_answer c.args.words.now (g.S.Shelf.files c.args.shelf.now) (world (g.S.Shelf.counts c.args.shelf.now) (g.K.Sink.taken c.args.sink.now)) (world (g.S.Shelf.counts c.run_to_end.new.shelf) (g.K.Sink.taken c.run_to_end.new.sink))
    c.status_of.result (status_of_run c.run_to_end.result) c.status_of.ensures c.run_to_end.ensures.cause
    (if_some-from (g.S.Shelf.files c.args.shelf.now) (λ (files : Files). RunsAs (IsAnswer (asked_of c.args.words.now) files) (world (g.S.Shelf.counts c.args.shelf.now) (g.K.Sink.taken c.args.sink.now)) (world (g.S.Shelf.counts c.run_to_end.new.shelf) (g.K.Sink.taken c.run_to_end.new.sink)) (status_of_run c.run_to_end.result)) c.run_to_end.ensures.told)

pub returns-clause-opens : goal.returns-clause-opens
returns-clause-opens g c = opens-of_asked (g.S.Shelf.files c.args.shelf.now) c.status_of.result (status_of_run c.run_to_end.result) (asked_of c.args.words.now) c.args.reads.now c.run_to_end.new.reads c.status_of.ensures c.run_to_end.ensures.opens
