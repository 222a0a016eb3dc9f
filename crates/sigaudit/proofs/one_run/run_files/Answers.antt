use Rattle.std.proofs.Common.{◌∙◌}
use Rattle.sigaudit.specs.Aims.{aim_of}
use Rattle.sigaudit.specs.Run.{world}
use Rattle.sigaudit.specs.Status.{status_of_run}
use Rattle.sigaudit.specs.Transcript.{IsFileOutcome, limited}
use Rattle.sigaudit.proofs.RunFacts.{stop_told, text_there}
use Rattle.sigaudit.proofs.one_run.run_files.Goals as goal

pub returns-in-Have-clause-told : goal.returns-in-Have-clause-told
returns-in-Have-clause-told g c = λ files told.
    text_there (IsFileOutcome files (aim_of c.args.purpose) c.args.script.now) (limited 1048576 (files c.args.config.now)) c.fetch_text.new.bytes.items c.deref.result.now (g.S.Shelf.counts c.args.shelf.now) (g.S.Shelf.counts c.fetch_text.new.shelf) (g.K.Sink.taken c.args.sink.now) (world (g.S.Shelf.counts c.run_config.new.shelf) (g.K.Sink.taken c.run_config.new.sink)) (status_of_run c.run_config.result) (c.in-Have.ensures.told files told) c.deref.ensures.value c.in-Have.ensures.counts (c.run_config.ensures.told files (c.in-Have.ensures.files ∙ told))

pub returns-clause-told : goal.returns-clause-told
returns-clause-told g c = λ files told.
    stop_told (IsFileOutcome files (aim_of c.args.purpose) c.args.script.now (limited 1048576 (files c.args.config.now))) (g.S.Shelf.counts c.args.shelf.now) (g.S.Shelf.counts c.fetch_text.new.shelf) (g.K.Sink.taken c.args.sink.now) c.in-Stop.stopped c.in-Stop.ensures.counts
