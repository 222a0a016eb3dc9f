use Rattle.std.proofs.Common.{◌∙◌}
use Rattle.sigaudit.specs.Aims.{aim_of}
use Rattle.sigaudit.specs.Run.{world}
use Rattle.sigaudit.specs.Status.{status_of_run}
use Rattle.sigaudit.specs.Transcript.{IsAimOutcome, limited}
use Rattle.sigaudit.specs.Counting.{OpensText}
use Rattle.sigaudit.proofs.CountFacts.{text_counted}
use Rattle.sigaudit.proofs.RunFacts.{nothing_aim, nothing_there, stop_told, text_there}
use Rattle.sigaudit.proofs.one_run.run_script_file.Goals as goal

pub returns-in-Have-clause-told : goal.returns-in-Have-clause-told
returns-in-Have-clause-told g c = λ files told.
    text_there (IsAimOutcome files c.args.config (aim_of c.args.purpose)) (limited 4194304 (files c.args.name.now)) c.fetch_text.new.bytes.items c.deref.result.now (g.S.Shelf.counts c.args.shelf.now) (g.S.Shelf.counts c.fetch_text.new.shelf) (g.K.Sink.taken c.args.sink.now) (world (g.S.Shelf.counts c.run_lines.new.shelf) (g.K.Sink.taken c.run_lines.new.sink)) (status_of_run c.run_lines.result) (c.in-Have.ensures.told files told) c.deref.ensures.value c.in-Have.ensures.counts (c.run_lines.ensures.told files (c.in-Have.ensures.files ∙ told))

pub returns-in-Nothing-clause-told : goal.returns-in-Nothing-clause-told
returns-in-Nothing-clause-told g c = λ files told.
    nothing_there (IsAimOutcome files c.args.config (aim_of c.args.purpose)) (limited 4194304 (files c.args.name.now)) (g.S.Shelf.counts c.args.shelf.now) (g.S.Shelf.counts c.fetch_text.new.shelf) (g.K.Sink.taken c.args.sink.now) (c.in-Nothing.ensures.told files told) (nothing_aim files c.args.config (aim_of c.args.purpose)) c.in-Nothing.ensures.counts

pub returns-in-Stop-clause-told : goal.returns-in-Stop-clause-told
returns-in-Stop-clause-told g c = λ files told.
    stop_told (IsAimOutcome files c.args.config (aim_of c.args.purpose) (limited 4194304 (files c.args.name.now))) (g.S.Shelf.counts c.args.shelf.now) (g.S.Shelf.counts c.fetch_text.new.shelf) (g.K.Sink.taken c.args.sink.now) c.in-Stop.stopped c.in-Stop.ensures.counts

pub returns-in-Have-clause-opens : goal.returns-in-Have-clause-opens
returns-in-Have-clause-opens g c = λ files told.
    text_counted (OpensText files c.args.config (aim_of c.args.purpose) c.args.reads.now c.run_lines.new.reads) (limited 4194304 (files c.args.name.now)) c.fetch_text.new.bytes.items c.deref.result.now (status_of_run c.run_lines.result)
    (c.in-Have.ensures.told files told) c.deref.ensures.value (c.run_lines.ensures.opens files (c.in-Have.ensures.files ∙ told))
