use Rattle.std.proofs.Common.{Some}
use Rattle.sigaudit.specs.Run.{world}
use Rattle.sigaudit.specs.Status.{status_of_run}
use Rattle.sigaudit.specs.Transcript.{IsScriptOutcome}
use Rattle.sigaudit.proofs.CountFacts.{opened_in}
use Rattle.sigaudit.proofs.RunFacts.{holds_nothing, run-of_nothing, told_in}
use Rattle.sigaudit.proofs.one_run.tell_lines.Goals as goal

pub tell_lines_in-requires-clause-begun : goal.tell_lines_in-requires-clause-begun
tell_lines_in-requires-clause-begun g c = holds_nothing c.args.config c.in-Ok.session c.in-Ok.ensures.config c.in-Ok.ensures.store

pub returns-in-Ok-clause-told : goal.returns-in-Ok-clause-told
returns-in-Ok-clause-told g c = λ files told.
    told_in files c.args.config c.in-Ok.session.config c.args.script.now (world (g.S.Shelf.counts c.args.shelf.now) (g.K.Sink.taken c.args.sink.now)) (world (g.S.Shelf.counts c.tell_lines_in.new.shelf) (g.K.Sink.taken c.tell_lines_in.new.sink)) (status_of_run c.tell_lines_in.result) c.in-Ok.ensures.config (c.tell_lines_in.ensures.told files told)

pub returns-in-Ok-clause-cause : goal.returns-in-Ok-clause-cause
returns-in-Ok-clause-cause g c = c.tell_lines_in.ensures.cause

pub returns-in-Ok-clause-never_fall : goal.returns-in-Ok-clause-never_fall
returns-in-Ok-clause-never_fall g c = c.tell_lines_in.ensures.never_fall

pub returns-in-Ok-clause-opens : goal.returns-in-Ok-clause-opens
returns-in-Ok-clause-opens g c = λ files told.
    opened_in files c.args.config c.in-Ok.session.config c.args.script.now c.args.reads.now c.tell_lines_in.new.reads (status_of_run c.tell_lines_in.result) c.in-Ok.ensures.config (c.tell_lines_in.ensures.opens files told)

pub returns-in-Ok-clause-grow : goal.returns-in-Ok-clause-grow
returns-in-Ok-clause-grow g c = c.tell_lines_in.ensures.grow

pub returns-in-Err-clause-told : goal.returns-in-Err-clause-told
returns-in-Err-clause-told g c = λ files told.
    run-of_nothing (IsScriptOutcome files c.args.config (Some c.args.script.now)) (g.S.Shelf.counts c.args.shelf.now) (g.K.Sink.taken c.args.sink.now)
