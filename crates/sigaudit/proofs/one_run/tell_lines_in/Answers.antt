use Rattle.std.proofs.Common.{Some}
use Rattle.sigaudit.specs.Run.{world}
use Rattle.sigaudit.specs.Counting.{OpensText}
use Rattle.sigaudit.specs.Aims.{for_lines}
use Rattle.sigaudit.proofs.CountFacts.{script_counted, taken_not}
use Rattle.sigaudit.proofs.RunFacts.{cause-of_cut, cause-of_told, lines_cut, lines_told}
use Rattle.sigaudit.proofs.one_run.tell_lines_in.Goals as goal

pub returns-in-Ok-clause-told : goal.returns-in-Ok-clause-told
returns-in-Ok-clause-told g c = λ files told.
    let x = c.args.session.now in
    rw c.ended_by.ensures (lines_told files x.config c.args.script.now x.store c.run_script.new.session.store (world (g.S.Shelf.counts c.args.shelf.now) (g.K.Sink.taken c.args.sink.now)) (world (g.S.Shelf.counts c.run_script.new.shelf) (g.K.Sink.taken c.run_script.new.sink)) c.in-Ok.refused c.requires.begun (c.in-Ok.ensures.transcript files told))

pub returns-in-Ok-clause-cause : goal.returns-in-Ok-clause-cause
returns-in-Ok-clause-cause g c =
    rw c.ended_by.ensures (cause-of_told (world (g.S.Shelf.counts c.args.shelf.now) (g.K.Sink.taken c.args.sink.now)) (world (g.S.Shelf.counts c.run_script.new.shelf) (g.K.Sink.taken c.run_script.new.sink)) c.in-Ok.refused c.in-Ok.ensures.cause)

pub returns-in-Ok-clause-never_fall : goal.returns-in-Ok-clause-never_fall
returns-in-Ok-clause-never_fall g c = c.in-Ok.ensures.never_fall

pub returns-in-Ok-clause-opens : goal.returns-in-Ok-clause-opens
returns-in-Ok-clause-opens g c = λ files told.
    let x = c.args.session.now in
    rw c.ended_by.ensures (script_counted files x.config c.args.script.now x.store x.waiting c.run_script.new.session.waiting c.args.reads.now c.run_script.new.reads c.in-Ok.refused c.requires.begun c.requires.settled (c.in-Ok.ensures.opens files told))

pub returns-in-Ok-clause-grow : goal.returns-in-Ok-clause-grow
returns-in-Ok-clause-grow g c = c.in-Ok.ensures.grow

pub returns-in-Err-clause-told : goal.returns-in-Err-clause-told
returns-in-Err-clause-told g c = λ files told.
    let x = c.args.session.now in
    lines_cut files x.config c.args.script.now x.store c.run_script.new.session.store (world (g.S.Shelf.counts c.args.shelf.now) (g.K.Sink.taken c.args.sink.now)) (world (g.S.Shelf.counts c.run_script.new.shelf) (g.K.Sink.taken c.run_script.new.sink)) c.in-Err.stopped c.requires.begun (c.in-Err.ensures.transcript files told)

pub returns-in-Err-clause-cause : goal.returns-in-Err-clause-cause
returns-in-Err-clause-cause g c =
    cause-of_cut (world (g.S.Shelf.counts c.args.shelf.now) (g.K.Sink.taken c.args.sink.now)) (world (g.S.Shelf.counts c.run_script.new.shelf) (g.K.Sink.taken c.run_script.new.sink)) c.in-Err.stopped c.in-Err.ensures.cause

pub returns-in-Err-clause-never_fall : goal.returns-in-Err-clause-never_fall
returns-in-Err-clause-never_fall g c = c.in-Err.ensures.never_fall

pub returns-in-Err-clause-opens : goal.returns-in-Err-clause-opens
returns-in-Err-clause-opens g c = λ files told. taken_not c.in-Err.stopped (OpensText files c.args.session.now.config for_lines c.args.reads.now c.run_script.new.reads (Some c.args.script.now))

pub returns-in-Err-clause-grow : goal.returns-in-Err-clause-grow
returns-in-Err-clause-grow g c = c.in-Err.ensures.grow
