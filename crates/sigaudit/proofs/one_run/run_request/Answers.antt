use Rattle.std.proofs.Common.{ap}
use Rattle.command_line.specs.Words.{seen}
use Rattle.sigaudit.specs.Run.{world}
use Rattle.sigaudit.specs.Status.{status_of_run}
use Rattle.sigaudit.proofs.DemoFacts.{request_demo}
use Rattle.sigaudit.proofs.GrowFacts.{grow_once}
use Rattle.sigaudit.proofs.RunFacts.{request_run, request_pairs, request_count, request_pack, day_back}
use Rattle.sigaudit.proofs.LineFacts.{told_file}
use Rattle.sigaudit.proofs.one_run.run_request.Goals as goal

pub returns-in-Run-clause-told : goal.returns-in-Run-clause-told
returns-in-Run-clause-told g c = λ files told.
    request_run files (seen c.args.request) c.in-Run.config.now c.in-Run.script.now (world (g.S.Shelf.counts c.args.shelf.now) (g.K.Sink.taken c.args.sink.now)) (world (g.S.Shelf.counts c.run_files.new.shelf) (g.K.Sink.taken c.run_files.new.sink)) (status_of_run c.run_files.result) (ap seen c.in-Run.is) (c.run_files.ensures.told files told)

pub returns-in-Pairs-clause-told : goal.returns-in-Pairs-clause-told
returns-in-Pairs-clause-told g c = λ files told.
    request_pairs files (seen c.args.request) c.in-Pairs.config.now c.in-Pairs.script.now c.in-Pairs.rule c.in-Pairs.at.now (world (g.S.Shelf.counts c.args.shelf.now) (g.K.Sink.taken c.args.sink.now)) (world (g.S.Shelf.counts c.run_files-in-Pairs.new.shelf) (g.K.Sink.taken c.run_files-in-Pairs.new.sink)) (status_of_run c.run_files-in-Pairs.result) (ap seen c.in-Pairs.is) (c.run_files-in-Pairs.ensures.told files told)

pub returns-in-Count-clause-told : goal.returns-in-Count-clause-told
returns-in-Count-clause-told g c = λ files told.
    let day = rw c.in-Count.is at c.requires in
    let h = told_file _ (g.S.Shelf.files c.args.shelf.now) files told c.put_file.ensures.told in
    request_count files (seen c.args.request) c.in-Count.file.now c.in-Count.signal.now c.in-Count.day c.in-Count.hour (world (g.S.Shelf.counts c.args.shelf.now) (g.K.Sink.taken c.args.sink.now)) (world (g.S.Shelf.counts c.put_file.new.shelf) (g.K.Sink.taken c.put_file.new.sink)) (status_of_run c.put_file.result) (ap seen c.in-Count.is) (rw (day_back c.in-Count.day day.0) at h)

pub returns-in-Count-clause-grow : goal.returns-in-Count-clause-grow
returns-in-Count-clause-grow g c = grow_once _ _ 0 c.put_file.ensures.reads

pub returns-in-Pack-clause-told : goal.returns-in-Pack-clause-told
returns-in-Pack-clause-told g c = λ files told.
    let day = rw c.in-Pack.is at c.requires in
    let h = told_file _ (g.S.Shelf.files c.args.shelf.now) files told c.put_file-in-Pack.ensures.told in
    request_pack files (seen c.args.request) c.in-Pack.file.now c.in-Pack.signal.now c.in-Pack.day c.in-Pack.hour (world (g.S.Shelf.counts c.args.shelf.now) (g.K.Sink.taken c.args.sink.now)) (world (g.S.Shelf.counts c.put_file-in-Pack.new.shelf) (g.K.Sink.taken c.put_file-in-Pack.new.sink)) (status_of_run c.put_file-in-Pack.result) (ap seen c.in-Pack.is) (rw (day_back c.in-Pack.day day.0) at h)

pub returns-in-Pack-clause-grow : goal.returns-in-Pack-clause-grow
returns-in-Pack-clause-grow g c = grow_once _ _ 0 c.put_file-in-Pack.ensures.reads

pub returns-in-Demo-clause-told : goal.returns-in-Demo-clause-told
returns-in-Demo-clause-told g c = λ files told.
    request_demo files (seen c.args.request) c.in-Demo.hours (world (g.S.Shelf.counts c.args.shelf.now) (g.K.Sink.taken c.args.sink.now)) (world (g.S.Shelf.counts c.args.shelf.now) (g.K.Sink.taken c.run_demo.new.sink)) (status_of_run c.run_demo.result) (ap seen c.in-Demo.is) (c.run_demo.ensures.told (g.S.Shelf.counts c.args.shelf.now))
