use Rattle.std.proofs.Common.{ap, refl}
use Rattle.demonstration.specs.Files.{demo_files}
use Rattle.sigaudit.specs.DemoShelf.{DemoFiles, demo_counts}
use Rattle.sigaudit.specs.Run.{world}
use Rattle.sigaudit.specs.Status.{status_of_run}
use Rattle.sigaudit.specs.Transcript.{IsDemoOutcome}
use Rattle.sigaudit.proofs.DemoFacts.{demo_cause, demo_told, same_hours}
use Rattle.sigaudit.proofs.RunFacts.{run-of_nothing}
use Rattle.sigaudit.proofs.one_run.run_demo.Goals as goal

pub returns-in-Err-clause-told : goal.returns-in-Err-clause-told
returns-in-Err-clause-told g c = λ k.
    run-of_nothing (IsDemoOutcome c.args.hours) k (g.K.Sink.taken c.args.sink.now)

pub returns-clause-told : goal.returns-clause-told
returns-clause-told g c = λ k.
    demo_told (IsDemoOutcome c.args.hours) c.in-Ok.shelf.missing c.in-Ok.shelf.long c.run_files.new.shelf.missing c.run_files.new.shelf.long k (g.K.Sink.taken c.args.sink.now) (g.K.Sink.taken c.run_files.new.sink) (status_of_run c.run_files.result) (same_hours c.in-Ok.shelf.hours c.args.hours
    (world (demo_counts c.in-Ok.shelf.missing c.in-Ok.shelf.long) (g.K.Sink.taken c.args.sink.now))
    (world (demo_counts c.run_files.new.shelf.missing c.run_files.new.shelf.long) (g.K.Sink.taken c.run_files.new.sink))
    (status_of_run c.run_files.result) (ap (λ (s : DemoFiles). s.hours) c.in-Ok.ensures) (c.run_files.ensures.told (demo_files c.in-Ok.shelf.hours) refl))

pub returns-clause-cause : goal.returns-clause-cause
returns-clause-cause g c =
    demo_cause c.args.hours c.in-Ok.shelf.missing c.in-Ok.shelf.long c.run_files.new.shelf.missing c.run_files.new.shelf.long (g.K.Sink.taken c.args.sink.now) (g.K.Sink.taken c.run_files.new.sink) (status_of_run c.run_files.result) c.requires.few (same_hours c.in-Ok.shelf.hours c.args.hours
    (world (demo_counts c.in-Ok.shelf.missing c.in-Ok.shelf.long) (g.K.Sink.taken c.args.sink.now))
    (world (demo_counts c.run_files.new.shelf.missing c.run_files.new.shelf.long) (g.K.Sink.taken c.run_files.new.sink))
    (status_of_run c.run_files.result) (ap (λ (s : DemoFiles). s.hours) c.in-Ok.ensures) (c.run_files.ensures.told (demo_files c.in-Ok.shelf.hours) refl)) c.run_files.ensures.cause
