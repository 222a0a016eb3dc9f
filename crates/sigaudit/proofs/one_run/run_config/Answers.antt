use Rattle.std.proofs.Common.{◌≡◌, ◌∙◌, false, sym}
use Rattle.ring_config.specs.Settings.{config_of}
use Rattle.sigaudit.specs.Aims.{aim_of}
use Rattle.report_text.specs.ConfigRefusal.{is_config_memory}
use Rattle.sigaudit.specs.Transcript.{IsConfigOutcome}
use Rattle.sigaudit.proofs.RunFacts.{config_refused, run-of_nothing}
use Rattle.sigaudit.proofs.one_run.run_config.Goals as goal

pub returns-then-is_memory-clause-told : goal.returns-then-is_memory-clause-told
returns-then-is_memory-clause-told g c = λ files told.
    run-of_nothing (IsConfigOutcome files (aim_of c.args.purpose) c.args.script.now (config_of c.args.bytes.now)) (g.S.Shelf.counts c.args.shelf.now) (g.K.Sink.taken c.args.sink.now)

pub returns-else-is_memory-clause-told : goal.returns-else-is_memory-clause-told
returns-else-is_memory-clause-told g c = λ files told.
    let ne : is_config_memory c.in-Err.error ≡ false = sym c.is_memory.ensures ∙ c.if-is_memory.false in
    config_refused files (aim_of c.args.purpose) c.args.script.now (config_of c.args.bytes.now) c.in-Err.error (g.S.Shelf.counts c.args.shelf.now) _ _ c.show_config_error.result ne c.in-Err.ensures.reads c.show_config_error.ensures
