use Rattle.std.proofs.Common.{◌≡◌, Some, None}
use Rattle.command_line.specs.Words.{seen}
use Rattle.sigaudit.specs.Asked.{asked_of}
use Rattle.sigaudit.specs.Run.{world}
use Rattle.sigaudit.specs.Status.{status_of_run}
use Rattle.sigaudit.specs.Transcript.{IsAnswer}
use Rattle.sigaudit.proofs.DemoFacts.{alone_as}
use Rattle.sigaudit.proofs.CountFacts.{answer_counted}
use Rattle.sigaudit.proofs.RunFacts.{run-of_nothing, asked_is, answer_as, cause_as, needs_as, usage_told, usage_cause}
use Rattle.sigaudit.proofs.one_run.run_to_end.Goals as goal

pub returns-in-Ok-parse_words-clause-told : goal.returns-in-Ok-parse_words-clause-told
returns-in-Ok-parse_words-clause-told g c = λ files told.
    let asked : asked_of c.args.words.now ≡ Some (seen c.in-Ok-parse_words.request) = asked_is c.args.words.now c.in-Ok.all.items c.deref.result.now (Some (seen c.in-Ok-parse_words.request)) c.deref.ensures.value c.in-Ok.ensures c.in-Ok-parse_words.ensures.value in
    answer_as c.args.words.now files (Some (seen c.in-Ok-parse_words.request)) (world (g.S.Shelf.counts c.args.shelf.now) (g.K.Sink.taken c.args.sink.now)) (world (g.S.Shelf.counts c.run_request.new.shelf) (g.K.Sink.taken c.run_request.new.sink)) (status_of_run c.run_request.result) asked (c.run_request.ensures.told files told)

pub returns-in-Ok-parse_words-clause-cause : goal.returns-in-Ok-parse_words-clause-cause
returns-in-Ok-parse_words-clause-cause g c =
    let asked : asked_of c.args.words.now ≡ Some (seen c.in-Ok-parse_words.request) = asked_is c.args.words.now c.in-Ok.all.items c.deref.result.now (Some (seen c.in-Ok-parse_words.request)) c.deref.ensures.value c.in-Ok.ensures c.in-Ok-parse_words.ensures.value in
    cause_as c.args.words.now (Some (seen c.in-Ok-parse_words.request)) (world (g.S.Shelf.counts c.args.shelf.now) (g.K.Sink.taken c.args.sink.now)) (world (g.S.Shelf.counts c.run_request.new.shelf) (g.K.Sink.taken c.run_request.new.sink)) (status_of_run c.run_request.result) asked c.run_request.ensures.cause

pub returns-in-Ok-parse_words-clause-usage : goal.returns-in-Ok-parse_words-clause-usage
returns-in-Ok-parse_words-clause-usage g c =
    let asked : asked_of c.args.words.now ≡ Some (seen c.in-Ok-parse_words.request) = asked_is c.args.words.now c.in-Ok.all.items c.deref.result.now (Some (seen c.in-Ok-parse_words.request)) c.deref.ensures.value c.in-Ok.ensures c.in-Ok-parse_words.ensures.value in
    needs_as c.args.words.now (seen c.in-Ok-parse_words.request) (world (g.S.Shelf.counts c.args.shelf.now) (g.K.Sink.taken c.args.sink.now)) (world (g.S.Shelf.counts c.run_request.new.shelf) (g.K.Sink.taken c.run_request.new.sink)) (status_of_run c.run_request.result) asked

pub returns-in-Err-Usage-clause-told : goal.returns-in-Err-Usage-clause-told
returns-in-Err-Usage-clause-told g c = λ files told.
    let asked : asked_of c.args.words.now ≡ None = asked_is c.args.words.now c.in-Ok.all.items c.deref.result.now None c.deref.ensures.value c.in-Ok.ensures (rw c.in-Err-Usage.field-0-is at c.in-Err-Usage.ensures.value) in
    usage_told c.args.words.now files (g.S.Shelf.counts c.args.shelf.now) _ _ c.show_usage.result asked c.show_usage.ensures

pub returns-in-Err-Usage-clause-cause : goal.returns-in-Err-Usage-clause-cause
returns-in-Err-Usage-clause-cause g c =
    let asked : asked_of c.args.words.now ≡ None = asked_is c.args.words.now c.in-Ok.all.items c.deref.result.now None c.deref.ensures.value c.in-Ok.ensures (rw c.in-Err-Usage.field-0-is at c.in-Err-Usage.ensures.value) in
    usage_cause c.args.words.now (g.S.Shelf.counts c.args.shelf.now) _ _ c.show_usage.result asked c.show_usage.ensures

pub returns-in-Err-clause-told : goal.returns-in-Err-clause-told
returns-in-Err-clause-told g c = λ files told. run-of_nothing (IsAnswer (asked_of c.args.words.now) files) (g.S.Shelf.counts c.args.shelf.now) (g.K.Sink.taken c.args.sink.now)

pub returns-clause-told : goal.returns-clause-told
returns-clause-told g c = λ files told. run-of_nothing (IsAnswer (asked_of c.args.words.now) files) (g.S.Shelf.counts c.args.shelf.now) (g.K.Sink.taken c.args.sink.now)

pub returns-in-Ok-parse_words-clause-alone : goal.returns-in-Ok-parse_words-clause-alone
returns-in-Ok-parse_words-clause-alone g c =
    let asked : asked_of c.args.words.now ≡ Some (seen c.in-Ok-parse_words.request) = asked_is c.args.words.now c.in-Ok.all.items c.deref.result.now (Some (seen c.in-Ok-parse_words.request)) c.deref.ensures.value c.in-Ok.ensures c.in-Ok-parse_words.ensures.value in
    alone_as c.args.words.now (Some (seen c.in-Ok-parse_words.request)) (world (g.S.Shelf.counts c.args.shelf.now) (g.K.Sink.taken c.args.sink.now)) (world (g.S.Shelf.counts c.run_request.new.shelf) (g.K.Sink.taken c.run_request.new.sink)) (status_of_run c.run_request.result) asked c.run_request.ensures.alone

pub returns-in-Err-Usage-clause-alone : goal.returns-in-Err-Usage-clause-alone
returns-in-Err-Usage-clause-alone g c =
    let asked : asked_of c.args.words.now ≡ None = asked_is c.args.words.now c.in-Ok.all.items c.deref.result.now None c.deref.ensures.value c.in-Ok.ensures (rw c.in-Err-Usage.field-0-is at c.in-Err-Usage.ensures.value) in
    alone_as c.args.words.now None (world (g.S.Shelf.counts c.args.shelf.now) (g.K.Sink.taken c.args.sink.now)) (world (g.S.Shelf.counts c.args.shelf.now) (g.K.Sink.taken c.show_usage.new.sink)) (status_of_run c.show_usage.result) asked tt

pub returns-in-Ok-parse_words-clause-opens : goal.returns-in-Ok-parse_words-clause-opens
returns-in-Ok-parse_words-clause-opens g c = λ files told.
    let asked : asked_of c.args.words.now ≡ Some (seen c.in-Ok-parse_words.request) = asked_is c.args.words.now c.in-Ok.all.items c.deref.result.now (Some (seen c.in-Ok-parse_words.request)) c.deref.ensures.value c.in-Ok.ensures c.in-Ok-parse_words.ensures.value in
    answer_counted (asked_of c.args.words.now) (Some (seen c.in-Ok-parse_words.request)) files c.args.reads.now c.run_request.new.reads (status_of_run c.run_request.result) asked (c.run_request.ensures.opens files told)
