use Rattle.outside.specs.Shelf.{Files}
use Rattle.sigaudit.specs.Request.{plain_asked}
use Rattle.sigaudit.proofs.RunFacts.{if_some-weaker, run-of_file}
use Rattle.sigaudit.proofs.file.put_file.Goals as goal

pub returns-in-Ok-clause-told : goal.returns-in-Ok-clause-told
returns-in-Ok-clause-told g c =
    if_some-weaker _ _ _
    (λ (files : Files) h. run-of_file c.args.asked.now.task (plain_asked c.args.asked.now) (files c.args.asked.now.file.now) c.deref.result.now c.new-bytes.result.items c.fetch.new.into.items _ _ _ _ c.put_outcome.result c.in-Ok.ensures.counted c.put_outcome.ensures.put c.deref.ensures.value c.new-bytes.ensures.items h)
    c.in-Ok.ensures.content
