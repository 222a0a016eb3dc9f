use Rattle.std.proofs.Common.{Some}
use Rattle.sigaudit.specs.Counting.{OpensText}
use Rattle.sigaudit.specs.Aims.{for_rule}
use Rattle.sigaudit.specs.Status.{status_of_run}
use Rattle.sigaudit.proofs.CountFacts.{taken_any}
use Rattle.sigaudit.proofs.one_run.run_lines.Goals as goal

pub returns-in-Lines-clause-told : goal.returns-in-Lines-clause-told
returns-in-Lines-clause-told g c = λ files told. rw c.in-Lines.is (c.tell_lines.ensures.told files told)

pub returns-in-Lines-clause-cause : goal.returns-in-Lines-clause-cause
returns-in-Lines-clause-cause g c = c.tell_lines.ensures.cause

pub returns-in-Lines-clause-never_fall : goal.returns-in-Lines-clause-never_fall
returns-in-Lines-clause-never_fall g c = c.tell_lines.ensures.never_fall

pub returns-in-Lines-clause-opens : goal.returns-in-Lines-clause-opens
returns-in-Lines-clause-opens g c = λ files told. rw c.in-Lines.is (c.tell_lines.ensures.opens files told)

pub returns-in-Lines-clause-grow : goal.returns-in-Lines-clause-grow
returns-in-Lines-clause-grow g c = c.tell_lines.ensures.grow

pub returns-in-Undecided-clause-told : goal.returns-in-Undecided-clause-told
returns-in-Undecided-clause-told g c = λ files told. rw c.in-Undecided.is (c.tell_pairs.ensures.told files told)

pub returns-in-Undecided-clause-cause : goal.returns-in-Undecided-clause-cause
returns-in-Undecided-clause-cause g c = c.tell_pairs.ensures.cause

pub returns-in-Undecided-clause-never_fall : goal.returns-in-Undecided-clause-never_fall
returns-in-Undecided-clause-never_fall g c = c.tell_pairs.ensures.never_fall

pub returns-in-Undecided-clause-opens : goal.returns-in-Undecided-clause-opens
returns-in-Undecided-clause-opens g c = λ files told.
    rw c.in-Undecided.is (taken_any (status_of_run c.tell_pairs.result) (OpensText files c.args.config (for_rule c.in-Undecided.rule c.in-Undecided.at.now) c.args.reads.now c.tell_pairs.new.reads (Some c.args.script.now)) tt)

pub returns-in-Undecided-clause-grow : goal.returns-in-Undecided-clause-grow
returns-in-Undecided-clause-grow g c = c.tell_pairs.ensures.grow
