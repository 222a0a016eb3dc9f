use Rattle.std.proofs.Common.{◌∙◌}
use Rattle.other_measures.proofs.Ones.{one_entry, one_exit}
use Rattle.other_measures.proofs.preempt_sums.of_event.Goals as goal

pub returns-in-Entry : goal.returns-in-Entry
returns-in-Entry c = c.of_entry.ensures ∙ one_entry c.args.event.now c.in-Entry.delay c.in-Entry.is

pub returns-in-Exit : goal.returns-in-Exit
returns-in-Exit c = c.of_exit.ensures ∙ one_exit c.args.event.now c.in-Exit.dwell c.in-Exit.is
