use Rattle.std.proofs.Common.{arith, take_all, ap, ◌∙◌, List}
use Rattle.stop_bar.specs.declared.windows.Windows.{Windows}
use Rattle.stop_bar.specs.Windows.{services_of}
use Rattle.stop_bar.proofs.Waiting.{end_at, ended_more, pending_at, taken_more}
use Rattle.stop_bar.proofs.window_hour.end_all.Goals as goal

pub loop-one-preserved : goal.loop-one-preserved
loop-one-preserved c = record {
  services = ap (λ (x : List Windows). services_of x) c.in_ok-push.ensures.items ∙ taken_more c.args.pending.now c.loop-one.one-index _ c.loop-one.ended.items c.end_pending.result c.loop-one-test.true c.loop-one.invariant.services c.end_pending.ensures.service;
  numbers = λ log i is end all. rw c.in_ok-push.ensures.items (ended_more log i c.loop-one.ended.items c.end_pending.result (c.loop-one.invariant.numbers log i is end all) (c.end_pending.ensures.numbers log i is (end_at c.args.hour.first c.args.hour.end c.args.pending.now c.loop-one.one-index _ end c.loop-one-test.true) (pending_at log i c.args.hour.first c.args.pending.now c.loop-one.one-index _ all c.loop-one-test.true)));
}

pub returns-clause-services : goal.returns-clause-services
returns-clause-services c = c.loop-one.invariant.services ∙ ap (λ (x : List Windows). services_of x) (take_all c.loop-one.one-index c.args.pending.now (omega arith))

pub returns-clause-numbers : goal.returns-clause-numbers
returns-clause-numbers c = c.loop-one.invariant.numbers
