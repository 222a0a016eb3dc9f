use Rattle.demonstration.proofs.TextFacts.{rows-are}
use Rattle.demonstration.proofs.demo.Demo.new.Goals as goal

pub invariant_of-result : goal.invariant_of-result
invariant_of-result c = record {
  some = c.requires.some;
  few = c.requires.few;
  all = rows-are c.args.hours c.new-rows.result.items c.put_services.new.rows.items c.put_pulses.new.rows.items c.put_in_order.new.rows.items c.new-rows.ensures.items
      c.in_ok-put_services.ensures c.in_ok-put_pulses.ensures c.in_ok-put_in_order.ensures;
  days = c.in-Some.ensures.value;
}
