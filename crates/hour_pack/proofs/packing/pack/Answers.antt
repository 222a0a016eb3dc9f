use Rattle.hour_pack.proofs.PackFacts.{packed-is, packed-again}
use Rattle.hour_pack.proofs.packing.pack.Goals as goal

pub returns-clause-packed : goal.returns-clause-packed
returns-clause-packed g c =
    packed-is c.args.signal.now c.args.window.now c.args.rows.now.hour c.hour-hour.result c.args.rows.now.rows c.show-rows.result.now _ _ c.to_be_bytes.result _ _
    c.hour-hour.ensures.value c.show-rows.ensures.rows c.new-out.ensures.items c.in_ok-put_head.ensures c.to_be_bytes.ensures c.in_ok-extend_from_slice.ensures.items
    c.in_ok-put_rows.ensures.value

pub returns-clause-again : goal.returns-clause-again
returns-clause-again g c =
    packed-again c.args.signal.now c.args.window.now c.args.rows.now.hour c.args.rows.now.rows c.show-rows.result.now _ (returns-clause-packed g c)
    c.hour-hour.ensures.rows c.show-rows.ensures.rows c.in_ok-put_rows.ensures.events c.requires.no_repeat
