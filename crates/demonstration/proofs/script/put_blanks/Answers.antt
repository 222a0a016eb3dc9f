use Rattle.demonstration.specs.Texts.{blank_line}
use Rattle.demonstration.proofs.RowFacts.{goes_on, is_done}
use Rattle.demonstration.proofs.TextFacts.{each-done, each-next}
use Rattle.demonstration.proofs.script.put_blanks.Goals as goal

pub loop-hour-preserved : goal.loop-hour-preserved
loop-hour-preserved c =
    goes_on c.loop-hour.out.items c.put_blank_of.new.out.items _ _ _ _ c.loop-hour.invariant (each-next blank_line 4 0 c.args.hours c.loop-hour.hour c.loop-hour-test.true)
    c.in_ok-put_blank_of.ensures

pub returns : goal.returns
returns c = is_done c.loop-hour.out.items _ _ c.loop-hour.invariant (each-done blank_line 4 0 c.args.hours c.loop-hour.hour c.loop-hour-test.false)
