use Rattle.std.proofs.Common.{refl}
use Rattle.report_text.proofs.Tallies.{tally-none}
use Rattle.report_text.proofs.counts.tally.Goals as goal

pub loop-row-init : goal.loop-row-init
loop-row-init c = (refl, tally-none c.args.rows.now)
