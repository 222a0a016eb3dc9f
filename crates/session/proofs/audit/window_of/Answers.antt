use Rattle.session.proofs.GrowLaws.{grow_same}
use Rattle.session.proofs.WindowLaws.{not_broken}
use Rattle.session.proofs.audit.window_of.Goals as goal

pub returns-in_err-window-in-Broken-clause-grow : goal.returns-in_err-window-in-Broken-clause-grow
returns-in_err-window-in-Broken-clause-grow g c = c.window_in.ensures.grow

pub returns-in_ok-window-in-Broken-clause-grow : goal.returns-in_ok-window-in-Broken-clause-grow
returns-in_ok-window-in-Broken-clause-grow g c = c.window_in.ensures.grow

pub returns-in-Idle : goal.returns-in-Idle
returns-in-Idle g c = record { window = not_broken c.args.line.now.verdict c.in-Idle.is; grow = grow_same c.args.reads.now }
