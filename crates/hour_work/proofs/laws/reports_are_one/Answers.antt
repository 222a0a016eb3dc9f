use Rattle.hour_work.proofs.OneLaws.{one_lines, one_report}
use Rattle.hour_work.proofs.laws.reports_are_one.Goals as goal

pub returns-clause-lines : goal.returns-clause-lines
returns-clause-lines c = one_lines

pub returns-clause-report : goal.returns-clause-report
returns-clause-report c = one_report
