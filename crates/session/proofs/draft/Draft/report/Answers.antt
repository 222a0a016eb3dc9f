use Rattle.session.proofs.ReportLaws.{counted, report_is}
use Rattle.session.proofs.draft.Draft.report.Goals as goal

pub returns-clause-report : goal.returns-clause-report
returns-clause-report g c =
    let settled = rw (← c.self.view_is) at c.requires in
    rw (← c.self.view_is) (report_is _ _ _ _ _ _ _ settled c.self.invariant)

pub returns-clause-counted : goal.returns-clause-counted
returns-clause-counted g c =
    let settled = rw (← c.self.view_is) at c.requires in
    rw (← c.self.view_is) (counted _ _ _ _ _ _ _ settled c.self.invariant)
