use Rattle.reach.proofs.Alone.{on_ok}
use Rattle.rule_audit.specs.declared.lines.Place.TheVariants.{EndOfTenth}
use Rattle.rule_audit.specs.Obligations.{obligation}
use Rattle.rule_audit.specs.Judged.{HasVerdict}
use Rattle.rule_audit.specs.Pass.{log_of}
use Rattle.rule_audit.proofs.Adding.{adds_one, clause_has}
use Rattle.rule_audit.proofs.Histories.{some_history}
use Rattle.rule_audit.proofs.tenth.judge_clause.Goals as goal

pub clause_verdict_from-verdict-requires : goal.clause_verdict_from-verdict-requires
clause_verdict_from-verdict-requires c = rw c.requires.ready.seen c.requires.clause

pub returns : goal.returns
returns c =
    let h = c.args.hour.now in
    on_ok c.push_line.result _ _ (λ f e before rule is clause terms due.
    let log = log_of h e in
    rw due (adds_one (HasVerdict log) (obligation c.args.number rule c.args.at EndOfTenth) c.clause_verdict_from-verdict.result c.args.lines.now.items _ (clause_has log c.args.number c.args.at rule c.args.clause.now c.clause_verdict_from-verdict.result clause terms ((rw is.is_view.same at c.clause_verdict_from-verdict.ensures.verdict) c.requires.known (some_history log h.view.now c.args.at is.is_view is.runs c.requires.known))) (f rule))) c.push_line.ensures
