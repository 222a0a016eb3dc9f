use Rattle.std.proofs.Common.{true, false}
use Rattle.reach.proofs.Alone.{on_ok}
use Rattle.rule_audit.specs.Obligations.{end_obligations, rows_obligations}
use Rattle.rule_audit.specs.Judged.{HasVerdict}
use Rattle.rule_audit.specs.Pass.{log_of}
use Rattle.rule_audit.proofs.Adding.{adds_join}
use Rattle.rule_audit.proofs.tenth.judge_tenth.Goals as goal

pub returns-then-before : goal.returns-then-before
returns-then-before c =
    let h = c.args.hour.now in
    on_ok c.judge_due.result _ _ (λ f e is. rw c.if-before.true (adds_join (HasVerdict (log_of h e)) (rows_obligations h.specs.now h.rules.now c.args.at 0 h.rows.now) (end_obligations h.specs.now h.rows.now true c.args.at 1 h.rules.now) c.args.lines.now.items _ _ (c.in_ok-judge_rows.ensures e is) (f e is))) c.judge_due.ensures

pub returns : goal.returns
returns c =
    let h = c.args.hour.now in
    on_ok c.judge_all.result _ _ (λ f e is. rw c.if-before.false (adds_join (HasVerdict (log_of h e)) (rows_obligations h.specs.now h.rules.now c.args.at 0 h.rows.now) (end_obligations h.specs.now h.rows.now false c.args.at 1 h.rules.now) c.args.lines.now.items _ _ (c.in_ok-judge_rows.ensures e is) (f e is))) c.judge_all.ensures
