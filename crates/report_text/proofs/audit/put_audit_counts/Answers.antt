use Rattle.std.proofs.Common.{◌+◌}
use Rattle.outside.proofs.PutsFacts.{going-end, going-on, going-stopped}
use Rattle.report_text.specs.Audit.{counts_text, rule_line}
use Rattle.report_text.proofs.RuleLines.{counts_end, counts_next}
use Rattle.report_text.proofs.audit.put_audit_counts.Goals as goal

pub returns-in_err-put_rule_line : goal.returns-in_err-put_rule_line
returns-in_err-put_rule_line g c =
    let specs = c.args.config.now.specs in
    let next = counts_next specs c.args.part.now.rules c.rules-counts.result.now c.args.rules.now c.loop-i.i c.index-rules-i.result c.count_at.result c.loop-i-test.true c.index-rules-i.is c.count_at.ensures c.rules-counts.ensures in
    going-stopped _ _ _ (counts_text specs c.args.rules.now c.args.part.now.rules) (rule_line specs (c.loop-i.i + 1) c.index-rules-i.result c.count_at.result) _ _ c.from_residual.ensures.0 (rw next at c.loop-i.invariant) c.in_err-put_rule_line.ensures

pub loop-i-preserved : goal.loop-i-preserved
loop-i-preserved g c =
    let specs = c.args.config.now.specs in
    let next = counts_next specs c.args.part.now.rules c.rules-counts.result.now c.args.rules.now c.loop-i.i c.index-rules-i.result c.count_at.result c.loop-i-test.true c.index-rules-i.is c.count_at.ensures c.rules-counts.ensures in
    going-on _ _ _ (counts_text specs c.args.rules.now c.args.part.now.rules) (rule_line specs (c.loop-i.i + 1) c.index-rules-i.result c.count_at.result) _ (rw next at c.loop-i.invariant) c.in_ok-put_rule_line.ensures

pub returns : goal.returns
returns g c =
    going-end _ _ (counts_text c.args.config.now.specs c.args.rules.now c.args.part.now.rules) (rw (counts_end c.args.config.now.specs c.args.part.now.rules c.args.rules.now c.loop-i.i c.loop-i-test.false) at c.loop-i.invariant)
