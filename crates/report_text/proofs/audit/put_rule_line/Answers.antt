use Rattle.std.proofs.Common.{◌∙◌, sym}
use Rattle.outside.proofs.PutsFacts.{puts-stopped}
use Rattle.report_text.specs.Audit.{rule_line}
use Rattle.report_text.proofs.RuleLines.{head_stops, name_stops, tail_puts}
use Rattle.report_text.proofs.audit.put_rule_line.Goals as goal

pub returns-in_err-put_head : goal.returns-in_err-put_head
returns-in_err-put_head g c =
    puts-stopped _ _ (rule_line c.args.config.now.specs c.args.number c.args.rule.now c.args.count) _ c.from_residual.ensures.0
    (head_stops c.args.config.now.specs c.args.number c.args.rule.now c.args.count _ _ (sym c.is_none_counted.ensures ∙ c.if-is_none_counted.false) c.in_err-put_head.ensures)

pub returns-in_err-put_rule_name : goal.returns-in_err-put_rule_name
returns-in_err-put_rule_name g c =
    puts-stopped _ _ (rule_line c.args.config.now.specs c.args.number c.args.rule.now c.args.count) _ c.from_residual-in_err-put_rule_name.ensures.0
    (name_stops c.args.config.now.specs c.args.number c.args.rule.now c.args.count _ _ _ (sym c.is_none_counted.ensures ∙ c.if-is_none_counted.false)
    c.in_ok-put_head.ensures c.in_err-put_rule_name.ensures)

pub returns : goal.returns
returns g c =
    tail_puts c.args.config.now.specs c.args.number c.args.rule.now c.args.count _ _ _ _ c.put_tail.result (sym c.is_none_counted.ensures ∙ c.if-is_none_counted.false)
    c.in_ok-put_head.ensures c.in_ok-put_rule_name.ensures c.put_tail.ensures
