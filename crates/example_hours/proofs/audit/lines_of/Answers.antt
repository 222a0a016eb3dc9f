use Rattle.std.proofs.Common.{arith}
use Rattle.std.specs.Prelude.{option_copied}
use Rattle.std.proofs.lemmas.Result.{IfOk-weaker}
use Rattle.example_hours.proofs.Between.{opened_between}
use Rattle.example_hours.proofs.audit.lines_of.Goals as goal

pub audit_lines-requires-clause-in_range : goal.audit_lines-requires-clause-in_range
audit_lines-requires-clause-in_range c =
    let few = c.requires.agrees.has_hour.is_store.few in
    let lt = c.requires.agrees.has_hour.within in
    omega arith

pub audit_lines-requires-clause-agrees : goal.audit_lines-requires-clause-agrees
audit_lines-requires-clause-agrees c =
    let s = c.args.store.now in
    (s, opened_between c.args.config.now s c.args.hour c.args.between.now.before.now (option_copied c.opened-rows.result) c.blanked.result.now c.args.between.now.after.now c.opened-rows.ensures.rows c.blanked.ensures.value c.requires.agrees)

pub returns : goal.returns
returns c =
    let s = c.args.store.now in
    let is = opened_between c.args.config.now s c.args.hour c.args.between.now.before.now (option_copied c.opened-rows.result) c.blanked.result.now c.args.between.now.after.now c.opened-rows.ensures.rows c.blanked.ensures.value c.requires.agrees in
    IfOk-weaker c.audit_lines.result _ _ (λ v h. h s is) c.audit_lines.ensures
