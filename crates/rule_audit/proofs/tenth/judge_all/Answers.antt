use Rattle.std.proofs.Common.{false, refl}
use Rattle.rule_audit.specs.Obligations.{end_obligations}
use Rattle.rule_audit.specs.Judged.{HasVerdict}
use Rattle.rule_audit.specs.Index.{no_rule}
use Rattle.rule_audit.specs.Pass.{log_of}
use Rattle.rule_audit.proofs.Adding.{end_rules, end_rules_over, upto_start, upto_step, upto_end}
use Rattle.rule_audit.proofs.tenth.judge_all.Goals as goal

pub loop-place-init : goal.loop-place-init
loop-place-init c = λ e is. upto_start (HasVerdict (log_of c.args.hour.now e)) _ c.args.lines.now.items

pub loop-place-preserved : goal.loop-place-preserved
loop-place-preserved c = λ e is.
    let h = c.args.hour.now in
    upto_step (HasVerdict (log_of h e)) (end_obligations h.specs.now h.rows.now false c.args.at 1 h.rules.now) _ _ _ c.args.lines.now.items c.loop-place.lines.items _ (end_rules h.specs.now h.rows.now false c.args.at h.rules.now c.loop-place.place no_rule c.loop-place-test.true) (c.loop-place.invariant e is) (c.in_ok-judge_after.ensures e false is (λ clause. rw clause refl))

pub returns : goal.returns
returns c = λ e is.
    let h = c.args.hour.now in
    upto_end (HasVerdict (log_of h e)) (end_obligations h.specs.now h.rows.now false c.args.at 1 h.rules.now) _ c.args.lines.now.items c.loop-place.lines.items (end_rules_over h.specs.now h.rows.now false c.args.at h.rules.now c.loop-place.place _ c.loop-place-test.false) (c.loop-place.invariant e is)
