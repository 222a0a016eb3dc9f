use Rattle.std.proofs.lemmas.List.Elements.{All-get_or}
use Rattle.rule_audit.specs.Judged.{HasVerdict}
use Rattle.rule_audit.specs.Pass.{FitsRule, log_of}
use Rattle.rule_audit.specs.Index.{no_rule}
use Rattle.rule_audit.proofs.Adding.{adds_none, rule_at}
use Rattle.rule_audit.proofs.tenth.judge_before.Goals as goal

pub judge_interval-requires-clause-item : goal.judge_interval-requires-clause-item
judge_interval-requires-clause-item c =
    let h = c.args.hour.now in
    let rule = rule_at h.rules.now c.args.place c.index-hour-place.result _ c.requires.place c.in-Interval.is in
    rw rule at (All-get_or (FitsRule h.specs.now) h.rules.now c.args.place no_rule c.requires.place c.requires.ready.are_rules)

pub returns-in-Interval : goal.returns-in-Interval
returns-in-Interval c =
    let h = c.args.hour.now in
    let rule = rule_at h.rules.now c.args.place c.index-hour-place.result _ c.requires.place c.in-Interval.is in
    rw (rule, ← c.number_of-number.ensures) c.judge_interval.ensures

pub returns-in-Conflict : goal.returns-in-Conflict
returns-in-Conflict c = λ e is.
    let h = c.args.hour.now in
    let rule = rule_at h.rules.now c.args.place c.index-hour-place.result _ c.requires.place c.in-Conflict.is in
    rw rule (adds_none (HasVerdict (log_of h e)) c.args.lines.now.items)

pub returns-in-Companion : goal.returns-in-Companion
returns-in-Companion c = λ e is.
    let h = c.args.hour.now in
    let rule = rule_at h.rules.now c.args.place c.index-hour-place.result _ c.requires.place c.in-Companion.is in
    rw rule (adds_none (HasVerdict (log_of h e)) c.args.lines.now.items)

pub returns-in-Parents : goal.returns-in-Parents
returns-in-Parents c = λ e is.
    let h = c.args.hour.now in
    let rule = rule_at h.rules.now c.args.place c.index-hour-place.result _ c.requires.place c.in-Parents.is in
    rw rule (adds_none (HasVerdict (log_of h e)) c.args.lines.now.items)
