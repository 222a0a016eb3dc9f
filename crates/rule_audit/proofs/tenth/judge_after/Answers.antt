use Rattle.std.proofs.Common.{refl, get_or, ◌≡◌, true}
use Rattle.rule_audit.specs.Obligations.{is_clause}
use Rattle.std.proofs.lemmas.List.Elements.{All-get_or}
use Rattle.reach.proofs.Alone.{on_ok}
use Rattle.rule_audit.specs.Judged.{HasVerdict}
use Rattle.rule_audit.specs.Pass.{FitsRule, log_of}
use Rattle.rule_audit.specs.Index.{no_rule}
use Rattle.rule_audit.proofs.Adding.{adds_none, rule_at}
use Rattle.rule_audit.proofs.tenth.judge_after.Goals as goal

pub returns-in-Interval : goal.returns-in-Interval
returns-in-Interval c = λ e before is due.
    let h = c.args.hour.now in
    let rule = rule_at h.rules.now c.args.place c.index-hour-place.result _ c.requires.place c.in-Interval.is in
    rw rule (adds_none (HasVerdict (log_of h e)) c.args.lines.now.items)

pub judge_clause-requires-clause-clause : goal.judge_clause-requires-clause-clause
judge_clause-requires-clause-clause c =
    let h = c.args.hour.now in
    let rule = rule_at h.rules.now c.args.place c.index-hour-place.result _ c.requires.place c.in-Conflict.is in
    rw rule at (All-get_or (FitsRule h.specs.now) h.rules.now c.args.place no_rule c.requires.place c.requires.ready.are_rules)

pub returns-in-Conflict : goal.returns-in-Conflict
returns-in-Conflict c =
    let h = c.args.hour.now in
    let rule = rule_at h.rules.now c.args.place c.index-hour-place.result _ c.requires.place c.in-Conflict.is in
    on_ok c.judge_clause.result _ _ (λ f e before is due. let clause : is_clause (get_or h.rules.now c.args.place no_rule) ≡ true = rw rule refl in rw (← c.number_of-number.ensures) (f e before (get_or h.rules.now c.args.place no_rule) is clause (rw rule refl) (due clause))) c.judge_clause.ensures

pub judge_clause-requires-in-Companion-clause-clause : goal.judge_clause-requires-in-Companion-clause-clause
judge_clause-requires-in-Companion-clause-clause c =
    let h = c.args.hour.now in
    let rule = rule_at h.rules.now c.args.place c.index-hour-place.result _ c.requires.place c.in-Companion.is in
    rw rule at (All-get_or (FitsRule h.specs.now) h.rules.now c.args.place no_rule c.requires.place c.requires.ready.are_rules)

pub returns-in-Companion : goal.returns-in-Companion
returns-in-Companion c =
    let h = c.args.hour.now in
    let rule = rule_at h.rules.now c.args.place c.index-hour-place.result _ c.requires.place c.in-Companion.is in
    on_ok c.judge_clause-in-Companion.result _ _ (λ f e before is due. let clause : is_clause (get_or h.rules.now c.args.place no_rule) ≡ true = rw rule refl in rw (← c.number_of-number.ensures) (f e before (get_or h.rules.now c.args.place no_rule) is clause (rw rule refl) (due clause))) c.judge_clause-in-Companion.ensures

pub judge_clause-requires-in-Parents-clause-clause : goal.judge_clause-requires-in-Parents-clause-clause
judge_clause-requires-in-Parents-clause-clause c =
    let h = c.args.hour.now in
    let rule = rule_at h.rules.now c.args.place c.index-hour-place.result _ c.requires.place c.in-Parents.is in
    rw rule at (All-get_or (FitsRule h.specs.now) h.rules.now c.args.place no_rule c.requires.place c.requires.ready.are_rules)

pub returns-in-Parents : goal.returns-in-Parents
returns-in-Parents c =
    let h = c.args.hour.now in
    let rule = rule_at h.rules.now c.args.place c.index-hour-place.result _ c.requires.place c.in-Parents.is in
    on_ok c.judge_clause-in-Parents.result _ _ (λ f e before is due. let clause : is_clause (get_or h.rules.now c.args.place no_rule) ≡ true = rw rule refl in rw (← c.number_of-number.ensures) (f e before (get_or h.rules.now c.args.place no_rule) is clause (rw rule refl) (due clause))) c.judge_clause-in-Parents.ensures
