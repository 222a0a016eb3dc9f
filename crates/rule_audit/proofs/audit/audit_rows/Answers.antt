use Rattle.std.proofs.Common.{ap, ◌≡◌, ◌∙◌, length}
use Rattle.sig_base.specs.declared.values.Row.{Row}
use Rattle.gap_map.specs.declared.stretch.Stretch.{Stretch}
use Rattle.ring_config.specs.Settings.{Settings}
use Rattle.rule_audit.specs.Lines.{IsAudited}
use Rattle.rule_audit.specs.declared.hour.AuditedHour.{AuditedHour}
use Rattle.board.specs.Logs.{HourLog}
use Rattle.rule_audit.specs.Pass.{FitsRule}
use Rattle.std.specs.List.{All}
use Rattle.std.proofs.Common.{◌≤◌, ℕ, List, true, false, sym, subst}
use Rattle.rule_audit.specs.Index.{AreSkips}
use Rattle.board.proofs.Within.{few_rows}
use Rattle.rule_audit.proofs.Fitting.{few_rules, rules_fit}
use Rattle.rule_audit.proofs.Logs.{ends_of, lines_there, log_there}
use Rattle.rule_audit.proofs.Walking.{hour_rises, if_ok}
use Rattle.rule_audit.proofs.audit.audit_rows.Goals as goal

pub all_skips-requires : goal.all_skips-requires
all_skips-requires c = record { fit = rw (c.requires.rules, c.specs-specs.ensures.value) (rules_fit c.args.config.now c.specs-specs.ensures.sound); few = rw c.requires.rules (few_rules c.args.config.now c.specs-specs.ensures.sound) }

pub all_skips-requires-2 : goal.all_skips-requires-2
all_skips-requires-2 c = record { fit = rw (c.requires.rules, c.specs-specs.ensures.value) (rules_fit c.args.config.now c.specs-specs.ensures.sound); few = rw c.requires.rules (few_rules c.args.config.now c.specs-specs.ensures.sound) }

-- the view is of these channels, rows and stretches
parts : (c : Settings) (view log : HourLog) (rows : List Row) (ss : List Stretch) → IsAudited c view rows ss log → (view.specs ≡ c.specs) × (view.rows ≡ rows) × (view.stretches ≡ ss)
parts c view log rows ss is = (ap (λ (l : HourLog). l.specs) is.is_view.same ∙ is.same_specs, ap (λ (l : HourLog). l.rows) is.is_view.same ∙ is.same_rows, ap (λ (l : HourLog). l.stretches) is.is_view.same ∙ is.same_stretches)

pub own_places-requires : goal.own_places-requires
own_places-requires c =
    let (log, is) = c.requires.view in
    let of = parts c.args.config.now c.args.view.now log c.args.rows.now c.args.stretches.now is in
    let specs = c.specs-specs.result.now in
    let rules = c.args.rules.now in
    let same : c.args.view.now.specs ≡ specs = of.0 ∙ sym c.specs-specs.ensures.value in
    record {
      few = rw of.0 c.specs-specs.ensures.few;
      rows = of.1;
      fit = rw (of.0, c.requires.rules) (rules_fit c.args.config.now c.specs-specs.ensures.sound);
      timed = rw same (subst (λ (xs : List (List ℕ)). AreSkips specs rules false (length specs) xs) (sym c.deref.ensures.value) c.in_ok-timed.ensures);
      clauses = rw same (subst (λ (xs : List (List ℕ)). AreSkips specs rules true (length specs) xs) (sym c.deref-2.ensures.value) c.in_ok-clauses.ensures);
    }

pub judge_hour-requires : goal.judge_hour-requires
judge_hour-requires c =
    let hour : AuditedHour = record { specs = c.specs-specs.result; rules = c.args.rules; timed = c.deref-3.result; clauses = c.deref-4.result; view = c.args.view; rows = c.args.rows; own = c.deref-5.result; stretches = c.args.stretches } in
    let (log, is) = c.requires.view in
    let of = parts c.args.config.now c.args.view.now log c.args.rows.now c.args.stretches.now is in
    let same : c.args.view.now.specs ≡ c.specs-specs.result.now = of.0 ∙ sym c.specs-specs.ensures.value in
    let there = log_there c.args.config.now hour log c.specs-specs.ensures.value is in
    let is_hour = there.is_view.is_log.is_hour in
    let few : length c.args.rules.now ≤ 1000 = rw c.requires.rules (few_rules c.args.config.now c.specs-specs.ensures.sound) in
    let fit : All (FitsRule c.specs-specs.result.now) c.args.rules.now = rw (c.requires.rules, c.specs-specs.ensures.value) (rules_fit c.args.config.now c.specs-specs.ensures.sound) in
    record {
      ready = record {
        few_rules = few;
        few_rows = few_rows log.hour c.args.rows.now c.args.stretches.now is_hour;
        rises = hour_rises log.hour c.args.rows.now c.args.stretches.now is_hour;
        are_specs = rw c.specs-specs.ensures.value c.specs-specs.ensures.specs;
        are_rules = fit;
        seen = ap (λ (l : HourLog). length l.specs) there.is_view.same;
        own = rw (c.deref-5.ensures.value, ← same, ← of.2) c.in_ok-own.ensures;
        timed = subst (λ (xs : List (List ℕ)). AreSkips c.specs-specs.result.now c.args.rules.now false (length c.specs-specs.result.now) xs) (sym c.deref-3.ensures.value) c.in_ok-timed.ensures;
        clauses = subst (λ (xs : List (List ℕ)). AreSkips c.specs-specs.result.now c.args.rules.now true (length c.specs-specs.result.now) xs) (sym c.deref-4.ensures.value) c.in_ok-clauses.ensures;
      };
      some = (ends_of log, there);
    }

pub returns : goal.returns
returns c =
    let hour : AuditedHour = record { specs = c.specs-specs.result; rules = c.args.rules; timed = c.deref-3.result; clauses = c.deref-4.result; view = c.args.view; rows = c.args.rows; own = c.deref-5.result; stretches = c.args.stretches } in
    if_ok c.judge_hour.result _ _ (λ v f log is. lines_there c.args.config.now hour log c.specs-specs.ensures.value is c.args.known_before v.items (f (ends_of log) (log_there c.args.config.now hour log c.specs-specs.ensures.value is))) c.judge_hour.ensures
