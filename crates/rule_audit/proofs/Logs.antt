-- An audited hour as the pass has it, and as its contract says.
use Rattle.std.proofs.Common.{◌≡◌, sym, ◌∙◌, subst, ℕ, ◌-◌, Bool, List, arith}
use Rattle.sig_base.specs.declared.values.Row.{Row}
use Rattle.gap_map.specs.declared.stretch.Stretch.{Stretch}
use Rattle.gap_map.specs.Stretches.{known_at}
use Rattle.channel_tables.specs.declared.spec.Spec.{Spec}
use Rattle.board.specs.Logs.{HourLog, end_tenth, first_tenth, hour_log}
use Rattle.board.specs.Places.{IsViewOf}
use Rattle.ring_config.specs.Settings.{Settings}
use Rattle.rule_audit.specs.declared.hour.AuditedHour.{AuditedHour}
use Rattle.rule_audit.specs.declared.lines.AuditLine.{AuditLine}
use Rattle.rule_audit.specs.Obligations.{obligations_from}
use Rattle.rule_audit.specs.Judged.{HasRuns, HasVerdict}
use Rattle.rule_audit.specs.Lines.{AreLines, AreLinesOf, IsAudited, hour_obligations}
use Rattle.rule_audit.specs.Pass.{Ends, IsLogOf, log_of, obligations_in}

-- the ends of a log
abbrev pub ends_of : HourLog → Ends
ends_of log = record { hour = log.hour; before = log.before; after = log.after }

-- what holds of three values holds of three that are the same
along : (Q : List Spec → List Row → List Stretch → Type 0) (specs specs2 : List Spec) (rows rows2 : List Row) (ss ss2 : List Stretch) → specs ≡ specs2 → rows ≡ rows2 → ss ≡ ss2 → Q specs rows ss → Q specs2 rows2 ss2
along Q specs specs2 rows rows2 ss ss2 a b c q = subst (λ (z : List Stretch). Q specs2 rows2 z) c (subst (λ (z : List Row). Q specs2 z ss) b (subst (λ (z : List Spec). Q z rows ss) a q))

module _ (c : Settings) (h : AuditedHour) (log : HourLog) (same : h.specs.now ≡ c.specs) (is : IsAudited c h.view.now h.rows.now h.stretches.now log) where
  pub log_there : IsLogOf h (ends_of log)
  log_there =
      let view = along (λ (sp : List Spec) (r : List Row) (s : List Stretch). IsViewOf (hour_log log.hour sp r s log.before log.after) h.view.now) log.specs h.specs.now log.rows h.rows.now log.stretches h.stretches.now (is.same_specs ∙ sym same) is.same_rows is.same_stretches is.is_view in
      let runs = along (λ (sp : List Spec) (r : List Row) (s : List Stretch). HasRuns (hour_log log.hour sp r s log.before log.after)) log.specs h.specs.now log.rows h.rows.now log.stretches h.stretches.now (is.same_specs ∙ sym same) is.same_rows is.same_stretches is.runs in
      record { is_view = view; runs = runs }

  whole_hour : (before : Bool) (lines : List AuditLine) → AreLinesOf (HasVerdict (log_of h (ends_of log))) (obligations_in h before (first_tenth log.hour) (end_tenth log.hour)) lines → AreLines (log_of h (ends_of log)) h.rules.now before lines
  unfolding hour_obligations
  whole_hour before lines are =
      let size : end_tenth log.hour - first_tenth log.hour ≡ 36000 = omega arith in
      subst (λ (n : ℕ). AreLinesOf (HasVerdict (log_of h (ends_of log))) (obligations_from (known_at h.stretches.now) h.specs.now h.rules.now h.rows.now before (first_tenth log.hour) n) lines) size are

  pub lines_there : (before : Bool) (lines : List AuditLine) → AreLinesOf (HasVerdict (log_of h (ends_of log))) (obligations_in h before (first_tenth log.hour) (end_tenth log.hour)) lines → AreLines log h.rules.now before lines
  lines_there before lines are =
      along (λ (sp : List Spec) (r : List Row) (s : List Stretch). AreLines (hour_log log.hour sp r s log.before log.after) h.rules.now before lines) h.specs.now log.specs h.rows.now log.rows h.stretches.now log.stretches (sym (is.same_specs ∙ sym same)) (sym is.same_rows) (sym is.same_stretches) (whole_hour before lines are)
