-- The lines that an audit prints.
use Rattle.std.specs.Prelude.{◌≡◌, Bool, None, List, [], ◌∷◌, ◌++◌}
use Rattle.sig_base.specs.declared.values.Row.{Row}
use Rattle.sig_base.specs.declared.values.Verdict.{Verdict}
use Rattle.sig_base.specs.declared.values.Verdict.TheVariants as verdicts
use Rattle.gap_map.specs.declared.stretch.Stretch.{Stretch}
use Rattle.gap_map.specs.Stretches.{known_at}
use Rattle.board.specs.Logs.{HourLog, first_tenth}
use Rattle.board.specs.Places.{IsViewOf}
use Rattle.ring_config.specs.Settings.{Settings}
use Rattle.rule_audit.specs.declared.rules.Rule.{Rule}
use Rattle.rule_audit.specs.declared.lines.AuditLine.{AuditLine}
use Rattle.rule_audit.specs.Obligations.{Obligation, obligations_from}
use Rattle.rule_audit.specs.Judged.{HasRuns, HasVerdict}

-- the line of an obligation with its verdict, without a window; an idle one has none
abbrev pub lines_of : Obligation → Verdict → List AuditLine
lines_of o verdicts.Idle = []
lines_of o x = record { rule = o.number; at = o.at; place = o.place; verdict = x; window = None } ∷ []

-- the lines of these obligations in order, each with a verdict that it has
abbrev pub AreLinesOf : (Obligation → Verdict → Type 0) → List Obligation → List AuditLine → Type 0
AreLinesOf Has [] lines = lines ≡ []
AreLinesOf Has (o ∷ os) lines = (x : Verdict) × Has o x × ((rest : List AuditLine) × AreLinesOf Has os rest × (lines ≡ lines_of o x ++ rest))

-- For contracts alone: the line of an obligation with its verdict, without a window
abbrev pub line_of : Obligation → Verdict → AuditLine
line_of o x = record { rule = o.number; at = o.at; place = o.place; verdict = x; window = None }

-- the obligations of an hour, where `before` says whether the tenth before it is known
unfoldable pub hour_obligations : HourLog → List Rule → Bool → List Obligation
hour_obligations log rules before = obligations_from (known_at log.stretches) log.specs rules log.rows before (first_tenth log.hour) 36000

-- the lines of an hour
abbrev pub AreLines : HourLog → List Rule → Bool → List AuditLine → Type 0
AreLines log rules before lines = AreLinesOf (HasVerdict log) (hour_obligations log rules before) lines

-- the view is one of this hour, with the channels of the configuration, and some history agrees with the hour
pub record IsAudited (c : Settings) (view : HourLog) (rows : List Row) (ss : List Stretch) (log : HourLog) : Type 0 where
  pub is_view : IsViewOf log view
  pub same_specs : log.specs ≡ c.specs
  pub same_rows : log.rows ≡ rows
  pub same_stretches : log.stretches ≡ ss
  pub runs : HasRuns log
