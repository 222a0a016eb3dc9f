-- The lines of the audit of an hour, with the decisive window of each broken one.
use Rattle.std.specs.Prelude.{◌≡◌, ℕ, Bool, true, false, List, [], ◌∷◌, Option, Some, None, ⊤}
use Rattle.sig_base.specs.declared.values.Row.{Row}
use Rattle.hour_store.specs.Store.{Store}
use Rattle.ring_config.specs.Settings.{Settings}
use Rattle.signal_log.specs.Log.{Log, log_of}
use Rattle.rule_audit.specs.declared.lines.AuditLine.{AuditLine}
use Rattle.rule_audit.specs.declared.rules.Rule.{Rule}
use Rattle.rule_audit.specs.Rules.{rules_for}
use Rattle.decisive.specs.Window.{IsDecisive, obligation_of}
use Rattle.signal_log.specs.Rows.{hour_rows}
use Rattle.hour_work.specs.Counts.{is_broken}
use Rattle.hour_work.specs.Verdicts.{AreAuditLines}

-- a broken line has the decisive window of its obligation, every other has none
abbrev pub HasWindow : Log → List Rule → List Row → AuditLine → Option (ℕ × ℕ) → Type 0
HasWindow log rules rows l None = is_broken l.verdict ≡ false
HasWindow log rules rows l (Some w) = (is_broken l.verdict ≡ true) × IsDecisive log rows (obligation_of rules l) w.0 w.1

-- the second lines are the first ones, each broken one with its decisive window
abbrev pub AreWithWindows : Log → List Rule → List Row → List AuditLine → List AuditLine → Type 0
AreWithWindows log rules rows [] [] = ⊤
AreWithWindows log rules rows (p ∷ ps) (l ∷ ls) =
    ((w : Option (ℕ × ℕ)) × HasWindow log rules rows p w × (l ≡ record p { window = w })) × AreWithWindows log rules rows ps ls
AreWithWindows log rules rows _ _ = ⊥

-- the lines of the audit of an hour of the store: where windows are wanted each broken one has its decisive window, else none has one
abbrev pub AreHourLines : Settings → Store → ℕ → Bool → List AuditLine → Type 0
AreHourLines c s hour false lines = AreAuditLines c s hour lines
AreHourLines c s hour true lines =
    (plain : List AuditLine) × AreAuditLines c s hour plain × AreWithWindows (log_of c.specs s) (rules_for c) (hour_rows s hour) plain lines

-- ---- For contracts alone

-- the line with this window
abbrev pub with_window : AuditLine → Option (ℕ × ℕ) → AuditLine
with_window l w = record l { window = w }
