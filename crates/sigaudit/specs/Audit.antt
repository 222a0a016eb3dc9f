-- The lines of an audit of a store.
use Rattle.std.specs.Prelude.{◌≡◌, ℕ, zero, suc, ◌+◌, List, [], ◌∷◌, ◌++◌, codes, decimal, flat_map, if◌then◌else◌, Bool, true, false}
use Rattle.sig_base.specs.declared.values.EditError.TheVariants.{OutOfWindow}
use Rattle.hour_store.specs.Store.{Store}
use Rattle.ring_config.specs.Settings.{Settings}
use Rattle.signal_log.specs.Log.{HasHistory, log_of}
use Rattle.rule_audit.specs.declared.lines.AuditLine.{AuditLine}
use Rattle.rule_audit.specs.Rules.{rules_for}
use Rattle.hour_work.specs.Counts.{is_kept}
use Rattle.hour_work.specs.Numbers.{Numbers}
use Rattle.measure_laws.specs.Plain.{IsWindowOf}
use Rattle.session.specs.Windows.{AreHourLines}
use Rattle.report_text.specs.declared.refusal.Refusal.TheVariants.{Edit}
use Rattle.report_text.specs.Line.{line_of, num}
use Rattle.report_text.specs.Audit.{counts_from, lines_text}
use Rattle.sigaudit.specs.Turns.{Turn, refuses, writes}

-- the broken and undecided lines of so many hours from this one on, each broken one with its decisive window; the kept ones are left out
unfoldable pub AreFailing : Settings → Store → ℕ → ℕ → List AuditLine → Type 0
AreFailing c s hour zero failing = failing ≡ []
AreFailing c s hour (suc n) failing =
    (lines : List AuditLine) × (rest : List AuditLine) × AreHourLines c s hour true lines × AreFailing c s (hour + 1) n rest
    × (failing ≡ flat_map (λ l. if is_kept l.verdict then [] else l ∷ []) lines ++ rest)

-- the turn of a line that asks for an audit of a store with which some history agrees, so that no obligation has two verdicts: how many verdicts each rule has in the window, and then the broken and undecided ones hour by hour, each broken one with its window
abbrev pub IsAudited : Settings → ℕ → Store → Turn → Type 0
IsAudited c n s t =
    (total : Numbers) × (lines : List AuditLine) × HasHistory (log_of c.specs s) × IsWindowOf c s total × AreFailing c s 0 c.window.hours lines
    × (t ≡ writes ((line_of (decimal n ∷ codes " audit" ∷ []) ++ counts_from c.specs total.rules 0 (rules_for c)) ++ lines_text c.window lines) s)

-- the turn of a line that asks for the verdicts of one hour, the kept ones among them; an hour past the window is refused
abbrev pub AreVerdicts : Settings → ℕ → ℕ → Store → Bool → Turn → Type 0
AreVerdicts c n hour s true t =
    (lines : List AuditLine) × HasHistory (log_of c.specs s) × AreHourLines c s hour true lines
    × (t ≡ writes (line_of (decimal n ∷ num " verdicts " hour ∷ []) ++ lines_text c.window lines) s)
AreVerdicts c n hour s false t = t ≡ refuses c n (Edit OutOfWindow) s

-- ---- For contracts alone

-- a line, unless it is kept
abbrev pub failing_at : AuditLine → List AuditLine
failing_at l = if is_kept l.verdict then [] else l ∷ []

-- the lines that aren't kept, in their order
abbrev pub failing_of : List AuditLine → List AuditLine
failing_of lines = flat_map failing_at lines

-- the second list has the broken and undecided lines of an hour behind the first one
abbrev pub AddsHour : Settings → Store → ℕ → List AuditLine → List AuditLine → Type 0
AddsHour c s hour old new = (lines : List AuditLine) × AreHourLines c s hour true lines × (new ≡ old ++ failing_of lines)
