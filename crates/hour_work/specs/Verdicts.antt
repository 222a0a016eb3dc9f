-- Verdicts of a store: over all histories of the whole window that agree with it.
use Rattle.std.specs.Prelude.{ℕ, List, slice_index_or}
use Rattle.sig_base.specs.declared.values.Row.{Row}
use Rattle.sig_base.specs.declared.values.Verdict.{Verdict}
use Rattle.hour_store.specs.Store.{Store, is_known}
use Rattle.board.specs.Logs.{first_tenth, no_row}
use Rattle.ring_config.specs.Settings.{Settings}
use Rattle.signal_log.specs.Log.{log_of}
use Rattle.signal_log.specs.States.{MayBeAfter, MayBeAtEnd}
use Rattle.rule_audit.specs.declared.lines.AuditLine.{AuditLine}
use Rattle.rule_audit.specs.Rules.{rules_for}
use Rattle.rule_audit.specs.Obligations.{Obligation, obligations_from}
use Rattle.rule_audit.specs.Judged.{IsRuleVerdict, States}
use Rattle.rule_audit.specs.Lines.{AreLinesOf}
use Rattle.signal_log.specs.Rows.{hour_rows, rows_before}
use Rattle.hour_work.specs.Points.{is_known_before}

-- the states that the histories which agree with the store may have: of one channel before one of these rows, and of all channels at the end of a tenth
abbrev pub states_in : Settings → Store → List Row → States
states_in c s rows = record {
  before_row = λ n i. MayBeAfter (log_of c.specs s) i (slice_index_or rows n no_row).at (rows_before rows n);
  at_end = MayBeAtEnd (log_of c.specs s);
}

-- what is to be judged in an hour of the store
unfoldable pub obligations_in : Settings → Store → ℕ → List Obligation
obligations_in c s hour = obligations_from (is_known s) c.specs (rules_for c) (hour_rows s hour) (is_known_before (is_known s) (first_tenth hour)) (first_tenth hour) 36000

-- the audit lines of an hour of the store: its obligations in order, each with its verdict over all histories that agree with the store, those that are idle left out
abbrev pub AreAuditLines : Settings → Store → ℕ → List AuditLine → Type 0
AreAuditLines c s hour lines = AreLinesOf (λ o x. IsRuleVerdict (states_in c s (hour_rows s hour)) c.specs (hour_rows s hour) o.at o.place o.rule x) (obligations_in c s hour) lines

-- For proofs alone: the verdict on an obligation over all histories that agree with the store.
abbrev pub HasStoreVerdict : Settings → Store → ℕ → Obligation → Verdict → Type 0
HasStoreVerdict c s hour o x = IsRuleVerdict (states_in c s (hour_rows s hour)) c.specs (hour_rows s hour) o.at o.place o.rule x
