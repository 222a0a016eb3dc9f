-- How little of a log still breaks an obligation: the decisive window.
use Rattle.std.specs.Prelude.{◌≡◌, ◌⊎◌, ℕ, ◌+◌, ◌-◌, ◌<◌, ◌≤◌, ◌&&◌, not, Bool, true, nat_lt, IsTrue, List, length, filter, slice_index_or}
use Rattle.sig_base.specs.declared.values.Row.{Row}
use Rattle.sig_base.specs.declared.values.Verdict.{Verdict}
use Rattle.sig_base.specs.declared.values.Verdict.TheVariants.{Broken}
use Rattle.channel_tables.specs.declared.spec.Spec.{Spec}
use Rattle.board.specs.Logs.{no_row}
use Rattle.signal_log.specs.Log.{Log, window_end}
use Rattle.signal_log.specs.States.{MayBeAfter, MayBeAtEnd}
use Rattle.rule_audit.specs.declared.rules.Rule.{Rule}
use Rattle.rule_audit.specs.declared.rules.Rule.TheVariants.{Interval}
use Rattle.rule_audit.specs.Judged.{IsRuleVerdict, States}
use Rattle.rule_audit.specs.declared.lines.AuditLine.{AuditLine}
use Rattle.rule_audit.specs.declared.lines.Place.{Place}
use Rattle.rule_audit.specs.declared.lines.Place.TheVariants.{BeforeRow, EndOfTenth}
use Rattle.rule_audit.specs.Index.{no_rule}
use Rattle.rule_audit.specs.Obligations.{Obligation, is_row_of, is_row_of_some, obligation, terms_of}
use Rattle.signal_log.specs.Rows.{rows_before}

-- ---- less of a log

-- tenth t is one of those from u to v, both among them
abbrev pub is_from_to : ℕ → ℕ → ℕ → Bool
is_from_to u v t = not (nat_lt t u) && not (nat_lt v t)

-- the log as if only the tenths from u to v were known of it, both among them
abbrev pub only : ℕ → ℕ → Log → Log
only u v log = record log {
  known = λ t. log.known t && is_from_to u v t;
  rows = filter (λ r. is_from_to u v r.at) log.rows;
}

-- ---- verdicts over a log

-- the states that the histories which agree with the log may have: of one channel before one of these rows, and of all channels at the end of a tenth
abbrev pub states_over : Log → List Row → States
states_over log rows = record {
  before_row = λ n i. MayBeAfter log i (slice_index_or rows n no_row).at (rows_before rows n);
  at_end = MayBeAtEnd log;
}

-- the verdict on an obligation over all histories that agree with the log; a place before a row is one of these rows
abbrev pub HasLogVerdict : Log → List Row → Obligation → Verdict → Type 0
HasLogVerdict log rows o x = IsRuleVerdict (states_over log rows) log.specs rows o.at o.place o.rule x

-- ---- the window

-- the row is of one of the rule's channels
abbrev pub is_row_of_rule : List Spec → Row → Rule → Bool
is_row_of_rule specs r (Interval item) = is_row_of specs r item.spec
is_row_of_rule specs r rule = is_row_of_some specs r (terms_of rule)

-- some known row at the tenth is of one of the rule's channels
pub record HasRowAt (log : Log) (rule : Rule) (t : ℕ) : Type 0 where
  pub place : ℕ
  pub within : place < length log.rows
  pub at : (slice_index_or log.rows place no_row).at ≡ t
  pub own : IsTrue (is_row_of_rule log.specs (slice_index_or log.rows place no_row) rule)

-- a tenth with which a decisive window may begin or end: the obligation's own, one with a known row of the rule's channels, and the window's first and last
abbrev pub IsCandidate : Log → Obligation → ℕ → Type 0
IsCandidate log o t = ((t ≡ o.at) ⊎ (t ≡ 0)) ⊎ ((t + 1 ≡ window_end log) ⊎ HasRowAt log o.rule t)

-- of the candidates C from low on, v is the least with which B holds
pub record IsLeastFrom (C B : ℕ → Type 0) (low v : ℕ) : Type 0 where
  pub candidate : C v
  pub late : low ≤ v
  pub holds : B v
  pub least : (w : ℕ) → C w → low ≤ w → w < v → B w → ⊥

-- of the candidates C up to high, that one with it, u is the greatest with which B holds
pub record IsGreatestTo (C B : ℕ → Type 0) (high u : ℕ) : Type 0 where
  pub candidate : C u
  pub early : u ≤ high
  pub holds : B u
  pub greatest : (w : ℕ) → C w → w ≤ high → u < w → B w → ⊥

-- the stretch from u to v decides that the obligation is broken: v is the least candidate from the obligation's tenth on with which it is broken by the log up to there alone, and u then the greatest candidate up to that tenth, it with it, from which on it still is
pub record IsDecisive (log : Log) (rows : List Row) (o : Obligation) (u v : ℕ) : Type 0 where
  pub end : IsLeastFrom (IsCandidate log o) (λ w. HasLogVerdict (only 0 w log) rows o Broken) o.at v
  pub begin : IsGreatestTo (IsCandidate log o) (λ w. HasLogVerdict (only w v log) rows o Broken) o.at u

-- ---- the line of an obligation

-- the obligation that a line is of
abbrev pub obligation_of : List Rule → AuditLine → Obligation
obligation_of rules line = obligation line.rule (slice_index_or rules (line.rule - 1) no_rule) line.at line.place

-- a place before a row is that of a row at the tenth
abbrev pub IsPlaceIn : List Row → ℕ → Place → Type 0
IsPlaceIn rows x (BeforeRow n) = (n < length rows) × ((slice_index_or rows n no_row).at ≡ x)
IsPlaceIn rows x EndOfTenth = Unit {0}

-- the line is of a rule, at a known tenth, and its obligation is broken over the whole log
pub record IsBrokenLine (log : Log) (rules : List Rule) (rows : List Row) (line : AuditLine) : Type 0 where
  pub some_rule : 1 ≤ line.rule
  pub last_rule : line.rule ≤ length rules
  pub within : line.at < window_end log
  pub is_known : log.known line.at ≡ true
  pub place : IsPlaceIn rows line.at line.place
  pub broken : HasLogVerdict log rows (obligation_of rules line) Broken
