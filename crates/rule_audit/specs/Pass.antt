-- What the pass over an hour adds to the lines, step by step.
use Rattle.std.specs.Prelude.{◌≡◌, ◌↔◌, ℕ, ◌+◌, ◌-◌, ◌<◌, ◌≤◌, ℤ, Bool, true, false, IsTrue, Option, List, ◌++◌, length, slice_index_or, All}
use Rattle.span_set.specs.declared.set.Span.{Span}
use Rattle.sig_base.specs.declared.values.Row.{Row}
use Rattle.sig_base.specs.declared.values.Verdict.{Verdict}
use Rattle.event_codes.specs.Channels.{channel_in_table}
use Rattle.gap_map.specs.Stretches.{known_at}
use Rattle.channel_tables.specs.declared.spec.Spec.{Spec}
use Rattle.channel_tables.specs.Spec.{IsSpec}
use Rattle.channel_tables.specs.Tables.{table_of}
use Rattle.reach.specs.Runs.{State}
use Rattle.reach.specs.Tests.{InBound}
use Rattle.reach.specs.declared.seen.AgeBound.{AgeBound}
use Rattle.reach.specs.declared.seen.Seen.{Seen}
use Rattle.board.specs.Logs.{HourLog, hour_log, no_row, no_spec}
use Rattle.board.specs.Places.{IsViewOf}
use Rattle.board.specs.Verdicts.{AreWithin}
use Rattle.ring_config.specs.declared.items.IntervalItem.{IntervalItem}
use Rattle.ring_config.specs.Sound.{IsBound}
use Rattle.rule_audit.specs.declared.hour.AuditedHour.{AuditedHour}
use Rattle.rule_audit.specs.declared.lines.AuditLine.{AuditLine}
use Rattle.rule_audit.specs.declared.rules.Rule.{Rule}
use Rattle.rule_audit.specs.declared.rules.Rule.TheVariants.{Interval, Conflict, Companion, Parents}
use Rattle.rule_audit.specs.Obligations.{Obligation, end_obligation, is_clause, is_due, obligations_from}
use Rattle.rule_audit.specs.Index.{no_rule, AreChannels, AreOwn, AreSkips, HasNoRule}
use Rattle.rule_audit.specs.Judged.{HasRuns, HasVerdict}
use Rattle.rule_audit.specs.Lines.{AreLinesOf}

-- what lies on both sides of an hour, beside its number
pub record Ends : Type 0 where
  pub hour : ℕ
  pub before : List (List (List Span))
  pub after : List (List (Option ℤ))

-- the log of the hour between these
abbrev pub log_of : AuditedHour → Ends → HourLog
log_of h e = hour_log e.hour h.specs.now h.rows.now h.stretches.now e.before e.after

-- the view is one of the hour between these, and some history agrees
pub record IsLogOf (h : AuditedHour) (e : Ends) : Type 0 where
  pub is_view : IsViewOf (log_of h e) h.view.now
  pub runs : HasRuns (log_of h e)

-- the row, the rule and the channel with this place
abbrev pub row_at : AuditedHour → ℕ → Row
row_at h n = slice_index_or h.rows.now n no_row

abbrev pub rule_at : AuditedHour → ℕ → Rule
rule_at h n = slice_index_or h.rules.now n no_rule

abbrev pub spec_at : AuditedHour → ℕ → Spec
spec_at h n = slice_index_or h.specs.now n no_spec

-- an interval rule of a channel among the specs
pub record FitsItem (specs : List Spec) (item : IntervalItem) : Type 0 where
  pub within : item.spec < length specs
  pub colour : item.colour < length (table_of (slice_index_or specs item.spec no_spec).channel.kind).names
  pub bound : IsBound item.bound

-- a rule of channels among the specs
abbrev pub FitsRule : List Spec → Rule → Type 0
FitsRule specs (Interval item) = FitsItem specs item
FitsRule specs (Conflict a b terms) = AreWithin (length specs) terms
FitsRule specs (Companion p terms) = AreWithin (length specs) terms
FitsRule specs (Parents o terms) = AreWithin (length specs) terms

-- no row is before an earlier one
abbrev pub Rises : List Row → Type 0
Rises rows = (j k : ℕ) → j ≤ k → k < length rows → (slice_index_or rows j no_row).at ≤ (slice_index_or rows k no_row).at

-- the parts fit one another
pub record IsReady (h : AuditedHour) : Type 0 where
  pub few_rules : length h.rules.now ≤ 1000
  pub few_rows : length h.rows.now ≤ 400000
  pub rises : Rises h.rows.now
  pub are_specs : All IsSpec h.specs.now
  pub are_rules : All (FitsRule h.specs.now) h.rules.now
  pub seen : length h.view.now.specs ≡ length h.specs.now
  pub own : AreOwn h.specs.now h.rules.now h.rows.now h.stretches.now h.own.now
  pub timed : AreSkips h.specs.now h.rules.now false (length h.specs.now) h.timed.now
  pub clauses : AreSkips h.specs.now h.rules.now true (length h.specs.now) h.clauses.now

-- the first i rows are those before tenth x
abbrev pub IsCutAt : List Row → ℕ → ℕ → Type 0
IsCutAt rows x i = (i ≤ length rows) × ((k : ℕ) → k < i → (slice_index_or rows k no_row).at < x) × ((k : ℕ) → i ≤ k → k < length rows → x ≤ (slice_index_or rows k no_row).at)

-- no rule is of the channel of a row from row i up to row j
abbrev pub AreUnruled : AuditedHour → ℕ → ℕ → Type 0
AreUnruled h i j = (k : ℕ) → i ≤ k → k < j → HasNoRule h.specs.now h.rules.now (channel_in_table (row_at h k).code (row_at h k).param)

-- row j is the first from row i on that has a rule or isn't before tenth t, or j is the number of rows
pub record IsNextRuled (h : AuditedHour) (i t j : ℕ) : Type 0 where
  pub from : i ≤ j
  pub within : j ≤ length h.rows.now
  pub none : AreUnruled h i j
  pub before : (k : ℕ) → i ≤ k → k < j → (row_at h k).at < t

-- row j is the first of the rows from row i on that are of the tenth of row n
pub record IsStart (rows : List Row) (i n j : ℕ) : Type 0 where
  pub from : i ≤ j
  pub within : j ≤ n
  pub same : (slice_index_or rows j no_row).at ≡ (slice_index_or rows n no_row).at
  pub before : (k : ℕ) → i ≤ k → k < j → (slice_index_or rows k no_row).at < (slice_index_or rows n no_row).at

-- from row i on, which is the first from some tenth on, rows without a rule are passed over up to row j, which is the first of a later tenth, up to t
abbrev pub PassesOver : AuditedHour → ℕ → ℕ → ℕ → Type 0
PassesOver h i t j = (i ≤ j) × AreUnruled h i j × ((y : ℕ) → y ≤ t → IsCutAt h.rows.now y i → (z : ℕ) × (y ≤ z) × (z ≤ t) × IsCutAt h.rows.now z j)

-- whether some of the states has the colour with an age in the bound, and whether some hasn't
pub record SeesColour (P : State → Type 0) (c : ℕ) (bound : AgeBound) (t : ℤ) (seen : Seen) : Type 0 where
  pub some_true : IsTrue seen.some_true ↔ ((v : State) × P v × ((v.colour ≡ c) × InBound bound t v.entry))
  pub some_false : IsTrue seen.some_false ↔ ((v : State) × P v × (((v.colour ≡ c) × InBound bound t v.entry) → ⊥))

-- the lines of the obligations come after those of before
abbrev pub Adds : (Obligation → Verdict → Type 0) → List Obligation → List AuditLine → List AuditLine → Type 0
Adds Has os old new = (ls : List AuditLine) × AreLinesOf Has os ls × (new ≡ old ++ ls)

-- the same, judged in the hour, whatever lies on both sides of it
abbrev pub AddsIn : AuditedHour → List Obligation → List AuditLine → List AuditLine → Type 0
AddsIn h os old new = (e : Ends) → IsLogOf h e → Adds (HasVerdict (log_of h e)) os old new

-- a rule is due at the end of the tenth, and what it adds there
abbrev pub IsDueAt : AuditedHour → Bool → ℕ → Rule → Type 0
IsDueAt h before at rule = is_due h.specs.now h.rows.now before at rule ≡ true

abbrev pub AddsEnd : AuditedHour → Ends → Bool → ℕ → ℕ → Rule → List AuditLine → List AuditLine → Type 0
AddsEnd h e before at number rule old new = Adds (HasVerdict (log_of h e)) (end_obligation h.specs.now h.rows.now before at number rule) old new

-- what the rule with this place adds at the end of the tenth, where it is due there if it is a clause
abbrev pub AddsAfter : AuditedHour → ℕ → ℕ → List AuditLine → List AuditLine → Type 0
AddsAfter h at place old new = (e : Ends) (before : Bool) → IsLogOf h e → (is_clause (rule_at h place) ≡ true → IsDueAt h before at (rule_at h place)) → AddsEnd h e before at (place + 1) (rule_at h place) old new

-- the tenth of a row is known
abbrev pub IsKnownRow : AuditedHour → ℕ → Type 0
IsKnownRow h n = known_at h.stretches.now (row_at h n).at ≡ true

-- those of the rows from row i on that are before tenth t are known
abbrev pub AreKnown : AuditedHour → ℕ → ℕ → Type 0
AreKnown h i t = (k : ℕ) → i ≤ k → k < length h.rows.now → (row_at h k).at < t → IsKnownRow h k

-- the lines of the first of the obligations come after those of before, and these obligations are left
abbrev pub AddsUpTo : (Obligation → Verdict → Type 0) → List Obligation → List Obligation → List AuditLine → List AuditLine → Type 0
AddsUpTo Has all left old new = (os : List Obligation) × Adds Has os old new × (os ++ left ≡ all)

-- the obligations of the hour from tenth x up to tenth t
abbrev pub obligations_in : AuditedHour → Bool → ℕ → ℕ → List Obligation
obligations_in h before x t = obligations_from (known_at h.stretches.now) h.specs.now h.rules.now h.rows.now before x (t - x)

-- by their places among the specs: the channels of the tenth's rows that have a rule, and no other
abbrev pub AreChannelsAt : AuditedHour → ℕ → List ℕ → Type 0
AreChannelsAt h at channels = (f : ℕ) × (t : ℕ) × IsCutAt h.rows.now at f × IsCutAt h.rows.now (at + 1) t × AreChannels h.own.now (length h.specs.now) f t channels
