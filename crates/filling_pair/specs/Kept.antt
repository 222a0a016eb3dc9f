-- What a rule says of strands at the place of a line.
use Rattle.std.specs.Prelude.{◌≡◌, ◌⊎◌, ℕ, ◌+◌, ◌-◌, ◌*◌, ◌/◌, ◌<◌, ◌≤◌, pos, Bool, true, false, List, [], ◌∷◌, length, take, slice_index_or}
use Rattle.sig_base.specs.declared.values.Row.{Row}
use Rattle.channel_tables.specs.declared.spec.Spec.{Spec}
use Rattle.colour_machine.specs.Mask.{Has}
use Rattle.reach.specs.Runs.{State, Steps}
use Rattle.hour_store.specs.Store.{Store, is_known}
use Rattle.board.specs.declared.clause.Term.{Term}
use Rattle.board.specs.History.{letters}
use Rattle.board.specs.Logs.{no_row, no_spec}
use Rattle.signal_log.specs.Log.{Log, log_of, track_at}
use Rattle.rule_audit.specs.declared.lines.AuditLine.{AuditLine}
use Rattle.rule_audit.specs.declared.lines.Place.{Place}
use Rattle.rule_audit.specs.declared.lines.Place.TheVariants.{BeforeRow, EndOfTenth}
use Rattle.rule_audit.specs.declared.rules.Rule.{Rule}
use Rattle.rule_audit.specs.declared.rules.Rule.TheVariants.{Interval}
use Rattle.rule_audit.specs.Obligations.{terms_of}
use Rattle.rule_audit.specs.Index.{no_rule}
use Rattle.rule_audit.specs.Judged.{KeepsInterval}
use Rattle.filling_pair.specs.declared.strands.Strand.{Strand}
use Rattle.filling_pair.specs.Strands.{AreStrands, Leads, events_with}
use Rattle.signal_log.specs.Rows.{hour_rows, rows_before}

-- what stands at the tenths before the place, and the events of its tenth t before it, lead the strand's channel to the state, where these are the rows of its hour
abbrev pub StandsAt : Log → List Row → ℕ → Place → Strand → State → Type 0
StandsAt log rows t (BeforeRow n) s v =
    (a : State) × Leads log s t a × Steps (track_at log s.spec).rules (pos t) a (letters (track_at log s.spec) (take (rows_before rows n) (events_with log s.fills t))) v
StandsAt log rows t EndOfTenth s v = Leads log s (t + 1) v

-- some term is of channel i and has the colour
abbrev pub HoldsIn : List Term → ℕ → ℕ → Type 0
HoldsIn [] i colour = ⊥
HoldsIn (c ∷ cs) i colour = ((c.spec ≡ i) × Has c.colours colour) ⊎ HoldsIn cs i colour

-- with the channel in the state the rule is kept at the place; an interval rule is judged before rows alone, and a clause at the end of tenths alone
abbrev pub KeepsBy : List Spec → List Row → Place → Rule → ℕ → State → Type 0
KeepsBy specs rows (BeforeRow n) (Interval item) i v = (item.spec ≡ i) × KeepsInterval (slice_index_or specs item.spec no_spec) (slice_index_or rows n no_row) item v
KeepsBy specs rows (BeforeRow n) rule i v = ⊥
KeepsBy specs rows EndOfTenth (Interval item) i v = ⊥
KeepsBy specs rows EndOfTenth rule i v = HoldsIn (terms_of rule) i v.colour

-- one of the strands comes at the place to a state with which the rule is kept
abbrev pub AreKept : Log → List Row → ℕ → Place → Rule → List Strand → Type 0
AreKept log rows t place rule [] = ⊥
AreKept log rows t place rule (s ∷ ss) = ((v : State) × StandsAt log rows t place s v × KeepsBy log.specs rows place rule s.spec v) ⊎ AreKept log rows t place rule ss

-- P holds, or doesn't, as said
abbrev pub IsAsSaid : Bool → Type 0 → Type 0
IsAsSaid true P = P
IsAsSaid false P = P → ⊥

-- ---- For contracts alone

-- what stands at the tenths before t, and then the first j events of tenth t, lead the strand's channel to the state v
abbrev pub LeadsInto : Log → Strand → ℕ → ℕ → State → Type 0
LeadsInto log s t j v = (a : State) × Leads log s t a × Steps (track_at log s.spec).rules (pos t) a (letters (track_at log s.spec) (take j (events_with log s.fills t))) v

-- the strand comes at the place to a state with which the rule is kept
abbrev pub KeepsAt : Log → List Row → ℕ → Place → Rule → Strand → Type 0
KeepsAt log rows t place rule s = (v : State) × StandsAt log rows t place s v × KeepsBy log.specs rows place rule s.spec v

-- the rule that a line is of
abbrev pub rule_of : List Rule → AuditLine → Rule
rule_of rules line = slice_index_or rules (line.rule - 1) no_rule

-- a place before a row is that of a row at the tenth
abbrev pub IsPlaceOf : List Row → ℕ → Place → Type 0
IsPlaceOf rows t (BeforeRow n) = (n < length rows) × ((slice_index_or rows n no_row).at ≡ t)
IsPlaceOf rows t EndOfTenth = Unit {0}

-- the rows of the line's hour
abbrev pub line_rows : Store → AuditLine → List Row
line_rows s line = hour_rows s (line.at / 36000)

-- the line is at a place of a known tenth
pub record IsPlaced (s : Store) (line : AuditLine) : Type 0 where
  pub within : line.at < 36000 * length s.hours
  pub is_known : is_known s line.at ≡ true
  pub place : IsPlaceOf (line_rows s line) line.at line.place

-- the line is of one of the rules, at a place of a known tenth
pub record IsLineOf (s : Store) (rules : List Rule) (line : AuditLine) : Type 0 where
  pub some_rule : 1 ≤ line.rule
  pub last_rule : line.rule ≤ length rules
  pub placed : IsPlaced s line

-- the strand comes to the state at the line's place
abbrev pub StandsAtLine : List Spec → Store → AuditLine → Strand → State → Type 0
StandsAtLine specs s line z v = StandsAt (log_of specs s) (line_rows s line) line.at line.place z v

-- with the strand the rule is kept at the line's place, where these are the rows of its hour
abbrev pub KeepsLine : List Spec → Store → List Row → AuditLine → Rule → Strand → Type 0
KeepsLine specs s rows line rule z = KeepsAt (log_of specs s) rows line.at line.place rule z

-- with one of the strands the rule is kept at the line's place
abbrev pub KeepLine : List Spec → Store → List Row → AuditLine → Rule → List Strand → Type 0
KeepLine specs s rows line rule ss = AreKept (log_of specs s) rows line.at line.place rule ss

-- these are strands of the line's rule, and with them it is kept at the line's place as said
abbrev pub AreShown : List Spec → Store → List Rule → AuditLine → List Strand → Bool → Type 0
AreShown specs s rules line ss kept = AreStrands (log_of specs s) (rule_of rules line) ss × IsAsSaid kept (KeepLine specs s (line_rows s line) line (rule_of rules line) ss)
