-- What is asked of the channels of a rule at the place of a line, and strands that answer.
use Rattle.std.specs.Prelude.{◌≡◌, ◌≢◌, ◌⊎◌, ◌↔◌, ℕ, ◌+◌, ◌-◌, ◌/◌, ◌<◌, ◌≤◌, pos, Bool, true, false, List, [], ◌∷◌, length, slice_index_or, Option, Some, None}
use Rattle.std.specs.List.{AllByRecursion}
use Rattle.sig_base.specs.declared.values.Row.{Row}
use Rattle.sig_base.specs.declared.values.Verdict.TheVariants.{Undecided}
use Rattle.channel_tables.specs.declared.spec.Spec.{Spec}
use Rattle.reach.specs.Runs.{State}
use Rattle.reach.specs.declared.seen.Test.{Test}
use Rattle.hour_store.specs.Store.{Store, is_known}
use Rattle.colour_machine.specs.Mask.{Has}
use Rattle.reach.specs.declared.seen.AgeBound.TheVariants.{Any}
use Rattle.board.specs.declared.clause.Term.{Term}
use Rattle.board.specs.Channels.{AreSpecs}
use Rattle.board.specs.Logs.{no_row}
use Rattle.board.specs.Verdicts.{AreApart, AreWithin, IsVerdict, Keeps}
use Rattle.gap_ways.specs.Choices.{Answers}
use Rattle.signal_log.specs.Log.{Log, log_of}
use Rattle.signal_log.specs.States.{MayBeAfter, MayBeAtEnd, MayBeAtEndOf}
use Rattle.rule_audit.specs.declared.lines.AuditLine.{AuditLine}
use Rattle.rule_audit.specs.declared.lines.Place.{Place}
use Rattle.rule_audit.specs.declared.lines.Place.TheVariants.{BeforeRow, EndOfTenth}
use Rattle.rule_audit.specs.declared.rules.Rule.{Rule}
use Rattle.rule_audit.specs.Index.{no_rule}
use Rattle.rule_audit.specs.Judged.{IsRuleVerdict, States}
use Rattle.rule_audit.specs.Obligations.{is_clause, terms_of}
use Rattle.rule_audit.specs.Pass.{FitsRule}
use Rattle.strand_search.specs.Events.{AreFew}
use Rattle.strand_search.specs.Runs.{TellsWithinHour}
use Rattle.filling_pair.specs.declared.asks.Ask.{Ask}
use Rattle.filling_pair.specs.declared.strands.Pair.{Pair}
use Rattle.filling_pair.specs.declared.strands.Strand.{Strand}
use Rattle.filling_pair.specs.Strands.{AreStrands, HasStrand, IsStrand, rows_of}
use Rattle.filling_pair.specs.Kept.{AreKept, IsAsSaid, IsPlaced, StandsAtLine, line_rows, rule_of}
use Rattle.signal_log.specs.Rows.{hour_rows, rows_before}

-- ---- a line that is undecided

-- the states that the histories which agree with the log may have: of one channel before one of these rows, and of all channels at the end of a tenth
abbrev pub states_over : Log → List Row → States
states_over log rows = record {
  before_row = λ n i. MayBeAfter log i (slice_index_or rows n no_row).at (rows_before rows n);
  at_end = MayBeAtEnd log;
}

-- some history that agrees with the store keeps the rule at the line's place, and some doesn't
abbrev pub IsOpen : List Spec → Store → AuditLine → Rule → Type 0
IsOpen specs s line rule = IsRuleVerdict (states_over (log_of specs s) (line_rows s line)) specs (line_rows s line) line.at line.place rule Undecided

-- the same, where the place is of a known tenth and the rule is of channels of these few specs
pub record IsOpenRule (specs : List Spec) (s : Store) (line : AuditLine) (rule : Rule) : Type 0 where
  pub channels : AreSpecs specs
  pub few : length specs ≤ 225
  pub fits : FitsRule specs rule
  pub placed : IsPlaced s line
  pub verdict : IsOpen specs s line rule

-- the line is undecided
abbrev pub IsUndecided : List Spec → Store → List Rule → AuditLine → Type 0
IsUndecided specs s rules line = IsOpen specs s line (rule_of rules line)

-- the number of the row before which the place is
abbrev pub row_of_place : Place → Option ℕ
row_of_place (BeforeRow n) = Some n
row_of_place EndOfTenth = None

-- ---- asks

-- the test of what is asked at the tenth
abbrev pub test_of : Ask → ℕ → Test
test_of ask at = record { colours = ask.colours; bound = ask.bound; at = pos at }

-- the channel is one of the specs, and no age that is told apart is more than an hour
abbrev pub FitsAsk : List Spec → Ask → Type 0
FitsAsk specs ask = (ask.spec < length specs) × TellsWithinHour ask.bound

abbrev pub FitAsks : List Spec → List Ask → Type 0
FitAsks specs [] = Unit {0}
FitAsks specs (x ∷ xs) = FitsAsk specs x × FitAsks specs xs

-- something is asked of the channel
abbrev pub HasAsk : ℕ → List Ask → Type 0
HasAsk i [] = ⊥
HasAsk i (x ∷ xs) = (x.spec ≡ i) ⊎ HasAsk i xs

-- it is one of these
abbrev pub IsAmong : Ask → List Ask → Type 0
IsAmong a [] = ⊥
IsAmong a (x ∷ xs) = (a ≡ x) ⊎ IsAmong a xs

-- some history that agrees comes at the place to this state of the channel
abbrev pub MayStand : Log → List Row → ℕ → ℕ → Place → State → Type 0
MayStand log rows i t (BeforeRow n) v = MayBeAfter log i t (rows_before rows n) v
MayStand log rows i t EndOfTenth v = MayBeAtEndOf log i t v

-- none does to a state that answers
abbrev pub NoneStands : List Spec → Store → AuditLine → Ask → Type 0
NoneStands specs s line ask = (v : State) → MayStand (log_of specs s) (line_rows s line) ask.spec line.at line.place v → Answers ask.met (test_of ask line.at) v → ⊥

-- the strand is the channel's, comes at the line's place to a state that answers, and has few fills
pub record Replies (specs : List Spec) (s : Store) (line : AuditLine) (ask : Ask) (z : Strand) : Type 0 where
  pub spec : z.spec ≡ ask.spec
  pub strand : IsStrand (log_of specs s) z
  pub answer : (v : State) × StandsAtLine specs s line z v × Answers ask.met (test_of ask line.at) v
  pub few : AreFew (is_known s) (rows_of z.fills)

-- each strand answers one of the asks
abbrev pub ReplyEach : List Spec → Store → AuditLine → List Ask → List Strand → Type 0
ReplyEach specs s line asks [] = Unit {0}
ReplyEach specs s line asks (z ∷ zs) = ((a : Ask) × IsAmong a asks × Replies specs s line a z) × ReplyEach specs s line asks zs

-- the channels ascend from low on, and are below n
abbrev pub AscendTo : ℕ → ℕ → List Strand → Type 0
AscendTo low n [] = low ≤ n
AscendTo low n (z ∷ zs) = (low ≤ z.spec) × (z.spec < n) × AscendTo (z.spec + 1) n zs

-- one strand for each ask of one of the first n channels, by ascending channel
pub record ReplyUpTo (specs : List Spec) (s : Store) (line : AuditLine) (asks : List Ask) (n : ℕ) (ss : List Strand) : Type 0 where
  pub ascend : AscendTo 0 n ss
  pub channels : (i : ℕ) → HasStrand i ss ↔ (HasAsk i asks × (i < n))
  pub each : ReplyEach specs s line asks ss

-- one for each ask
abbrev pub ReplyAll : List Spec → Store → AuditLine → List Ask → List Strand → Type 0
ReplyAll specs s line asks ss = ReplyUpTo specs s line asks (length specs) ss

-- one of the asks has no answer
abbrev pub LacksReply : List Spec → Store → AuditLine → List Ask → Type 0
LacksReply specs s line asks = (a : Ask) × IsAmong a asks × NoneStands specs s line a

-- ---- the pair

-- these strands are ones of the rule, with them it is kept or not as said at the line's place, and none has more than sixteen fills in any one run of unknown tenths of an hour
pub record Shows (specs : List Spec) (s : Store) (line : AuditLine) (rule : Rule) (kept : Bool) (ss : List Strand) : Type 0 where
  pub strands : AreStrands (log_of specs s) rule ss
  pub said : IsAsSaid kept (AreKept (log_of specs s) (hour_rows s (line.at / 36000)) line.at line.place rule ss)
  pub few : AllByRecursion (λ z. AreFew (is_known s) (rows_of z.fills)) ss

-- a pair has strands with which the rule is kept at the line's place, and others with which it isn't
pub record ShowsBoth (specs : List Spec) (s : Store) (line : AuditLine) (rule : Rule) (pair : Pair) : Type 0 where
  pub keeps : Shows specs s line rule true pair.keeps
  pub breaks : Shows specs s line rule false pair.breaks

-- the pair shows of an undecided line that its rule may have been kept and may have been broken
abbrev pub IsPair : List Spec → Store → List Rule → AuditLine → Pair → Type 0
IsPair specs s rules line pair = ShowsBoth specs s line (slice_index_or rules (line.rule - 1) no_rule) pair

-- for contracts alone: no strand has more than sixteen fills in any one run of unknown tenths of an hour
abbrev pub HaveFew : Store → List Strand → Type 0
HaveFew s ss = AllByRecursion (λ z. AreFew (is_known s) (rows_of z.fills)) ss

-- ---- clauses

-- the rule is a clause of these terms
abbrev pub IsClauseOf : Rule → List Term → Type 0
IsClauseOf rule terms = (is_clause rule ≡ true) × (terms_of rule ≡ terms)

-- the line is at the end of a known tenth, where some history keeps the clause of these terms of different channels of these few specs, and some doesn't
pub record IsOpenClause (specs : List Spec) (s : Store) (line : AuditLine) (terms : List Term) : Type 0 where
  pub channels : AreSpecs specs
  pub few : length specs ≤ 225
  pub within : AreWithin (length specs) terms
  pub apart : AreApart terms
  pub placed : IsPlaced s line
  pub at_end : line.place ≡ EndOfTenth
  pub verdict : IsVerdict Undecided (MayBeAtEnd (log_of specs s) line.at) (Keeps terms)

-- each channel is to be outside its term's colours
abbrev pub failing : Term → Ask
failing c = record { spec = c.spec; colours = c.colours; bound = Any; met = false }

-- that of channel i is to be in its term's colours, each other in any colour
abbrev pub AreHolding : ℕ → List Term → List Ask → Type 0
AreHolding i [] [] = Unit {0}
AreHolding i [] (a ∷ asks) = ⊥
AreHolding i (c ∷ cs) [] = ⊥
AreHolding i (c ∷ cs) (a ∷ asks) = ((a.spec ≡ c.spec) × (a.bound ≡ Any) × (a.met ≡ true) × (c.spec ≡ i → a.colours ≡ c.colours) × (c.spec ≢ i → (x : ℕ) → x < 16 → Has a.colours x)) × AreHolding i cs asks

-- it is one of these terms
abbrev pub IsTermOf : Term → List Term → Type 0
IsTermOf c [] = ⊥
IsTermOf c (x ∷ xs) = (c ≡ x) ⊎ IsTermOf c xs

-- no history has the term's channel in its colours at the end of the line's tenth
abbrev pub NoneHolds : List Spec → Store → AuditLine → Term → Type 0
NoneHolds specs s line c = (v : State) → MayBeAtEndOf (log_of specs s) c.spec line.at v → Has c.colours v.colour → ⊥
