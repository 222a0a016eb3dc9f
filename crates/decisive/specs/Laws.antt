-- What holds of verdicts where less is known, and of windows.
use Rattle.std.specs.Prelude.{◌≡◌, ◌↔◌, ℕ, ◌+◌, ◌<◌, ◌≤◌, pos, true, List, [], ◌∷◌, length, take, drop, slice_index_or}
use Rattle.sig_base.specs.declared.values.Row.{Row}
use Rattle.gap_map.specs.declared.stretch.Stretch.{Stretch}
use Rattle.gap_map.specs.Stretches.{FollowOn, known_at}
use Rattle.board.specs.Moves.{RowsIn, count_before}
use Rattle.sig_base.specs.declared.values.Verdict.TheVariants.{Broken, Idle, Kept}
use Rattle.reach.specs.Runs.{Fills, State, Steps}
use Rattle.channel_tables.specs.declared.spec.Spec.{Spec}
use Rattle.board.specs.Channels.{AreSpecs}
use Rattle.board.specs.History.{Agreeing, events_at, letters}
use Rattle.board.specs.Logs.{no_row}
use Rattle.signal_log.specs.Log.{HasHistory, IsBeforeWindow, Log, track_at, window_end}
use Rattle.signal_log.specs.States.{MayBeAfter, MayBeAtEnd, MayBeAtEndOf}
use Rattle.colour_machine.specs.Mask.{Has}
use Rattle.board.specs.declared.clause.Term.{Term}
use Rattle.board.specs.Verdicts.{AreWithin, IsVerdict, Keeps}
use Rattle.rule_audit.specs.declared.rules.Rule.{Rule}
use Rattle.rule_audit.specs.declared.rules.Rule.TheVariants.{Interval}
use Rattle.rule_audit.specs.declared.lines.Place.{Place}
use Rattle.rule_audit.specs.declared.lines.Place.TheVariants.{BeforeRow}
use Rattle.rule_audit.specs.Obligations.{Obligation}
use Rattle.decisive.specs.Window.{HasLogVerdict, IsDecisive, only}

-- an obligation has at most one decisive window
abbrev pub WindowIsOne : Type 0
WindowIsOne = (log : Log) (rows : List Row) (o : Obligation) (u v w x : ℕ) → IsDecisive log rows o u v → IsDecisive log rows o w x → (u ≡ w) × (v ≡ x)

-- of the same channels and window, and what the one tells of a known tenth the other tells too
pub record TellsLess (less more : Log) : Type 0 where
  pub specs : less.specs ≡ more.specs
  pub hours : less.hours ≡ more.hours
  pub known : (t : ℕ) → less.known t ≡ true → more.known t ≡ true
  pub rows : (t : ℕ) → less.known t ≡ true → events_at more.rows t ≡ events_at less.rows t

-- the log of fewer tenths tells less
abbrev pub OnlyTellsLess : Type 0
OnlyTellsLess = (log : Log) (u v w x : ℕ) → w ≤ u → v ≤ x → TellsLess (only u v log) (only w x log)

abbrev pub WholeTellsMore : Type 0
WholeTellsMore = (log : Log) (u v : ℕ) → TellsLess (only u v log) log

-- the obligation's place is in the window, and the log knows its tenth
abbrev pub FitsPlace : List Spec → List Row → ℕ → Place → Rule → Type 0
FitsPlace specs rows t (BeforeRow n) (Interval item) = ((slice_index_or rows n no_row).at ≡ t) × (item.spec < length specs)
FitsPlace specs rows t place rule = Unit {0}

pub record IsAt (log : Log) (rows : List Row) (o : Obligation) : Type 0 where
  pub within : o.at < window_end log
  pub is_known : log.known o.at ≡ true
  pub fits : FitsPlace log.specs rows o.at o.place o.rule

-- no state is lost where less is known
abbrev pub StatesStay : Type 0
StatesStay = (less more : Log) → AreSpecs less.specs → TellsLess less more → (x : ℕ) → x < window_end less → less.known x ≡ true → ((i j : ℕ) (v : State) → i < length less.specs → MayBeAfter more i x j v → MayBeAfter less i x j v) × ((v : ℕ → State) → MayBeAtEnd more x v → MayBeAtEnd less x v)

-- what is broken stays broken where more is known, as long as some history agrees
abbrev pub BrokenStays : Type 0
BrokenStays = (less more : Log) (rows : List Row) (o : Obligation) → AreSpecs less.specs → TellsLess less more → IsAt less rows o → HasHistory more → HasLogVerdict less rows o Broken → HasLogVerdict more rows o Broken

-- what is idle stays idle where more is known
abbrev pub IdleStays : Type 0
IdleStays = (less more : Log) (rows : List Row) (o : Obligation) → AreSpecs less.specs → TellsLess less more → IsAt less rows o → HasLogVerdict less rows o Idle → HasLogVerdict more rows o Idle

-- so what is broken where more is known is neither idle nor kept where less is
abbrev pub BrokenIsOpenBefore : Type 0
BrokenIsOpenBefore = (less more : Log) (rows : List Row) (o : Obligation) → AreSpecs less.specs → TellsLess less more → IsAt less rows o → HasHistory more → HasLogVerdict more rows o Broken → (HasLogVerdict less rows o Idle → ⊥) × (HasLogVerdict less rows o Kept → ⊥)

-- an obligation that is broken over some tenths is broken over more of them
abbrev pub BrokenGrows : Type 0
BrokenGrows = (log : Log) (rows : List Row) (o : Obligation) (u v w x : ℕ) → AreSpecs log.specs → HasHistory log → IsAt log rows o → u ≤ o.at → o.at ≤ v → w ≤ u → v ≤ x → HasLogVerdict (only u v log) rows o Broken → HasLogVerdict (only w x log) rows o Broken

-- ---- one channel

-- the channel may be in the state before tenth u where nothing before it is known
abbrev pub IsFree : Log → ℕ → ℕ → State → Type 0
IsFree log i u a = (s : State) × IsBeforeWindow (track_at log i).rules s × Fills (track_at log i).rules (pos 0) (pos u) s a

-- a run of the channel that agrees leads from state a before tenth u to state w after the first j events of tenth x
abbrev pub LeadsTo : Log → ℕ → ℕ → ℕ → ℕ → State → State → Type 0
LeadsTo log i u x j a w = (c : State) × Agreeing (track_at log i) log.known (events_at log.rows) u x a c × Steps (track_at log i).rules (pos x) c (letters (track_at log i) (take j (events_at log.rows x))) w

-- and one leads on from there to the end of tenth v
abbrev pub LeadsOn : Log → ℕ → ℕ → ℕ → ℕ → State → Type 0
LeadsOn log i x j v w = (b : State) × (c : State) × Steps (track_at log i).rules (pos x) w (letters (track_at log i) (drop j (events_at log.rows x))) c × Agreeing (track_at log i) log.known (events_at log.rows) (x + 1) (v + 1) c b

-- the states of one channel over the tenths from u to v alone are those of its own runs from u to v, from any state with which u may begin to any state with which v may end
abbrev pub ChannelAlone : Type 0
ChannelAlone = (log : Log) (i u v x j : ℕ) (w : State) → AreSpecs log.specs → HasHistory log → i < length log.specs → u ≤ x → x ≤ v → v < window_end log → log.known x ≡ true → MayBeAfter (only u v log) i x j w ↔ (((a : State) × IsFree log i u a × LeadsTo log i u x j a w) × LeadsOn log i x j v w)

-- ---- clauses

-- no history has one of the terms' channels in its colours at the end of the tenth
abbrev pub NoTermHolds : Log → ℕ → List Term → Type 0
NoTermHolds log x [] = Unit {0}
NoTermHolds log x (c ∷ cs) = ((z : State) → MayBeAtEndOf log c.spec x z → Has c.colours z.colour → ⊥) × NoTermHolds log x cs

-- a clause is broken exactly where each of its channels breaks it alone
abbrev pub ClauseByTerms : Type 0
ClauseByTerms = (log : Log) (x : ℕ) (terms : List Term) → AreSpecs log.specs → HasHistory log → AreWithin (length log.specs) terms → x < window_end log → IsVerdict Broken (MayBeAtEnd log x) (Keeps terms) ↔ NoTermHolds log x terms

-- ---- what is told

-- rows and stretches tell of the tenths from f up to t what the log does
pub record TellsOf (log : Log) (rows : List Row) (ss : List Stretch) (f t : ℕ) : Type 0 where
  pub follow : FollowOn f t ss
  pub rows_in : RowsIn f t rows
  pub same_known : (y : ℕ) → f ≤ y → y < t → known_at ss y ≡ log.known y
  pub same_rows : (y : ℕ) → f ≤ y → y < t → log.known y ≡ true → events_at rows y ≡ events_at log.rows y

-- the rows up to tenth w, that tenth with them
abbrev pub rows_to : ℕ → List Row → List Row
rows_to w rows = take (count_before (w + 1) rows) rows
