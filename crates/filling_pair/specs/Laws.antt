-- What holds of strands, whatever the log.
use Rattle.std.specs.Prelude.{◌≡◌, ◌↔◌, ℕ, ◌<◌, true, List, [], ◌∷◌, slice_index_or}
use Rattle.sig_base.specs.declared.values.Row.{Row}
use Rattle.reach.specs.Runs.{State}
use Rattle.board.specs.Channels.{AreSpecs}
use Rattle.board.specs.History.{History, letters, start_of as begins}
use Rattle.board.specs.Verdicts.{Keeps}
use Rattle.signal_log.specs.Log.{AgreesWith, HasHistory, Log, track_at, window_end}
use Rattle.rule_audit.specs.declared.lines.Place.{Place}
use Rattle.rule_audit.specs.declared.lines.Place.TheVariants.{EndOfTenth}
use Rattle.rule_audit.specs.declared.rules.Rule.{Rule}
use Rattle.rule_audit.specs.Obligations.{is_clause, terms_of}
use Rattle.filling_pair.specs.declared.strands.Strand.{Strand}
use Rattle.filling_pair.specs.Strands.{AreStrands, events_with, start_of}
use Rattle.filling_pair.specs.Kept.{AreKept, StandsAt}

-- in the history the strand's channel begins as the strand does, and has at each tenth the letters of what stands there with the fills
pub record GoesAs (log : Log) (h : History) (s : Strand) : Type 0 where
  pub begin : begins h s.spec ≡ start_of s
  pub same : (t : ℕ) → t < window_end log → letters (track_at log s.spec) (slice_index_or h.events t []) ≡ letters (track_at log s.spec) (events_with log s.fills t)

abbrev pub GoesAsAll : Log → History → List Strand → Type 0
GoesAsAll log h [] = Unit {0}
GoesAsAll log h (s ∷ ss) = GoesAs log h s × GoesAsAll log h ss

-- where some history agrees with the log, one that agrees goes as the strands of a rule do
abbrev pub StrandsAreOfHistory : Type 0
StrandsAreOfHistory = (log : Log) (rule : Rule) (ss : List Strand) → AreSpecs log.specs → HasHistory log → AreStrands log rule ss → (h : History) × AgreesWith log h × GoesAsAll log h ss

-- the strands come at the place to the channels' states
abbrev pub AllStand : Log → List Row → ℕ → Place → List Strand → (ℕ → State) → Type 0
AllStand log rows t place [] v = Unit {0}
AllStand log rows t place (s ∷ ss) v = StandsAt log rows t place s (v s.spec) × AllStand log rows t place ss v

-- strands keep a clause exactly where it is kept in the states to which they come
abbrev pub KeptByStates : Type 0
KeptByStates = (log : Log) (rows : List Row) (t : ℕ) (rule : Rule) (ss : List Strand) → is_clause rule ≡ true → AreStrands log rule ss → t < window_end log → AreKept log rows t EndOfTenth rule ss ↔ ((v : ℕ → State) × AllStand log rows t EndOfTenth ss v × Keeps (terms_of rule) v)
