-- A session, and what an edit answers and does to it.
use Rattle.std.specs.Prelude.{◌≡◌, ◌<◌, ℕ, Bool, List, length, slice_index_or, Result, Ok, Err}
use Rattle.sig_base.specs.declared.values.Applied.{Applied}
use Rattle.sig_base.specs.declared.values.EditError.{EditError}
use Rattle.sig_base.specs.declared.values.EditError.TheVariants.{TooManyBlanks, Contradiction, Memory}
use Rattle.hour_store.specs.Store.{IsStore, Store}
use Rattle.ring_config.specs.Settings.{Settings}
use Rattle.ring_config.specs.Sound.{IsSound}
use Rattle.signal_log.specs.Log.{HasHistory, IsContradiction, log_of}
use Rattle.rule_audit.specs.declared.rules.Rule.{Rule}
use Rattle.rule_audit.specs.Rules.{rules_for}
use Rattle.hour_work.specs.declared.steps.ForwardError.{ForwardError}
use Rattle.hour_work.specs.declared.steps.ForwardError.TheVariants as stop
use Rattle.hour_work.specs.Numbers.{Numbers, total_of}
use Rattle.hour_work.specs.Points.{Carried}
use Rattle.session.specs.Edits.{Change, withdraw, blank}
use Rattle.session.specs.Links.{Ahead, AreKept}

-- a session: its configuration, and what is held and blanked
pub record Kept : Type 0 where
  pub config : Settings
  pub store : Store

-- a draft: the same, and the hours whose numbers wait
pub record Drafted : Type 0 where
  pub config : Settings
  pub store : Store
  pub waiting : List Bool

-- an edit that these refusals don't meet may fail since memory ran out
abbrev pub MayWantMemory : Result Store EditError → Type 0
MayWantMemory (Ok _) = Unit {0}
MayWantMemory (Err TooManyBlanks) = Unit {0}
MayWantMemory (Err _) = ⊥

-- of an edit that makes this of the store, or meets the first refusal other than a contradiction: it is made, and some history agrees with the new store; or it is refused, and the store is as before. A contradiction names the row at which the store that the edit makes contradicts itself, with which no history agrees
abbrev pub Steps : Settings → Result Store EditError → Store → Store → Result Applied EditError → Type 0
Steps c to old new (Ok _) = (to ≡ Ok new) × HasHistory (log_of c.specs new)
Steps c to old new (Err (Contradiction row)) = (new ≡ old) × ((s : Store) × (to ≡ Ok s) × IsContradiction (log_of c.specs s) row × (HasHistory (log_of c.specs s) → ⊥))
Steps c to old new (Err Memory) = (new ≡ old) × MayWantMemory to
Steps c to old new (Err e) = (new ≡ old) × (to ≡ Err e)

-- an edit that makes this of the store is refused for this: its log contradicts itself at this row and no history agrees with it, or memory is wanting
abbrev pub StopsAt : Settings → Store → EditError → Type 0
StopsAt c s (Contradiction row) = IsContradiction (log_of c.specs s) row × (HasHistory (log_of c.specs s) → ⊥)
StopsAt c s Memory = Unit {0}
StopsAt c s e = ⊥

-- why an edit is refused, by why nothing is carried over an hour
abbrev pub refusal_for : ForwardError → EditError
refusal_for (stop.Contradiction row) = Contradiction row
refusal_for stop.Memory = Memory

-- a withdrawal and a blanking contradict nothing
abbrev pub MayRefuse : Change → EditError → Type 0
MayRefuse (withdraw _) (Contradiction _) = ⊥
MayRefuse (blank _ _) (Contradiction _) = ⊥
MayRefuse _ _ = Unit {0}

-- there is one count for each rule, in the numbers of each hour and in their sums
pub record AreCounted (rules : ℕ) (all : List Numbers) : Type 0 where
  pub hours : (hour : ℕ) (d : Numbers) → hour < length all → length (slice_index_or all hour d).rules ≡ rules
  pub total : length (total_of all).rules ≡ rules

-- what is kept beside a store belongs to it: a window of as many hours, the rules of the configuration, and what the hours lead to at each hour point and count; some history agrees with the store
pub record Belong (config : Settings) (store : Store) (own : List Rule) (waiting : List Bool) (carries : List Carried) (futures : List Ahead) (parts : List Numbers) : Type 0 where
  pub sound : IsSound config
  pub is_store : IsStore store
  pub hours : length store.hours ≡ config.window.hours
  pub rules : own ≡ rules_for config
  pub history : HasHistory (log_of config.specs store)
  pub kept : AreKept config store waiting carries futures parts
