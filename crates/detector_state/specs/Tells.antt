-- Which colours a channel has at the end of a tenth, over all histories of the window that agree.
use Rattle.std.specs.Prelude.{ℕ, ◌≡◌, ◌↔◌, ◌<◌, ◌+◌, pos, length, take, true}
use Rattle.reach.specs.Runs.{State, Steps}
use Rattle.board.specs.Channels.{AreSpecs}
use Rattle.board.specs.History.{History, events_at, letters}
use Rattle.signal_log.specs.Log.{AgreesWith, HasHistory, Log, track_at, window_end}
use Rattle.signal_log.specs.States.{IsAtEndOf, IsReached, MayBeAfter, MayBeAtEndOf}
use Rattle.detector_state.specs.Free.{IsFree, IsOrdered, Order}

-- in the history, channel i has colour c at the end of tenth x
abbrev pub HasColour : Log → History → ℕ → ℕ → ℕ → Type 0
HasColour log h i c x = (v : State) × IsAtEndOf log h i x v × (v.colour ≡ c)

-- in all histories that agree, channel i has colour c at the end of tenth x
abbrev pub AllHave : Log → ℕ → ℕ → ℕ → Type 0
AllHave log i c x = (h : History) → AgreesWith log h → HasColour log h i c x

-- in some history that agrees
abbrev pub MayHave : Log → ℕ → ℕ → ℕ → Type 0
MayHave log i c x = (h : History) × AgreesWith log h × HasColour log h i c x

-- the history agrees, and channel i is on only where it is on in all that agree
pub record IsLeast (log : Log) (i on : ℕ) (h : History) : Type 0 where
  pub agrees : AgreesWith log h
  pub only : (x : ℕ) → x < window_end log → HasColour log h i on x → AllHave log i on x

-- the history agrees, and channel i is on wherever it is on in one that agrees
pub record IsGreatest (log : Log) (i on : ℕ) (h : History) : Type 0 where
  pub agrees : AgreesWith log h
  pub wherever : (x : ℕ) → x < window_end log → MayHave log i on x → HasColour log h i on x

-- where some history agrees, one is on at the fewest tenths and one at the most, in all ranges at once
abbrev pub Extremes : Type 0
Extremes = (log : Log) (i : ℕ) (o : Order) → AreSpecs log.specs → HasHistory log → i < length log.specs → IsOrdered (track_at log i).rules o → ((h : History) × IsLeast log i o.on h) × ((h : History) × IsGreatest log i o.on h)

-- where some history agrees, the states that a free channel may have at the end of a tenth are those that are reached, whatever comes after
abbrev pub LooksBack : Type 0
LooksBack = (log : Log) (i x : ℕ) (v : State) → AreSpecs log.specs → HasHistory log → i < length log.specs → x < window_end log → IsFree (track_at log i).rules → MayBeAtEndOf log i x v ↔ IsReached log i (x + 1) v

-- channel i can have colour c at the end of tenth x, by some run that agrees up to there
abbrev pub IsColourReached : Log → ℕ → ℕ → ℕ → Type 0
IsColourReached log i c x = (u : State) × IsReached log i (x + 1) u × (u.colour ≡ c)

-- by the log up to there, channel i can have no other colour than c at the end of tenth x
abbrev pub IsSure : Log → ℕ → ℕ → ℕ → Type 0
IsSure log i c x = (d : ℕ) → IsColourReached log i d x → d ≡ c

-- where some history agrees, the colours of a free channel are those that are reached
abbrev pub ColoursTell : Type 0
ColoursTell = (log : Log) (i c x : ℕ) → AreSpecs log.specs → HasHistory log → i < length log.specs → x < window_end log → IsFree (track_at log i).rules → (MayHave log i c x ↔ IsColourReached log i c x) × (AllHave log i c x ↔ IsSure log i c x)

-- both logs tell the same of the tenths up to t
pub record TellSameUpto (a b : Log) (t : ℕ) : Type 0 where
  pub specs : a.specs ≡ b.specs
  pub known : (x : ℕ) → x < t → a.known x ≡ b.known x
  pub events : (x : ℕ) → x < t → a.known x ≡ true → events_at a.rows x ≡ events_at b.rows x

-- what is reached depends on the tenths before alone
abbrev pub ColoursStay : Type 0
ColoursStay = (a b : Log) (i c x : ℕ) → TellSameUpto a b (x + 1) → IsColourReached a i c x ↔ IsColourReached b i c x

-- a run that agrees leads channel i to state v at known tenth x after the first j of the tenth's events
abbrev pub IsReachedAfter : Log → ℕ → ℕ → ℕ → State → Type 0
IsReachedAfter log i x j v = (a : State) × IsReached log i x a × Steps (track_at log i).rules (pos x) a (letters (track_at log i) (take j (events_at log.rows x))) v

-- where some history agrees, the states that a free channel may have among the events of a known tenth are those that are reached, whatever comes after
abbrev pub LooksBackAmongRows : Type 0
LooksBackAmongRows = (log : Log) (i x j : ℕ) (v : State) → AreSpecs log.specs → HasHistory log → i < length log.specs → x < window_end log → log.known x ≡ true → IsFree (track_at log i).rules → MayBeAfter log i x j v ↔ IsReachedAfter log i x j v
