-- The states of the channels in the histories that agree with a log.
use Rattle.std.specs.Prelude.{◌≡◌, ◌⊎◌, ℕ, ◌+◌, ◌<◌, ℤ, pos, ◌+ℤ◌, ◌≤ℤ◌, [], length, take, slice_index_or}
use Rattle.colour_machine.specs.Rules.{Rules}
use Rattle.reach.specs.Runs.{State, Steps}
use Rattle.board.specs.History.{Agreeing, History, IsLegal, events_at, letters, start_of}
use Rattle.signal_log.specs.Log.{AgreesWith, IsBeforeWindow, Log, track_at, window_end}

-- in the history, channel i is in state v at tenth x after the first j of the tenth's events
abbrev pub IsAfterEvents : Log → History → ℕ → ℕ → ℕ → State → Type 0
IsAfterEvents log h i x j v = (a : State) × IsLegal (track_at log i) 0 (take x h.events) (start_of h i) a × Steps (track_at log i).rules (pos x) a (letters (track_at log i) (take j (slice_index_or h.events x []))) v

-- in the history, channel i is in state v at the end of tenth x
abbrev pub IsAtEndOf : Log → History → ℕ → ℕ → State → Type 0
IsAtEndOf log h i x v = IsLegal (track_at log i) 0 (take (x + 1) h.events) (start_of h i) v

-- in some history that agrees, channel i is in state v at tenth x after the first j of the tenth's events
abbrev pub MayBeAfter : Log → ℕ → ℕ → ℕ → State → Type 0
MayBeAfter log i x j v = (h : History) × AgreesWith log h × IsAfterEvents log h i x j v

-- in some history that agrees, the channels are in these states at the end of tenth x, all at once
abbrev pub MayBeAtEnd : Log → ℕ → (ℕ → State) → Type 0
MayBeAtEnd log x v = (h : History) × AgreesWith log h × ((i : ℕ) → i < length log.specs → IsAtEndOf log h i x (v i))

-- in some history that agrees, channel i is in state v at the end of tenth x
abbrev pub MayBeAtEndOf : Log → ℕ → ℕ → State → Type 0
MayBeAtEndOf log i x v = (h : History) × AgreesWith log h × IsAtEndOf log h i x v

-- channel i can be in state u at tenth t by the log before: some legal run from before the window agrees with it
abbrev pub IsReached : Log → ℕ → ℕ → State → Type 0
IsReached log i t u = (s : State) × IsBeforeWindow (track_at log i).rules s × Agreeing (track_at log i) log.known (events_at log.rows) 0 t s u

-- channel i can go on from state s at tenth t to the window's end: some legal run agrees with the log
abbrev pub IsCompleted : Log → ℕ → ℕ → State → Type 0
IsCompleted log i t s = (u : State) × Agreeing (track_at log i) log.known (events_at log.rows) t (window_end log) s u

-- the states have one colour of the machine, and one entry or both entries more than an hour before tenth p
abbrev pub AreAlike : Rules → ℤ → State → State → Type 0
AreAlike m p s r = (s.colour < m.colours) × (r.colour ≡ s.colour) × ((r ≡ s) ⊎ (((s.entry +ℤ pos 36001) ≤ℤ p) × ((r.entry +ℤ pos 36001) ≤ℤ p)))
