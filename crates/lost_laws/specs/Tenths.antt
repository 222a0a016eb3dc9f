-- One channel, tenth by tenth, of whose rows some were lost.
use Rattle.std.specs.Prelude.{◌≡◌, ◌⊎◌, ℕ, zero, suc, ◌+◌, pos, Bool, true, false, List, [], ◌∷◌, take, drop}
use Rattle.reach.specs.Runs.{State, Steps}
use Rattle.channel_path.specs.declared.moves.Move.{Move}
use Rattle.channel_path.specs.declared.moves.Move.TheVariants.{Letter}
use Rattle.board.specs.History.{Event, Track, events_at, letters}
use Rattle.signal_log.specs.Log.{IsBeforeWindow, Log, track_at, window_end}
use Rattle.lost_rows.specs.declared.asked.Asked.{Asked}
use Rattle.lost_rows.specs.Walks.{LostWalk, nothing_asked}

-- letters of one tenth as moves
abbrev pub letters_in : ℕ → List ℕ → List Move
letters_in x [] = []
letters_in x (l ∷ ls) = Letter x l 0 ∷ letters_in x ls

-- over tenth x: where it is known the channel's given letters, with j lost ones among them that change the colour, and else any letters, of which none is lost
abbrev pub LosesInTenth : Track → (ℕ → Bool) → (ℕ → List Event) → Asked → ℕ → ℕ → State → State → Type 0
LosesInTenth k known given r x j s u = ((known x ≡ true) × LostWalk k.rules r x (letters_in x (letters k (given x))) (x + 1) j s u) ⊎ ((known x ≡ false) × (j ≡ 0) × ((ls : List ℕ) × Steps k.rules (pos x) s ls u))

-- over so many tenths from tenth x on, with j lost in all
abbrev pub LosesOver : Track → (ℕ → Bool) → (ℕ → List Event) → Asked → ℕ → ℕ → ℕ → State → State → Type 0
LosesOver k known given r x zero j s u = (j ≡ 0) × (u ≡ s)
LosesOver k known given r x (suc n) j s u = (a b : ℕ) × (a + b ≡ j) × ((v : State) × LosesInTenth k known given r x a s v × LosesOver k known given r (x + 1) n b v u)

-- over the tenths from f up to t the channel can come from state s to state u, by the letters that are given at known tenths, and j rows more that were lost, each of which changes its colour
abbrev pub Loses : Track → (ℕ → Bool) → (ℕ → List Event) → Asked → ℕ → ℕ → ℕ → State → State → Type 0
Loses k known given r f t j s u = (n : ℕ) × (f + n ≡ t) × LosesOver k known given r f n j s u

-- ---- The states of one channel in the histories of a log of which j rows were lost, all of the channel, each changing its colour

-- from before the window channel i comes to state u at tenth t; lost rows keep what is asked of them
abbrev pub IsReachedLosing : Log → Asked → ℕ → ℕ → ℕ → State → Type 0
IsReachedLosing log r i t j u = (s : State) × IsBeforeWindow (track_at log i).rules s × Loses (track_at log i) log.known (events_at log.rows) r 0 t j s u

-- from state s at tenth t it goes on to the window's end; nothing is asked of lost rows
abbrev pub IsCompletedLosing : Log → ℕ → ℕ → ℕ → State → Type 0
IsCompletedLosing log i t j s = (u : State) × Loses (track_at log i) log.known (events_at log.rows) nothing_asked t (window_end log) j s u

-- the state of channel i at the end of tenth x
abbrev pub MayBeAtEndLosing : Log → ℕ → ℕ → ℕ → State → Type 0
MayBeAtEndLosing log x j i v = (a b : ℕ) × (a + b ≡ j) × IsReachedLosing log nothing_asked i (x + 1) a v × IsCompletedLosing log i (x + 1) b v

-- from before the window channel i comes to state v before the row of tenth x that n others of the tenth come before; rows may be lost among those, and before the row
abbrev pub IsReachedBefore : Log → Asked → ℕ → ℕ → ℕ → ℕ → State → Type 0
IsReachedBefore log r i x n j v = (a b : ℕ) × (a + b ≡ j) × ((z : State) × IsReachedLosing log r i x a z × LostWalk (track_at log i).rules r x (letters_in x (letters (track_at log i) (take n (events_at log.rows x)))) (x + 1) b z v)

-- from state v before that row it goes on, with that row next, to the window's end
abbrev pub IsCompletedFrom : Log → ℕ → ℕ → ℕ → ℕ → State → Type 0
IsCompletedFrom log i x n j v = (a b : ℕ) × (a + b ≡ j) × ((z : State) × LostWalk (track_at log i).rules nothing_asked (x + 1) (letters_in x (letters (track_at log i) (drop n (events_at log.rows x)))) (x + 1) a v z × IsCompletedLosing log i (x + 1) b z)

-- the state of channel i before that row
abbrev pub MayBeBeforeLosing : Log → Asked → ℕ → ℕ → ℕ → ℕ → State → Type 0
MayBeBeforeLosing log r i x n j v = (a b : ℕ) × (a + b ≡ j) × IsReachedBefore log r i x n a v × IsCompletedFrom log i x n b v
