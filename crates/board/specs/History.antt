-- One signal: events, channels, what is known, and the histories that agree with it.
use Rattle.std.specs.Prelude.{◌≡◌, ◌≢◌, ℕ, ◌+◌, ◌<◌, pos, Bool, false, nat_eq, if◌then◌else◌, IsTrue, Option, Some, None, List, [], ◌∷◌, length, map, slice_index_or}
use Rattle.colour_machine.specs.Rules.{Rules}
use Rattle.reach.specs.Runs.{State, state, Run}
use Rattle.sig_base.specs.declared.values.Row.{Row}

-- an event of the log or of a history: a code and a parameter
pub record Event : Type 0 where
  pub code : ℕ
  pub param : ℕ

-- an event that a log could have: the code is one byte, the parameter two
abbrev pub IsEvent : Event → Type 0
IsEvent a = (a.code < 256) × (a.param < 65536)

-- each of these is an event that a log could have
abbrev pub AreEvents : List Event → Type 0
AreEvents [] = Unit {0}
AreEvents (a ∷ acts) = IsEvent a × AreEvents acts

-- a tracked channel: the rules of its machine, and which of its letters a code and a parameter are
pub record Track : Type 0 where
  pub rules : Rules
  pub letter : ℕ → ℕ → Option ℕ

-- a letter in front of others, where there is one
abbrev pub put : Option ℕ → List ℕ → List ℕ
put None ls = ls
put (Some l) ls = l ∷ ls

-- the letters of the channel among the events, in order
abbrev pub letters : Track → List Event → List ℕ
letters k [] = []
letters k (a ∷ acts) = put (k.letter a.code a.param) (letters k acts)

-- the event that a row logs: its code and its parameter
abbrev pub event_of : Row → Event
event_of r = record { code = r.code; param = r.param }

-- the events of the rows of the tenth, in order
abbrev pub events_at : List Row → ℕ → List Event
events_at [] t = []
events_at (r ∷ rs) t = if nat_eq r.at t then event_of r ∷ events_at rs t else events_at rs t

-- from tenth t on, tenth by tenth: where the tenth is known, what stands there is what is given
abbrev pub Agree : {A : Type 0} → (ℕ → Bool) → (ℕ → A) → ℕ → List A → Type 0
Agree known given t [] = Unit {0}
Agree known given t (x ∷ xs) = (IsTrue (known t) → x ≡ given t) × Agree known given (t + 1) xs

-- from tenth t on, tenth by tenth: where the tenth is unknown, what stands there are events that a log could have
abbrev pub Bounded : (ℕ → Bool) → ℕ → List (List Event) → Type 0
Bounded known t [] = Unit {0}
Bounded known t (x ∷ xs) = ((known t ≡ false) → AreEvents x) × Bounded known (t + 1) xs

-- a history of the tenths from some tenth on: a state for each channel before them, and a list of events for each
pub record History : Type 0 where
  pub starts : List State
  pub events : List (List Event)

-- the state with which channel i comes into a history
abbrev pub start_of : History → ℕ → State
start_of h i = slice_index_or h.starts i (state 0 (pos 0))

-- the channel's letters among the events of the tenths from t on are legal, one after another, and lead it from state s to state u
abbrev pub IsLegal : Track → ℕ → List (List Event) → State → State → Type 0
IsLegal k t events s u = Run k.rules (pos t) s (map (letters k) events) u

-- the history is legal for each of the n channels, from the state with which the channel comes into it
abbrev pub AllLegal : ℕ → (ℕ → Track) → ℕ → History → Type 0
AllLegal n tracks t h = (i : ℕ) → i < n → (u : State) × IsLegal (tracks i) t h.events (start_of h i) u

-- the history is legal for all channels; its known tenths have exactly the given events, and its unknown ones events that a log could have
pub record Agrees (n : ℕ) (tracks : ℕ → Track) (known : ℕ → Bool) (given : ℕ → List Event) (t : ℕ) (h : History) : Type 0 where
  pub legal : AllLegal n tracks t h
  pub agree : Agree known given t h.events
  pub bounded : Bounded known t h.events

-- lists of letters of one channel for the tenths from t on that are the given ones at known tenths, are legal, and lead from state s to state u
abbrev pub AgreeingRun : Track → (ℕ → Bool) → (ℕ → List Event) → ℕ → List (List ℕ) → State → State → Type 0
AgreeingRun k known given t lists s u = Agree known (λ x. letters k (given x)) t lists × Run k.rules (pos t) s lists u

-- each letter of a channel is that of some event, and no event is of two channels
pub record AreTracks (n : ℕ) (tracks : ℕ → Track) : Type 0 where
  pub event : (i l : ℕ) → i < n → l < (tracks i).rules.letters → (a : Event) × IsEvent a × ((tracks i).letter a.code a.param ≡ Some l)
  pub apart : (i j : ℕ) (a : Event) (l : ℕ) → i < n → j < n → i ≢ j → (tracks i).letter a.code a.param ≡ Some l → (tracks j).letter a.code a.param ≡ None

-- the channel can come from state s at tenth f to state u at tenth t by some letters that are the given ones at known tenths
abbrev pub Agreeing : Track → (ℕ → Bool) → (ℕ → List Event) → ℕ → ℕ → State → State → Type 0
Agreeing k known given f t s u = (lists : List (List ℕ)) × (f + length lists ≡ t) × AgreeingRun k known given f lists s u
