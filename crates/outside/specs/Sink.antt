-- What a call that writes a text does to a sink.
use Rattle.std.specs.Prelude.{◌≡◌, ◌<◌, ◌≤◌, ◌+◌, ◌++◌, ◌⊎◌, ℕ, List, length, Option, Some, Result, Ok, Err}
use Rattle.sig_base.specs.Reads.{one_more}
use Rattle.std.specs.Io.KnownBytes.{Appends}
use Rattle.outside.specs.Counted.{Rose}

-- what a sink took, where it is revealed, and how often it failed
pub record Taken : Type 0 where
  pub written : Option (List ℕ)
  pub faults : ℕ

-- where the sink reveals its bytes, they grew by a prefix of the text
abbrev pub AppendsPrefix : Option (List ℕ) → Option (List ℕ) → List ℕ → Type 0
AppendsPrefix old new text = (front : List ℕ) × (rest : List ℕ) × (text ≡ front ++ rest) × Appends old new front

-- the whole text was written and no fault came
pub record Writes (old new : Taken) (text : List ℕ) : Type 0 where
  pub same : new.faults ≡ old.faults
  pub wrote : Appends old.written new.written text

-- the count of faults rose, and a prefix of the text was written
pub record Stops (old new : Taken) (text : List ℕ) : Type 0 where
  pub grew : old.faults ≤ new.faults
  pub rose : Rose old.faults new.faults
  pub front : AppendsPrefix old.written new.written text

-- at Ok the whole text was written and no fault came; at an Err a prefix of it was, and the count of faults rose
abbrev pub Puts : {T E : Type 0} → Taken → Taken → List ℕ → Result T E → Type 0
Puts old new text (Ok _) = Writes old new text
Puts old new text (Err _) = Stops old new text

-- what a sink in memory is: the bytes that it took, its room, how many puts came, the number of the put that fails, and its faults
pub record SinkState : Type 0 where
  pub bytes : List ℕ
  pub room : ℕ
  pub puts : ℕ
  pub failing : ℕ
  pub faults : ℕ

-- it reveals its bytes
abbrev pub taken_of : SinkState → Taken
taken_of s = record { written = Some s.bytes; faults = s.faults }

-- this put is the one that was told to fail, or its piece passes the room
abbrev pub FailsPut : SinkState → List ℕ → Type 0
FailsPut s piece = (one_more s.puts ≡ s.failing) ⊎ (s.room < length s.bytes + length piece)

-- what a put leaves: its bytes are taken, or it fails and takes none
abbrev pub IsPut : {T E : Type 0} → SinkState → SinkState → List ℕ → Result T E → Type 0
IsPut old new piece (Ok _) = (new ≡ record old { bytes = old.bytes ++ piece; puts = one_more old.puts }) × (¬ FailsPut old piece)
IsPut old new piece (Err _) = (new ≡ record old { puts = one_more old.puts; faults = one_more old.faults }) × FailsPut old piece
