-- A judgement by the moves of channels.
use Rattle.std.specs.Prelude.{◌≡◌, ℕ, ◌<◌, pos, List, [], length, take, drop, slice_index_or}
use Rattle.sig_base.specs.declared.values.Row.{Row}
use Rattle.gap_map.specs.declared.stretch.Stretch.{Stretch}
use Rattle.channel_tables.specs.declared.spec.Spec.{Spec}
use Rattle.channel_path.specs.declared.moves.Move.{Move}
use Rattle.decisive.specs.Moves.{FitsKeep, KeepsBy, NoneKeeps, NoneKeepsFrom}
use Rattle.board.specs.Channels.{AreSpecs, track}
use Rattle.board.specs.History.{Track}
use Rattle.board.specs.Logs.{no_spec}
use Rattle.board.specs.Moves.{own}
use Rattle.board.specs.Places.{AllEarly, since, upto}
use Rattle.board.specs.Stops.{AreBefore}
use Rattle.decisive.specs.declared.judge.Start.{Start}
use Rattle.decisive.specs.declared.judge.Start.TheVariants.{Free, Kept}
use Rattle.decisive.specs.declared.parts.Part.{Part}
use Rattle.decisive.specs.Parts.{IsKeepWithin, no_part}

abbrev pub track_of : List Spec → ℕ → Track
track_of specs i = track (slice_index_or specs i no_spec)

-- no walk over the first moves and then the others has the state between them that it is to have
abbrev pub Breaks : Start → List Spec → ℕ → Part → List Move → List Move → Type 0
Breaks (Free f) specs x p xs ys = NoneKeepsFrom (track_of specs p.spec).rules f xs (KeepsBy p.keep (pos x)) ys
Breaks (Kept pasts) specs x p xs ys = NoneKeeps (track_of specs p.spec).rules (slice_index_or pasts.now p.spec []) xs (KeepsBy p.keep (pos x)) ys

-- the same for the channel's moves of these rows and stretches, where the place is at tenth x after the first n rows
abbrev pub PartBreaks : Start → List Spec → ℕ → List Row → List Stretch → ℕ → Part → Type 0
PartBreaks start specs x rows ss n p = Breaks start specs x p (own (track_of specs p.spec) 0 (take n rows) (upto x ss)) (own (track_of specs p.spec) 0 (drop n rows) (since x ss))

-- for each channel
abbrev pub AllBreak : Start → List Spec → List Part → ℕ → List Row → List Stretch → ℕ → Type 0
AllBreak start specs parts x rows ss n = (k : ℕ) → k < length parts → PartBreaks start specs x rows ss n (slice_index_or parts k no_part)

-- the states are those before tenth f
abbrev pub FitsStart : Start → List Spec → ℕ → Type 0
FitsStart (Free g) specs f = g ≡ f
FitsStart (Kept pasts) specs f = AreBefore specs pasts.now × AllEarly f pasts.now

-- the channel is among the specs, and what its state is to be is said of one of its colours, with a bound of at most an hour
pub record FitsPart (specs : List Spec) (p : Part) : Type 0 where
  pub within : p.spec < length specs
  pub keep : FitsKeep (track_of specs p.spec).rules.colours p.keep
  pub hour : IsKeepWithin p.keep

pub record FitsParts (specs : List Spec) (parts : List Part) : Type 0 where
  pub are : AreSpecs specs
  pub each : (k : ℕ) → k < length parts → FitsPart specs (slice_index_or parts k no_part)
