-- An obligation channel by channel: it is broken where no state of any of its channels is what it is to be.
use Rattle.std.specs.Prelude.{ℕ, ◌<◌, pos, List, [], ◌∷◌, length, map, slice_index_or}
use Rattle.reach.specs.Runs.{State}
use Rattle.decisive.specs.declared.channel_keep.Keep.{Keep}
use Rattle.decisive.specs.declared.channel_keep.Keep.TheVariants as keeps
use Rattle.decisive.specs.Moves.{KeepsBy}
use Rattle.board.specs.declared.clause.Term.{Term}
use Rattle.signal_log.specs.Laws.{IsWithinHour}
use Rattle.signal_log.specs.Log.{Log}
use Rattle.signal_log.specs.States.{MayBeAfter}
use Rattle.rule_audit.specs.declared.rules.Rule.{Rule}
use Rattle.rule_audit.specs.declared.rules.Rule.TheVariants.{Interval, Conflict, Companion, Parents}
use Rattle.decisive.specs.declared.parts.Part.{Part}

abbrev pub term_part : Term → Part
term_part t = record { spec = t.spec; keep = keeps.Colours t.colours }

-- stands where a list has none
abbrev pub no_part : Part
no_part = record { spec = 0; keep = keeps.Colours 0 }

-- what a rule asks of each of its channels
abbrev pub parts_of : Rule → List Part
parts_of (Interval item) = record { spec = item.spec; keep = keeps.Interval item.colour item.bound } ∷ []
parts_of (Conflict a b terms) = map term_part terms
parts_of (Companion p terms) = map term_part terms
parts_of (Parents o terms) = map term_part terms

-- a bound of at most an hour
abbrev pub IsKeepWithin : Keep → Type 0
IsKeepWithin (keeps.Interval colour bound) = IsWithinHour bound
IsKeepWithin (keeps.Colours colours) = Unit {0}

-- no state that the channel may have after the first j events of tenth x is what it is to be
abbrev pub NoneIs : Log → ℕ → ℕ → Part → Type 0
NoneIs log x j p = (w : State) → MayBeAfter log p.spec x j w → KeepsBy p.keep (pos x) w → ⊥

-- the same of each channel
abbrev pub AllNone : Log → ℕ → ℕ → List Part → Type 0
AllNone log x j parts = (k : ℕ) → k < length parts → NoneIs log x j (slice_index_or parts k no_part)
