-- The possible states of the runs of gaps between letters.
use Rattle.std.specs.Prelude.{◌≡◌, ℕ, ◌+◌, ◌<◌, ◌≤◌, List, [], length, take, slice_index_or}
use Rattle.span_set.specs.declared.set.Span.{Span}
use Rattle.colour_machine.specs.Rules.{Rules}
use Rattle.channel_path.specs.declared.moves.Move.{Move}
use Rattle.channel_path.specs.Kept.{letters, IsPast}

-- each run of gaps has the states after it, which among others are those at each of its places; the run's number is how many letters are before it
abbrev pub AreRunPasts : Rules → List (List Span) → List Move → List (List (List Span)) → Type 0
AreRunPasts m before xs pasts = (length pasts ≡ letters xs + 1) × ((j : ℕ) → j ≤ length xs → (letters (take j xs) < length pasts) × IsPast m before xs j (slice_index_or pasts (letters (take j xs)) []))
