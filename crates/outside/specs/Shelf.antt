-- What a fetch does.
use Rattle.std.specs.Prelude.{◌≡◌, ◌<◌, ◌≤◌, ◌++◌, ℕ, List, length, Option, Some, None, Result, Ok, Err, ⊤}
use Rattle.outside.specs.Counted.{Rose}
use Rattle.outside.specs.declared.shelf.FetchError.{FetchError}
use Rattle.outside.specs.declared.shelf.FetchError.TheVariants.{Missing, Failed, TooLong, Memory}

-- the files that a shelf reveals: at each name the bytes of a file, or nothing
abbrev pub Files : Type 0
Files = List ℕ → Option (List ℕ)

-- how often a file was missing, couldn't be read, and was too long
pub record Counts : Type 0 where
  pub missing : ℕ
  pub failed : ℕ
  pub long : ℕ

-- the count of the answer rose, and the others are as they were
abbrev pub IsCounted : {T : Type 0} → Counts → Counts → Result T FetchError → Type 0
IsCounted old new (Ok _) = new ≡ old
IsCounted old new (Err Missing) = (old.missing ≤ new.missing) × Rose old.missing new.missing × (new.failed ≡ old.failed) × (new.long ≡ old.long)
IsCounted old new (Err Failed) = (old.failed ≤ new.failed) × Rose old.failed new.failed × (new.missing ≡ old.missing) × (new.long ≡ old.long)
IsCounted old new (Err TooLong) = (old.long ≤ new.long) × Rose old.long new.long × (new.missing ≡ old.missing) × (new.failed ≡ old.failed)
IsCounted old new (Err Memory) = new ≡ old

-- at Ok at most so many bytes were appended, and at an Err none
abbrev pub IsFetched : {T E : Type 0} → ℕ → List ℕ → List ℕ → Result T E → Type 0
IsFetched limit old new (Ok _) = (piece : List ℕ) × (new ≡ old ++ piece) × (length piece ≤ limit)
IsFetched limit old new (Err _) = new ≡ old

-- a piece was appended, at Ok of at most so many bytes
abbrev pub IsRead : {T E : Type 0} → ℕ → List ℕ → List ℕ → Result T E → Type 0
IsRead limit old new (Ok _) = (piece : List ℕ) × (new ≡ old ++ piece) × (length piece ≤ limit)
IsRead limit old new (Err _) = (piece : List ℕ) × (new ≡ old ++ piece)

-- no fault so far
abbrev pub no_faults : Counts
no_faults = record { missing = 0; failed = 0; long = 0 }

-- what a fetch answers where this is at its name
abbrev pub IsFetch : {T : Type 0} → Option (List ℕ) → ℕ → List ℕ → List ℕ → Result T FetchError → Type 0
IsFetch file limit old new (Ok _) = (bytes : List ℕ) × (file ≡ Some bytes) × (length bytes ≤ limit) × (new ≡ old ++ bytes)
IsFetch file limit old new (Err Missing) = file ≡ None
IsFetch file limit old new (Err Failed) = ⊤
IsFetch file limit old new (Err TooLong) = (bytes : List ℕ) × (file ≡ Some bytes) × (limit < length bytes)
IsFetch file limit old new (Err Memory) = ⊤
