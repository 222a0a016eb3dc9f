-- To which of the specs' channels a code and a parameter belong.
use Rattle.std.specs.Prelude.{◌≡◌, ℕ, ◌<◌, Option, Some, None, MatchOption, List, length, slice_index_or}
use Rattle.channel_tables.specs.declared.spec.Spec.{Spec}
use Rattle.board.specs.Channels.{letter_in}
use Rattle.board.specs.SpecPlaces.{IsTable}
use Rattle.board.specs.declared.finder.Finder.{Finder}
use Rattle.board.specs.declared.finder.Kept.{Kept}

-- the place of the spec to whose channel they belong, and their letter, or none where they belong to none of them
abbrev pub IsFound : List Spec → ℕ → ℕ → Option (ℕ × ℕ) → Type 0
IsFound specs code param o = MatchOption o ((i : ℕ) (d : Spec) → i < length specs → letter_in (slice_index_or specs i d) code param ≡ None) (λ p. (p.0 < length specs) × ((d : Spec) → letter_in (slice_index_or specs p.0 d) code param ≡ Some p.1))

-- each answer is that of its code and parameter
abbrev pub AreKept : List Spec → List Kept → Type 0
AreKept specs kept = (i : ℕ) (d : Kept) → i < length kept → IsFound specs (slice_index_or kept i d).code (slice_index_or kept i d).param (slice_index_or kept i d).found

-- its table and its answers are those of the specs
abbrev pub IsFinder : List Spec → Finder → Type 0
IsFinder specs f = IsTable specs f.table × AreKept specs f.kept.items
