-- Latest entries, as a table by colour.
use Rattle.std.specs.Prelude.{◌≡◌, ◌↔◌, ℕ, ◌<◌, ◌≤◌, ℤ, ◌≤ℤ◌, List, Option, None, length, slice_index_or}
use Rattle.reach.specs.Ahead.{NotLater}

-- the latest entry of a colour; none where the table has no such place
abbrev pub entry_of : List (Option ℤ) → ℕ → Option ℤ
entry_of a d = slice_index_or a d None

-- a table of sixteen latest entries, with none for colours from n on
abbrev pub IsTable : ℕ → List (Option ℤ) → Type 0
IsTable n latest = (n ≤ 16) × ((c : ℕ) → n ≤ c → entry_of latest c ≡ None)

-- each of the first n latest entries, lowered to the limit
abbrev pub IsLower : ℤ → List (Option ℤ) → List (Option ℤ) → ℕ → Type 0
IsLower limit old new n = (length new ≡ 16) × ((c : ℕ) → c < n → (e : ℤ) → NotLater (entry_of new c) e ↔ (NotLater (entry_of old c) e × (e ≤ℤ limit)))

-- each of the first n latest entries, lowered to that of the limits, or none where these have none
abbrev pub IsMeet : List (Option ℤ) → List (Option ℤ) → List (Option ℤ) → ℕ → Type 0
IsMeet old limits new n = (length new ≡ 16) × ((c : ℕ) → c < n → (e : ℤ) → NotLater (entry_of new c) e ↔ (NotLater (entry_of old c) e × NotLater (entry_of limits c) e))
