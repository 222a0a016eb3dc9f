-- What is known after an edit.
use Rattle.std.specs.Prelude.{◌≡◌, ◌≢◌, ◌⊎◌, ◌↔◌, ◌/◌, ℕ, pos, true, Ok}
use Rattle.span_set.specs.Spans.{Member, Within}
use Rattle.span_set.specs.Changes.{span}
use Rattle.hour_store.specs.Store.{IsKnown, IsStore, Store}
use Rattle.session.specs.Edits.{Change, load, replace, withdraw, blank, unblank, step_of}
use Rattle.edit_laws.specs.Stores.{is_held}

-- the tenth is known after the edit
abbrev pub IsKnownAfter : Store → Change → ℕ → Type 0
IsKnownAfter s (load r) tenth = IsKnown s tenth ⊎ ((tenth / 36000 ≡ r.hour) × (Member s.blanks (pos tenth) → ⊥))
IsKnownAfter s (replace r) tenth = IsKnown s tenth
IsKnownAfter s (withdraw hour) tenth = IsKnown s tenth × (tenth / 36000 ≢ hour)
IsKnownAfter s (blank from to) tenth = IsKnown s tenth × (Within (span from to) (pos tenth) → ⊥)
IsKnownAfter s (unblank from to) tenth = IsKnown s tenth ⊎ ((is_held s (tenth / 36000) ≡ true) × Within (span from to) (pos tenth))

-- in the store that an edit gives exactly these tenths are known
abbrev pub KnowledgeMoves : Type 0
KnowledgeMoves = (s t : Store) (change : Change) (tenth : ℕ) → IsStore s → step_of s change ≡ Ok t → IsKnown t tenth ↔ IsKnownAfter s change tenth
