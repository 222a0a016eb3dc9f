-- What an edit puts into a store.
use Rattle.std.specs.Prelude.{◌≡◌, ◌+◌, ◌≤◌, ◌<◌, ℕ, Bool, true, List, pos, IfSome}
use Rattle.span_set.specs.Spans.{is_member}
use Rattle.hour_store.specs.Store.{LieWithin, Store, rows_at, with_blanks, with_hour}
use Rattle.board.specs.Logs.{first_tenth}
use Rattle.session.specs.Links.{Apart, is_as_was}
use Rattle.session.specs.declared.hours.Put.{Put}
use Rattle.session.specs.declared.hours.Put.TheVariants.{Hour, Blanks}

-- the store with what is held of an hour, or with the tenths that are blanked
abbrev pub put_into : {L : Type 0} → Store → Put L → Store
put_into s (Hour hour entry) = with_hour s hour entry
put_into s (Blanks blanks) = with_blanks s blanks

-- it has its place in a window of so many hours
abbrev pub IsPlaced : {L : Type 0} → ℕ → Put L → Type 0
IsPlaced hours (Hour hour entry) = (hour < hours) × IfSome entry (λ r. r.hour ≡ hour)
IsPlaced hours (Blanks blanks) = LieWithin hours blanks

-- the second store has the hour as the first one has it: the same rows, and of its tenths the same are blanked
pub record SameHour (s t : Store) (k : ℕ) : Type 0 where
  pub rows : rows_at t k ≡ rows_at s k
  pub blanks : (x : ℕ) → first_tenth k ≤ x → x < first_tenth (k + 1) → is_member s.blanks (pos x) ≡ is_member t.blanks (pos x)

-- it has each hour so but those from `first` to `last`
abbrev pub AreSameBut : ℕ → ℕ → Store → Store → Type 0
AreSameBut first last s t = (k : ℕ) → Apart first last k → SameHour s t k

-- it has those so that are told to be as they were
abbrev pub AreSameAt : List Bool → Store → Store → Type 0
AreSameAt same s t = (k : ℕ) → is_as_was same k ≡ true → SameHour s t k
