-- Ranges of the tenths that pass a test.
use Rattle.std.specs.Prelude.{◌≡◌, ◌≤◌, ◌<◌, false, ◌+◌, ◌*◌, ◌↔◌, ◌⊎◌, ℕ, zero, suc, ℤ, pos, int_le, int_lt, Bool, ◌&&◌, ◌||◌, not, if◌then◌else◌, List, [], ◌∷◌}
use Rattle.std.specs.Ordering.{int_eq}
use Rattle.span_set.specs.declared.set.Span.{Span}
use Rattle.span_set.specs.Spans.{Member, Within, is_member}
use Rattle.span_set.specs.Changes.{span}
use Rattle.hour_store.specs.Store.{Store}
use Rattle.session.specs.declared.blanks.RangeEdit.{RangeEdit}
use Rattle.session.specs.declared.blanks.RangeEdit.TheVariants as range

-- ranges that all begin after tenth t, and before them that tenth, as a range of its own or joined with the first of them
abbrev pub with_first : ℕ → List Span → List Span
with_first t [] = record { from = pos t; to = pos (t + 1) } ∷ []
with_first t (s ∷ ss) =
    if int_eq s.from (pos (t + 1)) then record { from = pos t; to = s.to } ∷ ss
    else record { from = pos t; to = pos (t + 1) } ∷ s ∷ ss

-- the ranges of those of the n tenths from `from` on that pass the test
unfoldable pub ranges_from : (ℕ → Bool) → ℕ → ℕ → List Span
ranges_from test from zero = []
ranges_from test from (suc n) =
    if test from then with_first from (ranges_from test (from + 1) n) else ranges_from test (from + 1) n

-- the tenth t is from `from` on, but before `to`
abbrev pub is_between : ℤ → ℤ → ℕ → Bool
is_between from to t = int_le from (pos t) && int_lt (pos t) to

-- ---- For contracts alone

-- the ranges of those tenths of a window of so many hours that pass the test
abbrev pub ranges_of : ℕ → (ℕ → Bool) → List Span
ranges_of hours test = ranges_from test 0 (36000 * hours)

-- tenth t is blanked in the store
abbrev pub is_blanked : Store → ℕ → Bool
is_blanked s t = is_member s.blanks (pos t)

-- the blanked tenths and those of the range
abbrev pub blanked_with : Store → ℤ → ℤ → ℕ → Bool
blanked_with s from to t = is_blanked s t || is_between from to t

-- the blanked tenths without those of the range
abbrev pub blanked_without : Store → ℤ → ℤ → ℕ → Bool
blanked_without s from to t = is_blanked s t && not (is_between from to t)

-- the new ranges have the tenths of the old ones and those of the range
abbrev pub With : List Span → ℤ → ℤ → List Span → Type 0
With old from to new = (e : ℤ) → Member new e ↔ (Member old e ⊎ Within (span from to) e)

-- the new ranges have the tenths of the old ones without those of the range
abbrev pub Without : List Span → ℤ → ℤ → List Span → Type 0
Without old from to new = (e : ℤ) → Member new e ↔ (Member old e × (Within (span from to) e → ⊥))

-- the new ranges have the tenths of the old ones, but for those of the range
abbrev pub SameApart : List Span → ℤ → ℤ → List Span → Type 0
SameApart old from to new = (e : ℤ) → (Within (span from to) e → ⊥) → Member new e ↔ Member old e

-- these ranges come of the edit of the range
abbrev pub IsEdited : RangeEdit → List Span → ℤ → ℤ → List Span → Type 0
IsEdited range.Blank old f t new = With old f t new
IsEdited range.Unblank old f t new = Without old f t new

-- no tenth of the hour is one of these
abbrev pub NoneBlanked : List Span → ℕ → Type 0
NoneBlanked blanks k = (x : ℕ) → 36000 * k ≤ x → x < 36000 * (k + 1) → is_member blanks (pos x) ≡ false

-- the edit leaves the hour as it was, whatever its range: it unblanks, and no tenth of the hour is blanked
abbrev pub LeavesHour : RangeEdit → List Span → ℕ → Type 0
LeavesHour range.Blank blanks k = ⊥
LeavesHour range.Unblank blanks k = NoneBlanked blanks k
