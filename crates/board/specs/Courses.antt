-- The moves of each channel.
use Rattle.std.specs.Prelude.{◌≡◌, ℕ, zero, suc, ◌<◌, Bool, true, false, if◌then◌else◌, List, [], ◌++◌, length, slice_index_or}
use Rattle.channel_path.specs.declared.moves.Move.{Move}
use Rattle.sig_base.specs.declared.values.Row.{Row}
use Rattle.gap_map.specs.declared.stretch.Stretch.{Stretch}
use Rattle.channel_tables.specs.declared.spec.Spec.{Spec}
use Rattle.board.specs.Channels.{track}
use Rattle.board.specs.Moves.{own}

-- to each list is added what more gives for its place
abbrev pub AreAdded : List (List Move) → List (List Move) → (ℕ → List Move) → Type 0
AreAdded old new more = (length new ≡ length old) × ((i : ℕ) → i < length old → slice_index_or new i [] ≡ slice_index_or old i [] ++ more i)

-- each list has the moves of its spec
abbrev pub AreCourses : List Spec → List Row → List Stretch → List (List Move) → Type 0
AreCourses specs rows ss courses = (length courses ≡ length specs) × ((i : ℕ) (d : Spec) → i < length specs → slice_index_or courses i [] ≡ own (track (slice_index_or specs i d)) 0 rows ss)

-- For contracts alone: each list has the moves of its spec over rows of which the first has number n
abbrev pub AreCoursesFrom : List Spec → ℕ → List Row → List Stretch → List (List Move) → Type 0
AreCoursesFrom specs n rows ss courses = (length courses ≡ length specs) × ((i : ℕ) (d : Spec) → i < length specs → slice_index_or courses i [] ≡ own (track (slice_index_or specs i d)) n rows ss)

-- the channels, the rows and the stretches that courses are cut out of
pub record CourseLog : Type 0 where
  pub specs : List Spec
  pub rows : List Row
  pub stretches : List Stretch

abbrev pub course_log : List Spec → List Row → List Stretch → CourseLog
course_log specs rows ss = record { specs = specs; rows = rows; stretches = ss }

-- how many of the first n are true
abbrev pub chosen_before : List Bool → ℕ → ℕ
chosen_before wanted zero = 0
chosen_before wanted (suc n) = if slice_index_or wanted n false then suc (chosen_before wanted n) else chosen_before wanted n

-- each of the first n specs that is wanted stands among these at its turn
abbrev pub AreAmong : List Spec → List Bool → ℕ → List Spec → Type 0
AreAmong specs wanted n few = (i : ℕ) (d : Spec) → i < n → slice_index_or wanted i false ≡ true → (chosen_before wanted i < length few) × (slice_index_or few (chosen_before wanted i) d ≡ slice_index_or specs i d)

-- each spec that is wanted has its moves, over rows of which the first has number n, among these at its turn
abbrev pub AreCoursesAmong : List Spec → List Bool → ℕ → List Row → List Stretch → List (List Move) → Type 0
AreCoursesAmong specs wanted n rows ss courses = (i : ℕ) (d : Spec) → i < length specs → slice_index_or wanted i false ≡ true → (chosen_before wanted i < length courses) × (slice_index_or courses (chosen_before wanted i) [] ≡ own (track (slice_index_or specs i d)) n rows ss)
