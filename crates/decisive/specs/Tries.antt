-- Tries of a window's ends by the moves of what is told, and the search among the rows.
use Rattle.std.specs.Prelude.{◌≡◌, ℕ, ◌+◌, ◌-◌, ◌<◌, ◌≤◌, true, length, slice_index_or}
use Rattle.sig_base.specs.declared.values.Row.{Row}
use Rattle.gap_map.specs.Stretches.{known_at}
use Rattle.board.specs.Courses.{AreCourses}
use Rattle.board.specs.Logs.{no_row}
use Rattle.board.specs.Moves.{count_before}
use Rattle.board.specs.Places.{IsPlace, since, upto}
use Rattle.decisive.specs.declared.hours.Placed.{Placed}
use Rattle.decisive.specs.declared.judge.Question.{Question}
use Rattle.decisive.specs.declared.judge.Start.{Start}
use Rattle.decisive.specs.declared.judge.Start.TheVariants.{Free}
use Rattle.decisive.specs.declared.judge.Told.{Told}
use Rattle.decisive.specs.declared.parts.Part.{Part}
use Rattle.decisive.specs.declared.search.Aim.{Aim}
use Rattle.decisive.specs.declared.search.Aim.TheVariants.{End, Begin}
use Rattle.decisive.specs.declared.search.Trail.{Trail}
use Rattle.decisive.specs.Breaks.{FitsParts, FitsStart, PartBreaks}
use Rattle.decisive.specs.Candidates.{BeginsBy, BeginsByGrow, EndsBy, EndsByGrow, IsFirstEnd, IsLastBegin, NoneBegins, NoneEnds, is_row_of_parts, rows_from}
use Rattle.decisive.specs.Cuts.{IsCutAfter}
use Rattle.decisive.specs.Laws.{rows_to}
use Rattle.decisive.specs.Searches.{IsBeginAt, IsEndAt, NoBegin, NoEnd}

-- ---- one tenth

-- the tenths up to w break it
abbrev pub Ends : Start → Question → Told → ℕ → Type 0
Ends start q told w = EndsBy start q.specs.now q.parts.now q.at told.rows.now told.stretches.now told.place w

-- of the tenths up to v those from u on do
abbrev pub Begins : Question → Told → ℕ → ℕ → Type 0
Begins q told v u = BeginsBy q.specs.now q.parts.now q.at (rows_to v told.rows.now) (upto v told.stretches.now) told.place u

-- the same of one channel
abbrev pub PartEnds : Start → Question → Told → ℕ → Part → Type 0
PartEnds start q told w p = PartBreaks start q.specs.now q.at (rows_to w told.rows.now) (upto w told.stretches.now) told.place p

abbrev pub PartBegins : Question → Told → ℕ → ℕ → Part → Type 0
PartBegins q told v u p = PartBreaks (Free u) q.specs.now q.at (rows_from u (rows_to v told.rows.now)) (since u (upto v told.stretches.now)) (told.place - count_before u (rows_to v told.rows.now)) p

-- the rows and the stretches tell of the tenths from f up to t, the moves are those of each channel, and the place is in them
pub record IsToldAt (q : Question) (told : Told) (f t : ℕ) : Type 0 where
  pub parts : FitsParts q.specs.now q.parts.now
  pub courses : AreCourses q.specs.now told.rows.now told.stretches.now told.courses.now
  pub place : IsPlace f t told.rows.now told.stretches.now q.at told.place

abbrev pub EndsGrow : Start → Question → Told → ℕ → Type 0
EndsGrow start q told t = EndsByGrow start q.specs.now q.parts.now q.at told.rows.now told.stretches.now told.place t

abbrev pub BeginsGrow : Question → Told → ℕ → ℕ → Type 0
BeginsGrow q told v f = BeginsByGrow q.specs.now q.parts.now q.at (rows_to v told.rows.now) (upto v told.stretches.now) told.place f

-- ---- the rows, counted from the place away

abbrev pub row_count : Aim → Told → ℕ
row_count (End start) told = length told.rows.now - told.place
row_count (Begin v) told = told.place

abbrev pub row_at : Aim → Told → ℕ → ℕ
row_at (End start) told i = told.place + i
row_at (Begin v) told i = told.place - 1 - i

abbrev pub tenth_at : Aim → Told → ℕ → ℕ
tenth_at aim told i = (slice_index_or told.rows.now (row_at aim told i) no_row).at

-- the row is known, and of one of the channels
abbrev pub IsCandidateRow : Question → Told → Row → Type 0
IsCandidateRow q told row = (known_at told.stretches.now row.at ≡ true) × (is_row_of_parts q.specs.now q.parts.now row ≡ true)

abbrev pub IsOwnAt : Aim → Question → Told → ℕ → Type 0
IsOwnAt aim q told i = IsCandidateRow q told (slice_index_or told.rows.now (row_at aim told i) no_row)

-- it breaks up to the tenth, or from the tenth on
abbrev pub Does : Aim → Question → Told → ℕ → Type 0
Does (End start) q told y = Ends start.now q told y
Does (Begin v) q told y = Begins q told v y

abbrev pub DoesAt : Aim → Question → Told → ℕ → Type 0
DoesAt aim q told i = Does aim q told (tenth_at aim told i)

-- the states are those before the first tenth; or what is told may be cut after the end
abbrev pub FitsAim : Aim → Question → Told → ℕ → ℕ → Type 0
FitsAim (End start) q told f t = FitsStart start.now q.specs.now f
FitsAim (Begin v) q told f t = (q.at ≤ v) × IsCutAfter t told.stretches.now v

-- what does at one row does at each one that is farther from the place
pub record IsSought (aim : Aim) (q : Question) (told : Told) : Type 0 where
  pub low : ℕ
  pub high : ℕ
  pub is_told : IsToldAt q told low high
  pub fits : FitsAim aim q told low high
  pub grows : (i j : ℕ) → i ≤ j → j < row_count aim told → DoesAt aim q told i → DoesAt aim q told j

abbrev pub found_at : Trail → ℕ → ℕ
found_at trail k = slice_index_or trail.found.items k 0

-- the candidates among the first n rows, of which the first ones that were tried don't do
pub record IsTrail (aim : Aim) (q : Question) (told : Told) (trail : Trail) (n : ℕ) : Type 0 where
  pub within : (k : ℕ) → k < length trail.found.items → found_at trail k < n
  pub own : (k : ℕ) → k < length trail.found.items → IsOwnAt aim q told (found_at trail k)
  pub all : (i : ℕ) → i < n → IsOwnAt aim q told i → (k : ℕ) × (k < length trail.found.items) × (found_at trail k ≡ i)
  pub order : (j k : ℕ) → j ≤ k → k < length trail.found.items → found_at trail j ≤ found_at trail k
  pub some : trail.tried ≤ length trail.found.items
  pub none : (k : ℕ) → k < trail.tried → DoesAt aim q told (found_at trail k) → ⊥

-- none of the first n rows is a candidate that does
abbrev pub NoneDo : Aim → Question → Told → ℕ → Type 0
NoneDo aim q told n = (i : ℕ) → i < n → IsOwnAt aim q told i → DoesAt aim q told i → ⊥

-- the row is the nearest candidate that does
pub record IsNearest (aim : Aim) (q : Question) (told : Told) (i : ℕ) : Type 0 where
  pub within : i < row_count aim told
  pub own : IsOwnAt aim q told i
  pub does : DoesAt aim q told i
  pub nearest : NoneDo aim q told i

-- the tenth is that of the nearest candidate that does
abbrev pub IsNearestTenth : Aim → Question → Told → ℕ → Type 0
IsNearestTenth aim q told y = (i : ℕ) × IsNearest aim q told i × (tenth_at aim told i ≡ y)

-- of the list of rows this one does, and none before it
abbrev pub IsFirstOf : Aim → Question → Told → Trail → ℕ → Type 0
IsFirstOf aim q told trail k = (k < length trail.found.items) × DoesAt aim q told (found_at trail k) × ((j : ℕ) → j < k → DoesAt aim q told (found_at trail j) → ⊥)

-- ---- a window's ends in what is told

abbrev pub NoEndRow : Start → Question → Told → Type 0
NoEndRow start q told = NoneEnds start q.specs.now q.parts.now q.at told.rows.now told.stretches.now told.place (length told.rows.now)

abbrev pub IsEndRow : Start → Question → Told → ℕ → Type 0
IsEndRow start q told w = IsFirstEnd start q.specs.now q.parts.now q.at told.rows.now told.stretches.now told.place w

abbrev pub NoBeginRow : Question → Told → ℕ → Type 0
NoBeginRow q told v = NoneBegins q.specs.now q.parts.now q.at (rows_to v told.rows.now) (upto v told.stretches.now) told.place 0

abbrev pub IsBeginRow : Question → Told → ℕ → ℕ → Type 0
IsBeginRow q told v u = IsLastBegin q.specs.now q.parts.now q.at (rows_to v told.rows.now) (upto v told.stretches.now) told.place u

abbrev pub IsEndOf : Start → Question → Told → ℕ → Type 0
IsEndOf start q told w = IsEndAt start q.specs.now q.parts.now q.at told.rows.now told.stretches.now told.place w

abbrev pub NoEndOf : Start → Question → Told → ℕ → Type 0
NoEndOf start q told last = NoEnd start q.specs.now q.parts.now q.at told.rows.now told.stretches.now told.place last

abbrev pub IsBeginOf : Question → Told → ℕ → ℕ → Type 0
IsBeginOf q told v u = IsBeginAt q.specs.now q.parts.now q.at (rows_to v told.rows.now) (upto v told.stretches.now) told.place u

abbrev pub NoBeginOf : Question → Told → ℕ → ℕ → Type 0
NoBeginOf q told v first = NoBegin q.specs.now q.parts.now q.at (rows_to v told.rows.now) (upto v told.stretches.now) told.place first

-- ---- the same in what is told of hours

abbrev pub PlacedEndsGrow : Start → Question → Placed → ℕ → Type 0
PlacedEndsGrow start q p t = EndsByGrow start q.specs.now q.parts.now q.at p.told.rows.items p.told.stretches.items p.place t

abbrev pub PlacedBeginsGrow : Question → Placed → ℕ → ℕ → Type 0
PlacedBeginsGrow q p v f = BeginsByGrow q.specs.now q.parts.now q.at (rows_to v p.told.rows.items) (upto v p.told.stretches.items) p.place f

abbrev pub IsEndIn : Start → Question → Placed → ℕ → Type 0
IsEndIn start q p w = IsEndAt start q.specs.now q.parts.now q.at p.told.rows.items p.told.stretches.items p.place w

abbrev pub NoEndIn : Start → Question → Placed → ℕ → Type 0
NoEndIn start q p last = NoEnd start q.specs.now q.parts.now q.at p.told.rows.items p.told.stretches.items p.place last

abbrev pub IsBeginIn : Question → Placed → ℕ → ℕ → Type 0
IsBeginIn q p v u = IsBeginAt q.specs.now q.parts.now q.at (rows_to v p.told.rows.items) (upto v p.told.stretches.items) p.place u

abbrev pub NoBeginIn : Question → Placed → ℕ → ℕ → Type 0
NoBeginIn q p v first = NoBegin q.specs.now q.parts.now q.at (rows_to v p.told.rows.items) (upto v p.told.stretches.items) p.place first
