-- The rows with whose tenths a window may begin or end, and the judgements of the tenths up to one of them or from one on.
use Rattle.std.specs.Prelude.{◌≡◌, ℕ, ◌+◌, ◌-◌, ◌<◌, ◌≤◌, Bool, true, List, length, drop, slice_index_or}
use Rattle.std.specs.List.{list_any}
use Rattle.sig_base.specs.declared.values.Row.{Row}
use Rattle.gap_map.specs.declared.stretch.Stretch.{Stretch}
use Rattle.gap_map.specs.Stretches.{known_at}
use Rattle.channel_tables.specs.declared.spec.Spec.{Spec}
use Rattle.board.specs.Logs.{first_tenth, no_row}
use Rattle.board.specs.Moves.{count_before}
use Rattle.board.specs.Places.{since, upto}
use Rattle.signal_log.specs.Log.{Log}
use Rattle.signal_log.specs.Points.{ArePastsAt}
use Rattle.rule_audit.specs.Obligations.{is_row_of}
use Rattle.decisive.specs.declared.judge.Start.{Start}
use Rattle.decisive.specs.declared.judge.Start.TheVariants.{Free, Kept}
use Rattle.decisive.specs.declared.parts.Part.{Part}
use Rattle.decisive.specs.Breaks.{AllBreak}
use Rattle.decisive.specs.Laws.{rows_to}

-- the row is of one of these channels
abbrev pub is_row_of_parts : List Spec → List Part → Row → Bool
is_row_of_parts specs parts r = list_any (λ p. is_row_of specs r p.spec) parts

-- row i is known and of one of these channels
abbrev pub IsOwnRow : List Spec → List Part → List Row → List Stretch → ℕ → Type 0
IsOwnRow specs parts rows ss i = (known_at ss (slice_index_or rows i no_row).at ≡ true) × (is_row_of_parts specs parts (slice_index_or rows i no_row) ≡ true)

-- the channels' states are never what they are to be where of what is told only the tenths up to w count
abbrev pub EndsBy : Start → List Spec → List Part → ℕ → List Row → List Stretch → ℕ → ℕ → Type 0
EndsBy start specs parts x rows ss n w = AllBreak start specs parts x (rows_to w rows) (upto w ss) n

-- the rows from tenth u on
abbrev pub rows_from : ℕ → List Row → List Row
rows_from u rows = drop (count_before u rows) rows

-- where only those from u on count, and nothing before u is known
abbrev pub BeginsBy : List Spec → List Part → ℕ → List Row → List Stretch → ℕ → ℕ → Type 0
BeginsBy specs parts x rows ss n u = AllBreak (Free u) specs parts x (rows_from u rows) (since u ss) (n - count_before u rows)

-- what breaks up to some tenth breaks up to each later one before t
abbrev pub EndsByGrow : Start → List Spec → List Part → ℕ → List Row → List Stretch → ℕ → ℕ → Type 0
EndsByGrow start specs parts x rows ss n t = (y z : ℕ) → x ≤ y → y ≤ z → z < t → EndsBy start specs parts x rows ss n y → EndsBy start specs parts x rows ss n z

-- what breaks from some tenth on breaks from each earlier one on that isn't before f
abbrev pub BeginsByGrow : List Spec → List Part → ℕ → List Row → List Stretch → ℕ → ℕ → Type 0
BeginsByGrow specs parts x rows ss n f = (y z : ℕ) → f ≤ z → z ≤ y → y ≤ x → BeginsBy specs parts x rows ss n y → BeginsBy specs parts x rows ss n z

-- the states are those with which a judgement of the tenths from u on begins, where what is told begins with tenth f
abbrev pub FromLog : Log → Start → ℕ → ℕ → Type 0
FromLog log (Free g) f u = (g ≡ f) × (u ≡ f)
FromLog log (Kept pasts) f u = (u ≡ 0) × ((point : ℕ) × (first_tenth point ≡ f) × ArePastsAt log point pasts.now)

-- of the rows after the place, none before row m is a candidate up to whose tenth it breaks
abbrev pub NoneEnds : Start → List Spec → List Part → ℕ → List Row → List Stretch → ℕ → ℕ → Type 0
NoneEnds start specs parts x rows ss n m = (i : ℕ) → n ≤ i → i < m → IsOwnRow specs parts rows ss i → EndsBy start specs parts x rows ss n (slice_index_or rows i no_row).at → ⊥

-- the first of them is at tenth w
pub record IsFirstEnd (start : Start) (specs : List Spec) (parts : List Part) (x : ℕ) (rows : List Row) (ss : List Stretch) (n w : ℕ) : Type 0 where
  pub row : ℕ
  pub low : n ≤ row
  pub within : row < length rows
  pub own : IsOwnRow specs parts rows ss row
  pub at : w ≡ (slice_index_or rows row no_row).at
  pub ends : EndsBy start specs parts x rows ss n w
  pub first : NoneEnds start specs parts x rows ss n row

-- of the rows before the place, none from row m on is a candidate from whose tenth on it breaks
abbrev pub NoneBegins : List Spec → List Part → ℕ → List Row → List Stretch → ℕ → ℕ → Type 0
NoneBegins specs parts x rows ss n m = (i : ℕ) → m ≤ i → i < n → IsOwnRow specs parts rows ss i → BeginsBy specs parts x rows ss n (slice_index_or rows i no_row).at → ⊥

-- the last of them is at tenth u
pub record IsLastBegin (specs : List Spec) (parts : List Part) (x : ℕ) (rows : List Row) (ss : List Stretch) (n u : ℕ) : Type 0 where
  pub row : ℕ
  pub within : row < n
  pub own : IsOwnRow specs parts rows ss row
  pub at : u ≡ (slice_index_or rows row no_row).at
  pub begins : BeginsBy specs parts x rows ss n u
  pub last : NoneBegins specs parts x rows ss n (row + 1)
