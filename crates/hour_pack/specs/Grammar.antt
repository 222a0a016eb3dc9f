-- The bytes of a packed hour.
--   packed = mark signal hour count row*
--   mark   = 00 53 47 50
--   signal = one byte with the length of the signal's identifier, and the identifier
--   hour   = `YYYY-MM-DDTHH` of the hour's first tenth
--   count  = four bytes, the highest first: how many rows follow
--   row    = number code number: the tenths since the row before, or since the hour's start; one byte; the parameter
use Rattle.std.specs.Prelude.{◌<◌, ◌-◌, ◌*◌, ℕ, List, [], ◌∷◌, ◌++◌, length, take, ⊤}
use Rattle.std.specs.Int.{w32, to_be_bytes}
use Rattle.std.specs.List.{AllByRecursion}
use Rattle.sig_base.specs.declared.values.Row.{Row}
use Rattle.sig_base.specs.HourRows.{AreRowsOf}
use Rattle.sig_base.specs.Stamp.{stamp_at}
use Rattle.sig_base.specs.Window.{Span}
use Rattle.row_reader.specs.Repeats.{HasNoRepeat}
use Rattle.hour_pack.specs.Number.{number_bytes}

-- each is a byte
abbrev pub AreBytes : List ℕ → Type 0
AreBytes [] = ⊤
AreBytes (b ∷ bs) = (b < 256) × AreBytes bs

-- the four bytes with which a packed hour begins
abbrev pub mark : List ℕ
mark = 0x00 ∷ 0x53 ∷ 0x47 ∷ 0x50 ∷ []

-- the hour in a packed hour: `YYYY-MM-DDTHH`
unfoldable pub hour_part : Span → ℕ → List ℕ
hour_part window hour = take 13 (stamp_at window (36000 * hour))

-- the bytes of rows, each behind the one before it: the tenths since that one, or since the hour's start, the code and the parameter
abbrev pub rows_bytes : ℕ → List Row → List ℕ
rows_bytes last [] = []
rows_bytes last (row ∷ rows) = number_bytes (row.at - last) ++ (row.code ∷ number_bytes row.param) ++ rows_bytes row.at rows

-- the packed hour of these rows, of this signal and this hour of the window: mark, length of the signal, signal, hour, count, rows
unfoldable pub packed : List ℕ → Span → ℕ → List Row → List ℕ
packed signal window hour rows =
    mark ++ (length signal ∷ signal) ++ hour_part window hour ++ to_be_bytes w32 (length rows) ++ rows_bytes (36000 * hour) rows

-- ---- for contracts alone

-- the signal in a packed hour: the length of its identifier, and the identifier
abbrev pub signal_part : List ℕ → List ℕ
signal_part signal = length signal ∷ signal

-- what stands in a packed hour before the number of rows
abbrev pub head_bytes : List ℕ → Span → ℕ → List ℕ
head_bytes signal window hour = mark ++ signal_part signal ++ hour_part window hour

-- the bytes of a row, where the row before it, or the hour's start, is at this tenth
abbrev pub row_bytes : ℕ → Row → List ℕ
row_bytes last row = number_bytes (row.at - last) ++ row.code ∷ number_bytes row.param

-- the code has one byte, the parameter two
pub record IsEvent (row : Row) : Type 0 where
  pub code : row.code < 256
  pub param : row.param < 65536

-- the rows that a packed hour can have
pub record ArePackable (hour : ℕ) (rows : List Row) : Type 0 where
  pub of_hour : AreRowsOf hour rows
  pub events : AllByRecursion IsEvent rows
  pub no_repeat : HasNoRepeat [] rows
