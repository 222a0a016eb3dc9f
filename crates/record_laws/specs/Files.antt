-- What the records of a log file say.
use Rattle.std.specs.Prelude.{◌≡◌, ◌⊎◌, ◌↔◌, ◌≤◌, ◌+◌, ℕ, List, [], ◌∷◌, ◌++◌, map, length, zip, codes, All, Ok, Err}
use Rattle.std.specs.Char.{to_ascii_lowercase}
use Rattle.csv.specs.Reading.{default_config, records, strip_bom}
use Rattle.sig_base.specs.declared.values.Row.{Row}
use Rattle.row_reader.specs.declared.row_error.RowError.{RowError}
use Rattle.row_reader.specs.Rows.{Wanted, good_rows}
use Rattle.row_reader.specs.Trim.{trimmed}
use Rattle.record_laws.specs.Records.{GivesRow, IsRefused}

-- the first field of the record, without the spaces at its ends, is `signalid` or `locationidentifier` in any ASCII case
abbrev pub IsHeader : List (List ℕ) → Type 0
IsHeader fields =
    (first : List ℕ) × (others : List (List ℕ)) × (map trimmed fields ≡ first ∷ others)
    × ((map to_ascii_lowercase first ≡ codes "signalid") ⊎ (map to_ascii_lowercase first ≡ codes "locationidentifier"))

-- these are the records behind the header where the first record is one, and else all of them
abbrev pub IsBody : List (List (List ℕ)) → List (List (List ℕ)) → Type 0
IsBody records body =
    ((header : List (List ℕ)) × (records ≡ header ∷ body) × IsHeader header)
    ⊎ ((records ≡ body) × ((first : List (List ℕ)) (others : List (List (List ℕ))) → records ≡ first ∷ others → ¬ IsHeader first))

-- the records say these rows: at most 400,000 records behind the header, as many rows, and each record the row of its place
pub record GiveRows (w : Wanted) (records : List (List (List ℕ))) (rows : List Row) : Type 0 where
  pub body : List (List (List ℕ))
  pub behind : IsBody records body
  pub few : length body ≤ 400000
  pub count : length body ≡ length rows
  pub each : All (λ pair. GivesRow w pair.0 pair.1) (zip body rows)

-- the records before some record, which is no header, say rows, and that one is refused; its number counts from 1, with the header
pub record AreRefused (w : Wanted) (records : List (List (List ℕ))) (error : RowError) : Type 0 where
  pub before : List (List (List ℕ))
  pub fields : List (List ℕ)
  pub after : List (List (List ℕ))
  pub rows : List Row
  pub parts : records ≡ before ++ fields ∷ after
  pub good : GiveRows w before rows
  pub no_header : before ≡ [] → ¬ IsHeader fields
  pub refused : IsRefused w (length rows) (length before + 1) fields error

-- a file gives rows exactly where its records say them
abbrev pub FilesGiveRows : Type 0
FilesGiveRows = (w : Wanted) (bytes : List ℕ) (rows : List Row) → (good_rows w bytes ≡ Ok rows) ↔ GiveRows w (records default_config (strip_bom bytes)) rows

-- a file gives an error exactly where some record is the first to be refused, and with it
abbrev pub FilesAreRefused : Type 0
FilesAreRefused = (w : Wanted) (bytes : List ℕ) (error : RowError) → (good_rows w bytes ≡ Err error) ↔ AreRefused w (records default_config (strip_bom bytes)) error
