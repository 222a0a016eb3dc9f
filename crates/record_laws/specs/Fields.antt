-- A field without the spaces at its ends.
use Rattle.std.specs.Prelude.{◌≡◌, ◌≢◌, ◌↔◌, ℕ, List, ◌++◌, replicate, codes}
use Rattle.row_reader.specs.Trim.{trimmed}

-- the text is the field after some spaces (0x20) or none and before some or none, and the field itself neither begins nor ends with one
pub record IsTrimmed (text field : List ℕ) : Type 0 where
  pub before : ℕ
  pub after : ℕ
  pub form : text ≡ replicate before 0x20 ++ field ++ replicate after 0x20
  pub begins : (rest : List ℕ) → field ≢ codes " " ++ rest
  pub ends : (rest : List ℕ) → field ≢ rest ++ codes " "

-- exactly this is left of a text without the spaces at its ends
abbrev pub FieldsAreTrimmed : Type 0
FieldsAreTrimmed = (text field : List ℕ) → (trimmed text ≡ field) ↔ IsTrimmed text field
