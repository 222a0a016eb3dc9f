-- Whether rows have a repeat.
use Rattle.std.specs.Prelude.{◌≡◌, true, List, ◌∷◌, ◌++◌}
use Rattle.sig_base.specs.declared.values.Row.{Row}
use Rattle.row_reader.specs.Repeats.{is_repeat}

-- one of the rows is a repeat, behind those before it
abbrev pub HasRepeat : List Row → Type 0
HasRepeat rows = (before : List Row) × (row : Row) × (after : List Row) × (rows ≡ before ++ row ∷ after) × (is_repeat before row ≡ true)
