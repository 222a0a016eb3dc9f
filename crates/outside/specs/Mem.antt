-- What the shelf and the sink in memory hold.
use Rattle.std.specs.Prelude.{if◌then◌else◌, ℕ, List, [], ◌∷◌, Some, None, string_bytes}
use Rattle.std.specs.Str.{bytes_eq}
use Rattle.outside.specs.Shelf.{Files, Counts}
use Rattle.outside.specs.declared.mem_shelf.MemFile.{MemFile}

-- a name and the bytes under it
abbrev pub Named : Type 0
Named = List ℕ × List ℕ

abbrev pub named_of : List MemFile → List Named
named_of [] = []
named_of (f ∷ fs) = (string_bytes f.name, f.bytes.items) ∷ named_of fs

-- the first of these files with this name
abbrev pub file_at : List Named → Files
file_at [] name = None
file_at (f ∷ fs) name = if bytes_eq f.0 name then Some f.1 else file_at fs name

-- what a shelf in memory is: its files, newest first, the numbers of the fetches that fail, how many fetches came, and the counts of its answers
pub record Held : Type 0 where
  pub files : List Named
  pub failing : List ℕ
  pub calls : ℕ
  pub counts : Counts
