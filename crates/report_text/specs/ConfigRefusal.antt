-- The line of a refused configuration.
use Rattle.std.specs.Prelude.{◌++◌, ℕ, Bool, true, false, if◌then◌else◌, List, [], ◌∷◌, codes, decimal}
use Rattle.report_text.specs.Line.{line_of, num}
use Rattle.report_text.specs.Rules.{joined}
use Rattle.ring_config.specs.declared.error.ConfigError.{ConfigError}
use Rattle.ring_config.specs.declared.error.ConfigError.TheVariants.{NotToml, Missing, BadValue, Unknown, Repeated, TooMany, Memory}
use Rattle.ring_config.specs.declared.error.KeyAt.{KeyAt}
use Rattle.ring_config.specs.declared.error.TableName.{TableName}
use Rattle.ring_config.specs.declared.error.TableName.TheVariants as tables
use Rattle.ring_config.specs.declared.error.KeyName.{KeyName}
use Rattle.ring_config.specs.Reading.{key_text}

-- the name of a table as a refusal prints it; top is the file itself
abbrev pub table_text : TableName → List ℕ
table_text tables.Top = codes "top"
table_text tables.Phase = codes "phase"
table_text tables.Ped = codes "ped"
table_text tables.Overlap = codes "overlap"
table_text tables.Preempt = codes "preempt"
table_text tables.Conflict = codes "conflict"
table_text tables.Allow = codes "allow"
table_text tables.Floor = codes "floor"
table_text tables.Interval = codes "interval"
table_text tables.Approach = codes "approach"

-- the table is the file itself
abbrev pub is_top : TableName → Bool
is_top tables.Top = true
is_top _ = false

-- the line of a fault at a key of the file itself, or of the entry of a table that has this number
abbrev pub fault_text : List ℕ → KeyAt → List ℕ
fault_text fault at =
    joined (codes "config refused: " ∷ fault ∷ []) ++ (if is_top at.table then line_of (codes "top." ∷ key_text at.key ∷ [])
    else line_of (table_text at.table ∷ num "[" at.entry ∷ codes "]." ∷ key_text at.key ∷ []))

-- the line of a refused configuration; out of memory has none
abbrev pub config_text : ConfigError → List ℕ
config_text NotToml = codes "config refused: not toml\n"
config_text (Missing at) = fault_text (codes "missing ") at
config_text (BadValue at) = fault_text (codes "bad value ") at
config_text (Unknown at) = fault_text (codes "unknown ") at
config_text (Repeated at) = fault_text (codes "repeated ") at
config_text (TooMany at) = fault_text (codes "too many ") at
config_text Memory = []

-- ---- For contracts alone: parts of these texts as the code writes them, and what they need

-- the place of a key of the file itself, or of the entry of a table that has this number
abbrev pub place_text : TableName → ℕ → KeyName → List ℕ
place_text table entry key =
    if is_top table then line_of (codes "top." ∷ key_text key ∷ [])
    else line_of (table_text table ∷ codes "[" ∷ decimal entry ∷ codes "]." ∷ key_text key ∷ [])

-- what stands before the place of a refusal
abbrev pub fault_head : List ℕ → List ℕ
fault_head fault = codes "config refused: " ++ (fault ++ [])

-- this is out of memory, which no definition gives
abbrev pub is_config_memory : ConfigError → Bool
is_config_memory Memory = true
is_config_memory _ = false
