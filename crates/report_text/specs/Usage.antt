-- The line for words that the program hasn't.
use Rattle.std.specs.Prelude.{ℕ, List, codes}

-- the line that says how the program is called
abbrev pub usage_text : List ℕ
usage_text = codes "usage: sigaudit --config C --script S [--rule K --at T] | --count F --signal ID --hour H | --pack F --signal ID --hour H | --demo N\n"
